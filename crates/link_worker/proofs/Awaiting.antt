-- How a lookup goes on: what its calls are while its query is open, and at its end.
use Rattle.std.proofs.Common.{◌≡◌, ℕ, ◌<◌, ◌≤◌, true, false, List, [], ◌∷◌, ◌++◌, length, take, drop, slice_get, inl, inr, append-nil, append_assoc, length-take-le, take-append-drop, take-take, refl, sym, ap, subst, ◌∙◌, arith, Some, All}
use Rattle.std.proofs.lemmas.List.Elements.{All-head, All-tail}
use Rattle.orc_ids.specs.declared.ids.QueryId.{QueryId}
use Rattle.session_model.specs.Calls.{IsJob, Works, is_collected}
use Rattle.session_model.specs.Calls.{Collects as Collected, Job as AJob}
use Rattle.session_model.specs.Meaning.{Meaning}
use Rattle.session_model.specs.Plain.{Plain, empty}
use Rattle.session_model.specs.Query.{is_met}
use Rattle.session_model.specs.State.{IsOpen, plain_history, state}
use Rattle.session_model.specs.declared.entry.Entry.{Entry}
use Rattle.session_model.specs.declared.entry.Event.TheVariants as event
use Rattle.session_model.specs.declared.entry.Reply.TheVariants as reply
use Rattle.session_model.specs.declared.rows.Query.{Query}
use Rattle.session_laws.proofs.Declared.{same_element, query_stays, state_from_joined}
use Rattle.turn_lock.specs.declared.view.View.{View}
use Rattle.link_worker.specs.Jobs.{SpareAll, is_cut_fail}
use Rattle.session_model.specs.Ends.{LastIs}
use Rattle.session_model.specs.Stopped.{IsCutShort}
use Rattle.session_model.proofs.Lasts.{split_end}
use Rattle.link_worker.specs.Looks.{Waits}
use Rattle.link_worker.specs.Works.{OneJobAtMost}
use Rattle.link_worker.proofs.Knowing.{Between}
use Rattle.link_worker.proofs.Sparing.{spare_both, spare_one}

-- Lists

split_last : {X : Type 0} (P : X → Type 0) (x : X) (xs : List X) → All P (x ∷ xs) → (before : List X) × (last : X) × (x ∷ xs ≡ before ++ last ∷ []) × P last
split_last P x [] a = ([], x, refl, All-head P x [] a)
split_last P x (y ∷ ys) a = let r = split_last P y ys (All-tail P x (y ∷ ys) a) in (x ∷ r.0, r.1, ap (λ l. x ∷ l) r.2, r.3)

-- how many entries a pass has seen
abbrev pub seen_count : {U : Type 0} → (U → Meaning) → View (Entry U) → ℕ
seen_count means v = length (plain_history means v.seen)

-- Queries in the past

-- a query that was there is there later
pub there_on : (h : List (Entry Meaning)) (n m k : ℕ) (q : Query) → n ≤ m → slice_get (state (take n h)).queries k ≡ Some q → slice_get (state (take m h)).queries k ≡ Some q
there_on h n m k q within t = subst (λ l. slice_get (state l).queries k ≡ Some q) (take-append-drop n (take m h))
    (subst (λ (s : Plain). slice_get s.queries k ≡ Some q) (sym (state_from_joined empty (take n (take m h)) (drop n (take m h))))
    (query_stays (state (take n (take m h))) (drop n (take m h)) k q (subst (λ l. slice_get (state l).queries k ≡ Some q) (sym (take-take n m h within)) t)))

-- one that is open was open before
open_at : (h : List (Entry Meaning)) (q : Query) (n m : ℕ) → n ≤ m → m ≤ length h → IsOpen (take m h) q → IsOpen (take n h) q
open_at h q n m within here o = record {
  unmet = λ k asked below. let small : k ≤ n = omega (arith, below, length-take-le n h (omega (arith, within, here))) in
      subst (λ l. is_met (state l).rows q ≡ false) (take-take k m h (omega (arith, small, within)) ∙ sym (take-take k n h small))
      (o.unmet k asked (omega (arith, small, within, length-take-le m h here)));
}

-- Waiting

-- the query is still open after the last call
pub record StillWaits (q : QueryId) (n k : ℕ) (h : List (Entry Meaning)) (cs : List (ℕ × Entry Meaning)) : Type 0 where
  pub waits : Waits q n k h cs
  pub open_then : IsOpen (take waits.last h) waits.query

-- the query is open in a history of so many entries
pub record OpenAt (q : QueryId) (k : ℕ) (h : List (Entry Meaning)) : Type 0 where
  pub here : k ≤ length h
  pub query : Query
  pub there : slice_get (state (take k h)).queries q.0 ≡ Some query
  pub unsettled : IsOpen (take k h) query

pub waits_still : (q : QueryId) (n k m : ℕ) (h : List (Entry Meaning)) (cs : List (ℕ × Entry Meaning)) → k ≤ m → Waits q n k h cs → OpenAt q m h → StillWaits q n m h cs
waits_still q n k m h cs within w o = record {
  waits = record { last = w.last; within = omega (arith, w.within, within); query = w.query; there = w.there; rest = w.rest; spare = w.spare };
  open_then = open_at h w.query w.last m (omega (arith, w.within, within)) o.here
      (subst (λ z. IsOpen (take m h) z) (same_element (slice_get (state (take m h)).queries q.0) o.query w.query o.there (there_on h w.last m q.0 w.query (omega (arith, w.within, within)) w.there)) o.unsettled);
}

-- one job more
pub waits_on : (q : QueryId) (n k m : ℕ) (h : List (Entry Meaning)) (cs ds : List (ℕ × Entry Meaning)) → StillWaits q n k h cs → IsJob h ds → SpareAll ds → Between k m ds → Waits q n m h (cs ++ ds)
waits_on q n k m h cs [] w job spared between = absurd job
waits_on q n k m h cs (d ∷ ds) w job spared between =
    let s = split_last (λ c. (k < c.0) × (c.0 ≤ m)) d ds between in
    let x = w.waits in
    subst (λ l. Waits q n m h (cs ++ l)) (sym s.2) (record {
      last = s.1.0;
      within = s.3.1;
      query = x.query;
      there = there_on h x.last s.1.0 q.0 x.query (omega (arith, x.within, s.3.0)) x.there;
      rest = λ es works. subst (Works h q n) (sym (append_assoc cs (s.0 ++ s.1 ∷ []) es))
          (x.rest ((s.0 ++ s.1 ∷ []) ++ es) (subst (Works h q x.last) (sym (append_assoc s.0 (s.1 ∷ []) es))
          (AJob x.last 0 x.query s.1 s.0 es x.there w.open_then (subst (IsJob h) s.2 job) works)));
      spare = spare_both cs (s.0 ++ s.1 ∷ []) x.spare (subst SpareAll s.2 spared);
    })

-- nothing was done
pub waits_idle : (q : QueryId) (n k m : ℕ) (h : List (Entry Meaning)) (cs ds : List (ℕ × Entry Meaning)) → k ≤ m → StillWaits q n k h cs → ds ≡ [] → Waits q n m h (cs ++ ds)
waits_idle q n k m h cs ds within w none = subst (Waits q n m h) (sym (append-nil cs) ∙ ap (λ l. cs ++ l) (sym none))
    (record { last = w.waits.last; within = omega (arith, w.waits.within, within); query = w.waits.query; there = w.waits.there; rest = w.waits.rest; spare = w.waits.spare })

-- the end of the query is taken
pub waits_end : (q : QueryId) (n k m : ℕ) (h : List (Entry Meaning)) (cs ds : List (ℕ × Entry Meaning)) (e : Entry Meaning) → Waits q n k h cs → e.event ≡ event.Collect q → is_collected e.reply ≡ true → ds ≡ (m, e) ∷ [] →
    Works h q n (cs ++ ds) × LastIs (cs ++ ds) e.reply × SpareAll (cs ++ ds)
waits_end q n k m h cs ds e w collects is are = subst (λ l. Works h q n (cs ++ l) × LastIs (cs ++ l) e.reply × SpareAll (cs ++ l)) (sym are) (
  w.rest ((m, e) ∷ []) (Collected w.last m e collects is),
  record { before = cs; number = m; entry = e; are = refl; reply = refl },
  spare_both cs ((m, e) ∷ []) w.spare (spare_one m e (ap is_cut_fail collects)),
)

-- an entry that would take the end
abbrev collect_entry : QueryId → Entry Meaning
collect_entry q = record { seat = record { 0 = 0 }; event = event.Collect q; reply = reply.Found 0 [] }

-- a stop leaves the beginning of such a list
pub waits_stopped : (q : QueryId) (n k : ℕ) (h : List (Entry Meaning)) (cs : List (ℕ × Entry Meaning)) → Waits q n k h cs → IsCutShort (Works h q n) cs
waits_stopped q n k h cs w = record { rest = (0, collect_entry q) ∷ []; would = w.rest ((0, collect_entry q) ∷ []) (Collected w.last 0 (collect_entry q) refl refl); more = λ e. cc }

-- a job in which a call was stopped is the last of the calls
cut_in : (q : QueryId) (n k : ℕ) (h : List (Entry Meaning)) (cs ds : List (ℕ × Entry Meaning)) → StillWaits q n k h cs → IsJob h ds → IsCutShort (Works h q n) (cs ++ ds)
cut_in q n k h cs [] w job = absurd job
cut_in q n k h cs (d ∷ ds) w job =
    let s = split_end d ds in
    let x = w.waits in
    let end : List (ℕ × Entry Meaning) = (0, collect_entry q) ∷ [] in
    record {
      rest = end;
      would = subst (Works h q n) (sym (append_assoc cs (d ∷ ds) end)) (x.rest ((d ∷ ds) ++ end)
          (subst (λ l. Works h q x.last (l ++ end)) (sym s.2) (subst (Works h q x.last) (sym (append_assoc s.0 (s.1 ∷ []) end))
          (AJob x.last 0 x.query s.1 s.0 end x.there w.open_then (subst (IsJob h) s.2 job) (Collected s.1.0 0 (collect_entry q) refl refl)))));
      more = λ e. cc;
    }

pub waits_cut : (q : QueryId) (n k m : ℕ) (h : List (Entry Meaning)) (cs ds : List (ℕ × Entry Meaning)) → k ≤ m → StillWaits q n k h cs → OneJobAtMost h ds → IsCutShort (Works h q n) (cs ++ ds)
waits_cut q n k m h cs ds within w (inl none) = waits_stopped q n m h (cs ++ ds) (waits_idle q n k m h cs ds within w none)
waits_cut q n k m h cs ds within w (inr job) = cut_in q n k h cs ds w job
