-- The notes of a history with one more entry.
use Rattle.std.proofs.Common.{◌≡◌, ℕ, suc, ◌+◌, ◌<◌, ◌⊎◌, inl, inr, Bool, true, false, List, [], ◌∷◌, ◌++◌, length, map, flat_map, slice_get, Option, Some, None, option_map, refl, ap, ap₂, sym, subst, ◌∙◌}
use Rattle.std.specs.Bool.{if◌then◌else◌}
use Rattle.std.specs.Prelude.{◌==◌, option_and_then}
use Rattle.std.specs.Option.{option_map_or}
use Rattle.std.proofs.lemmas.Bool.{both_ways, eq-eqb, or_left, or_right}
use Rattle.std.proofs.lemmas.List.{length-append, map-append}
use Rattle.std.proofs.lemmas.Option.{none-some}
use Rattle.orc_ids.specs.declared.lookup.Outcome.{Outcome}
use Rattle.session_model.specs.Meaning.{Meaning}
use Rattle.session_model.specs.Plain.{Plain}
use Rattle.session_model.specs.Query.{ending}
use Rattle.session_model.specs.State.{state, IsOpen, IsEnd}
use Rattle.session_model.specs.declared.entry.Entry.{Entry}
use Rattle.session_model.specs.declared.rows.Ending.{Ending}
use Rattle.session_model.specs.declared.rows.Query.{Query}
use Rattle.session_laws.proofs.Declared.{element_below, appended_below, pushed_cases, pushed_last}
use Rattle.notifiers.specs.declared.notice.Notice.{Notice}
use Rattle.notifiers.specs.declared.notice.Unheard.{Unheard}
use Rattle.query_book.specs.Ends.{told_end}
use Rattle.query_book.specs.Rows.{notices}
use Rattle.closure_laws.specs.Quiet.{SettlesNow}
use Rattle.session_steps.specs.Fires.{AreFires, is_one_of, notice_of}
use Rattle.history_laws.specs.Notes.{event_note, armed_at, heard, AreNoted, AreTold}
use Rattle.history_laws.proofs.OneMore.{open_before, settling_was_open, settled_isnt_open, end_before_or_now}
use Rattle.history_laws.proofs.Unlodged.{Lodges}

-- The notifiers as the entry found them, with one for the query that it lodged.
pub record AreArmed {N : Type 0} (h : List (Entry Meaning)) (e : Entry Meaning) (armed : List (Option (Unheard N))) : Type 0 where
  pub count : length armed ≡ length (state (h ++ e ∷ [])).queries
  pub waiting : (k : ℕ) (q : Query) → slice_get (state (h ++ e ∷ [])).queries k ≡ Some q → IsOpen h q → option_map (λ a. a.note) (armed_at armed k) ≡ q.note
  pub settled : (k n : ℕ) (end : Ending) → IsEnd h k n end → armed_at armed k ≡ None

pub armed_same : {N : Type 0} (h : List (Entry Meaning)) (e : Entry Meaning) (armed : List (Option (Unheard N))) → AreNoted h armed → Lodges None (state h) (state (h ++ e ∷ [])).queries → AreArmed h e armed
armed_same h e armed noted same = record {
  count = noted.count ∙ ap length (sym same);
  waiting = λ k q t o. noted.waiting k q (ap (λ qs. slice_get qs k) (sym same) ∙ t) o;
  settled = noted.settled;
}

pub armed_grown : {N : Type 0} (h : List (Entry Meaning)) (e : Entry Meaning) (armed : List (Option (Unheard N))) (then' : Option (Unheard N)) → AreNoted h armed → option_map (λ a. a.note) then' ≡ event_note e.event → Lodges (Some (event_note e.event)) (state h) (state (h ++ e ∷ [])).queries → AreArmed h e (armed ++ then' ∷ [])
armed_grown {N} h e armed then' noted its (new, grown, asked, note) = record {
  count = length-append armed (then' ∷ []) ∙ (ap (λ n. n + 1) noted.count ∙ (sym (length-append queries (new ∷ [])) ∙ ap length (sym grown)));
  waiting = λ k q t o. split k q o (pushed_cases queries new k q (ap (λ qs. slice_get qs k) (sym grown) ∙ t));
  settled = λ k n end x. kept k (element_below queries k x.query x.there) ∙ noted.settled k n end x;
}
  where
    queries : List Query
    queries = (state h).queries

    kept : (k : ℕ) → k < length queries → armed_at (armed ++ then' ∷ []) k ≡ armed_at armed k
    kept k b = ap (option_and_then (λ (o : Option (Unheard N)). o)) (appended_below armed (then' ∷ []) k (subst (λ n. k < n) (sym noted.count) b))

    last : armed_at (armed ++ then' ∷ []) (length queries) ≡ then'
    last = ap (λ n. armed_at (armed ++ then' ∷ []) n) (sym noted.count) ∙ ap (option_and_then (λ (o : Option (Unheard N)). o)) (pushed_last armed then')

    split : (k : ℕ) (q : Query) → IsOpen h q → (slice_get queries k ≡ Some q) ⊎ ((k ≡ length queries) × (q ≡ new)) → option_map (λ a. a.note) (armed_at (armed ++ then' ∷ []) k) ≡ q.note
    split k q o (inl t) = ap (option_map (λ (a : Unheard N). a.note)) (kept k (element_below queries k q t)) ∙ noted.waiting k q t o
    split k q o (inr p) = ap (λ n. option_map (λ (a : Unheard N). a.note) (armed_at (armed ++ then' ∷ []) n)) p.0 ∙ (ap (option_map (λ (a : Unheard N). a.note)) last
        ∙ (its ∙ (sym note ∙ ap (λ (r : Query). r.note) (sym p.1))))

-- Lists

same_length : {X Y : Type 0} (f : ℕ → X → Y) (xs : List X) (ys : List Y) → ((k : ℕ) → slice_get ys k ≡ option_map (f k) (slice_get xs k)) → length ys ≡ length xs
same_length f [] [] h = refl
same_length f [] (y ∷ ys) h = absurd (none-some y (sym (h 0)))
same_length f (x ∷ xs) [] h = absurd (none-some (f 0 x) (h 0))
same_length f (x ∷ xs) (y ∷ ys) h = ap suc (same_length (λ k. f (suc k)) xs ys (λ k. h (suc k)))

-- a flat map whose parts are so for the numbers in the list
mapped_parts_are : {X Y : Type 0} (g : X → Y) (f : ℕ → List X) (f' : ℕ → List Y) (ns : List ℕ) → ((k : ℕ) → is_one_of k ns ≡ true → map g (f k) ≡ f' k) → map g (flat_map f ns) ≡ flat_map f' ns
mapped_parts_are g f f' [] h = refl
mapped_parts_are g f f' (n ∷ ns) h = map-append g (f n) (flat_map f ns) ∙ ap₂ (λ xs ys. xs ++ ys) (h n (or_left (n == n) (is_one_of n ns) (eq-eqb n n refl)))
    (mapped_parts_are g f f' ns (λ k c. h k (or_right (n == k) (is_one_of k ns) c)))

-- What is told

abbrev told_of : {N : Type 0} → Notice N → ℕ × Outcome
told_of f = (f.note, f.outcome)

notice_is : {N : Type 0} (o : Option (Unheard N)) (outcome : Outcome) → map told_of (notices o outcome) ≡ option_map_or (λ note. (note, outcome) ∷ []) (option_map (λ a. a.note) o) []
notice_is None outcome = refl
notice_is (Some a) outcome = refl

pub fires_noted : {N : Type 0} (h : List (Entry Meaning)) (e : Entry Meaning) (armed left : List (Option (Unheard N))) (fires : List (Notice N)) → AreArmed h e armed → AreFires (h ++ e ∷ []) armed left fires → AreNoted (h ++ e ∷ []) left × AreTold (h ++ e ∷ []) fires
fires_noted {N} h e armed left fires a f = (
  record { count = same_length (λ k o. if is_one_of k f.numbers then None else o) armed left f.others ∙ a.count; waiting = λ k q t o. waits k q t o (is_one_of k f.numbers) refl; settled = λ k n end x. ended k n end x (is_one_of k f.numbers) refl },
  record { numbers = f.numbers; rising = f.rising; settle = f.settle; told = ap (map told_of) f.told ∙ mapped_parts_are told_of (notice_of m armed) (heard h') f.numbers (λ k c. hears k ((f.settle k).0 c)) },
)
  where
    h' : List (Entry Meaning)
    h' = h ++ e ∷ []

    m : Plain
    m = state h'

    left_at : (k : ℕ) (b : Bool) → is_one_of k f.numbers ≡ b → armed_at left k ≡ (if b then None else armed_at armed k)
    left_at k b is = ap (option_and_then (λ (o : Option (Unheard N)). o)) (f.others k ∙ ap (λ c. option_map (λ (o : Option (Unheard N)). if c then None else o) (slice_get armed k)) is) ∙ both b (slice_get armed k)
      where
        both : (b : Bool) (o : Option (Option (Unheard N))) → option_and_then (λ (o : Option (Unheard N)). o) (option_map (λ (o : Option (Unheard N)). if b then None else o) o) ≡ (if b then None else option_and_then (λ (o : Option (Unheard N)). o) o)
        both true None = refl
        both true (Some o) = refl
        both false None = refl
        both false (Some o) = refl

    waits : (k : ℕ) (q : Query) → slice_get m.queries k ≡ Some q → IsOpen h' q → (b : Bool) → is_one_of k f.numbers ≡ b → option_map (λ a. a.note) (armed_at left k) ≡ q.note
    waits k q t o true is = absurd (settled_isnt_open h' k q t o ((f.settle k).0 is))
    waits k q t o false is = ap (option_map (λ (a : Unheard N). a.note)) (left_at k false is) ∙ a.waiting k q t (open_before h e q o)

    ended : (k n : ℕ) (end : Ending) → IsEnd h' k n end → (b : Bool) → is_one_of k f.numbers ≡ b → armed_at left k ≡ None
    ended k n end x true is = left_at k true is
    ended k n end x false is = left_at k false is ∙ split (end_before_or_now h e k n end x)
      where
        split : IsEnd h k n end ⊎ SettlesNow h' k → armed_at armed k ≡ None
        split (inl old) = a.settled k n end old
        split (inr now) = absurd (both_ways (is_one_of k f.numbers) is ((f.settle k).1 now))

    hears : (k : ℕ) → SettlesNow h' k → map told_of (notice_of m armed k) ≡ heard h' k
    hears k (q, there, settles) = ap (λ o. map told_of (option_map_or (λ (q : Query). notices (armed_at armed k) (record { query = record { 0 = k }; end = told_end m.entries (ending m.rows q) })) o [])) there
        ∙ (notice_is (armed_at armed k) (record { query = record { 0 = k }; end = told_end m.entries (ending m.rows q) })
        ∙ (ap (λ o. option_map_or (λ note. (note, record { query = record { 0 = k }; end = told_end m.entries (ending m.rows q) }) ∷ []) o []) (a.waiting k q there (settling_was_open h e q settles))
        ∙ ap (λ o. option_map_or (λ (q : Query). option_map_or (λ note. (note, record { query = record { 0 = k }; end = told_end m.entries (ending m.rows q) }) ∷ []) q.note []) o []) (sym there)))

-- where no query settles, nobody is told
pub none_fire : {N : Type 0} (h : List (Entry Meaning)) (armed : List (Option (Unheard N))) → ((k : ℕ) → SettlesNow h k → ⊥) → AreFires h armed armed []
none_fire {N} h armed none = record { numbers = []; rising = tt; settle = λ k. (λ c. absurd (both_ways false refl c), λ w. absurd (none k w)); told = refl; others = λ k. same (slice_get armed k) }
  where
    same : (o : Option (Option (Unheard N))) → o ≡ option_map (λ o. o) o
    same None = refl
    same (Some o) = refl
