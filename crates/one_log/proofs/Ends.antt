-- Two runs of one history ended alike.
use Rattle.std.proofs.Common.{◌≡◌, ℕ, ◌+◌, true, false, List, [], ◌∷◌, ◌++◌, length, take, refl, sym, ap, ◌∙◌, subst, arith, Option, Some}
use Rattle.std.proofs.lemmas.Bool.{both_ways}
use Rattle.std.proofs.lemmas.List.{length-append, length-map, length-take-le}
use Rattle.code_memory.specs.Mapped.{byte_at}
use Rattle.code_memory.specs.declared.image.Segment.{Segment}
use Rattle.orc_ids.specs.declared.ids.InstId.{InstId}
use Rattle.orc_ids.specs.declared.ids.NameId.{NameId}
use Rattle.session_model.specs.Answer.{Answers}
use Rattle.session_model.specs.Calls.{numbered_calls}
use Rattle.session_model.specs.History.{IsLegal}
use Rattle.session_model.specs.Meaning.{Meaning}
use Rattle.session_model.specs.Memory.{memory}
use Rattle.session_model.specs.State.{state}
use Rattle.session_model.specs.declared.entry.Entry.{Entry}
use Rattle.session_model.specs.declared.entry.Event.TheVariants as event
use Rattle.session_model.specs.declared.entry.Reply.{Reply}
use Rattle.session_model.specs.declared.entry.Reply.TheVariants as reply
use Rattle.session_laws.proofs.Declared.{element_below}
use Rattle.memory_laws.specs.Objects.{setup_events}
use Rattle.run_laws.specs.Ended.{Ended, IsRefusedAt, IsRun, client_calls, is_whole}
use Rattle.run_laws.specs.declared.linked.Linked.{Linked}
use Rattle.run_laws.specs.declared.linked.Linked.TheVariants as linked
use Rattle.run_laws.proofs.Seats.{call_stands, calls_past, legal_at, never_empty, same_front, same_last}
use Rattle.one_log.specs.Beginnings.{EndAlike}
use Rattle.one_log.proofs.Runs.{events_count}

-- Lists

same_bytes : (f g : ℕ → Option ℕ) → ((a : ℕ) → f a ≡ g a) → f ≡ g
same_bytes f g h = λ i a. h a i

abbrev address_in : Reply → ℕ
address_in (reply.Found at (Some (i, address) ∷ rest)) = address
address_in _ = 0

-- The last call of the client

-- it was answered so, or it is the copy of the memory
abbrev EndsAt : List (Entry Meaning) → (Reply → Type 0) → Type 0
EndsAt h P = (before : List (ℕ × Entry Meaning)) × (c : ℕ × Entry Meaning) × (client_calls h ≡ before ++ c ∷ []) × P c.1.reply

one_reply : {G : Type 0} (P Q : Reply → Type 0) (h : List (Entry Meaning)) → ((r : Reply) → P r → Q r → G) → EndsAt h P → EndsAt h Q → G
one_reply P Q h f (before, c, are, p) (front, d, is, q) = f d.1.reply (subst (λ (x : ℕ × Entry Meaning). P x.1.reply) (same_last before front c d (sym are ∙ is)) p) q

copy_reply : (jmax : ℕ) (h : List (Entry Meaning)) → IsLegal jmax h → (before : List (ℕ × Entry Meaning)) (c : ℕ × Entry Meaning) → client_calls h ≡ before ++ c ∷ [] → c.1.event ≡ event.Image → c.1.reply ≡ reply.Image
copy_reply jmax h l before c are is =
    let p = call_stands 1 1 h before [] c are in
    subst (λ v. Answers jmax p.past (state p.past) c.1.seat.0 v c.1.reply) is (legal_at jmax p.past c.1 p.rest (subst (IsLegal jmax) p.parts l)).answers

module _ (jmax : ℕ) (main entry : NameId) (units : List Meaning) (h : List (Entry Meaning)) where
  -- a refused definition is the last entry, and the client has none
  none_called : (end : Linked) (run : IsRun jmax 0 main entry units h end) → run.later ≡ [] → client_calls h ≡ []
  none_called end run none = ap (numbered_calls 1 1) run.parts ∙ (calls_past 1 1 run.setup run.later run.setup_seat (omega arith) ∙ ap (numbered_calls 1 (1 + length run.setup)) none)

  refused_count : (end : Linked) (run : IsRun jmax 0 main entry units h end) (k : ℕ) → IsRefusedAt main units k run.setup → run.later ≡ [] → length h ≡ 3 + k
  refused_count end run k r none = omega (
    arith,
    ap length run.parts,
    length-append run.setup run.later,
    ap length none,
    ap length r.are,
    length-append r.before (r.last ∷ []),
    length-map r.before (λ (e : Entry Meaning). e.event),
    ap length r.first.events,
    length-take-le (2 + k) (setup_events main units) (omega (arith, events_count main units, element_below units k r.unit r.there)),
  )

  data Whole : Linked → Type 0 where
    IsRefused : (k : ℕ) → length h ≡ 3 + k → client_calls h ≡ [] → Whole (linked.Refused k)
    IsMissing : EndsAt h (λ r. r ≡ reply.Missing entry) → Whole linked.Missing
    IsFailed : (i : InstId) → EndsAt h (λ r. (at : ℕ) × (r ≡ reply.Lost at i)) → Whole (linked.Failed i)
    IsFound : (before : List (ℕ × Entry Meaning)) (c copy : ℕ × Entry Meaning) (at address : ℕ) (i : InstId) (ranges : List Segment) → client_calls h ≡ (before ++ c ∷ []) ++ copy ∷ [] → copy.1.reply ≡ reply.Image → c.1.reply ≡ reply.Found at (Some (i, address) ∷ []) →
        ((a : ℕ) → byte_at ranges a ≡ memory (state (take copy.0 h)) a) → Whole (linked.Found address ranges)

  whole : (end last : Linked) (run : IsRun jmax 0 main entry units h end) → is_whole last ≡ true → Ended jmax main entry units h run.setup run.later last → Whole last
  whole end last run w (Ended.InDefinition k r none) = IsRefused k (refused_count end run k r none) (none_called end run none)
  whole end last run w (Ended.InSetUp n st first is few none cause) = absurd (both_ways false refl w)
  whole end last run w (Ended.InLookup st s stopped cause) = absurd (both_ways false refl w)
  whole end last run w (Ended.NotThere before n c s calls looks is) = IsMissing (before, (n, c), calls, is)
  whole end last run w (Ended.NotReady before n c at i s calls looks is) = IsFailed i (before, (n, c), calls, (at, is))
  whole end last run w (Ended.IsReady before m n at address c copy i ranges s calls looks is image has) = IsFound before (m, c) (n, copy) at address i ranges calls (copy_reply jmax h run.legal (before ++ (m, c) ∷ []) (n, copy) calls image) is has

  ends_image : (before : List (ℕ × Entry Meaning)) (c copy : ℕ × Entry Meaning) → client_calls h ≡ (before ++ c ∷ []) ++ copy ∷ [] → copy.1.reply ≡ reply.Image → EndsAt h (λ r. r ≡ reply.Image)
  ends_image before c copy are is = (before ++ c ∷ [], copy, are, is)

  called : {G : Type 0} (P : Reply → Type 0) → client_calls h ≡ [] → EndsAt h P → G
  called P none (before, c, are, p) = never_empty before c [] (sym are ∙ none)

  alike : (a b : Linked) → Whole a → Whole b → EndAlike a b
  alike _ _ (IsRefused k is none) (IsRefused j same other) = omega (arith, is, same)
  alike _ _ (IsRefused k is none) (IsMissing e) = called _ none e
  alike _ _ (IsRefused k is none) (IsFailed i e) = called _ none e
  alike _ _ (IsRefused k is none) (IsFound before c copy at address i ranges are image found has) = called _ none (ends_image before c copy are image)
  alike _ _ (IsMissing e) (IsRefused j same other) = called _ other e
  alike _ _ (IsMissing e) (IsMissing d) = tt
  alike _ _ (IsMissing e) (IsFailed i d) = one_reply _ _ h (λ r p q. let f : reply.Missing entry ≡ reply.Lost q.0 i = sym p ∙ q.1 in absurd (cc)) e d
  alike _ _ (IsMissing e) (IsFound before c copy at address i ranges are image found has) = one_reply _ _ h (λ r p q. let f : reply.Missing entry ≡ reply.Image = sym p ∙ q in absurd (cc)) e (ends_image before c copy are image)
  alike _ _ (IsFailed i e) (IsRefused j same other) = called _ other e
  alike _ _ (IsFailed i e) (IsMissing d) = one_reply _ _ h (λ r p q. let f : reply.Lost p.0 i ≡ reply.Missing entry = sym p.1 ∙ q in absurd (cc)) e d
  alike _ _ (IsFailed i e) (IsFailed j d) = one_reply _ _ h (λ r p q. lost p.0 q.0 i j (sym p.1 ∙ q.1)) e d
    where
      lost : (m n : ℕ) (x y : InstId) → reply.Lost m x ≡ reply.Lost n y → x ≡ y
      lost m n x y f = cc
  alike _ _ (IsFailed i e) (IsFound before c copy at address j ranges are image found has) = one_reply _ _ h (λ r p q. let f : reply.Lost p.0 i ≡ reply.Image = sym p.1 ∙ q in absurd (cc)) e (ends_image before c copy are image)
  alike _ _ (IsFound before c copy at address i ranges are image found has) (IsRefused j same other) = called _ other (ends_image before c copy are image)
  alike _ _ (IsFound before c copy at address i ranges are image found has) (IsMissing d) = one_reply _ _ h (λ r p q. let f : reply.Image ≡ reply.Missing entry = sym p ∙ q in absurd (cc)) (ends_image before c copy are image) d
  alike _ _ (IsFound before c copy at address i ranges are image found has) (IsFailed j d) = one_reply _ _ h (λ r p q. let f : reply.Image ≡ reply.Lost q.0 j = sym p ∙ q.1 in absurd (cc)) (ends_image before c copy are image) d
  alike _ _ (IsFound before c copy at address i ranges are image found has) (IsFound front d image_call at' other j segments is image' found' has') = (
    ap address_in (sym found ∙ (ap (λ (x : ℕ × Entry Meaning). x.1.reply) (same_last before front c d (same_front (before ++ c ∷ []) (front ++ d ∷ []) copy image_call (sym are ∙ is))) ∙ found')),
    same_bytes (byte_at ranges) (byte_at segments) (λ a. has a ∙ (ap (λ n. memory (state (take n h)) a) (ap (λ (x : ℕ × Entry Meaning). x.0) (same_last (before ++ c ∷ []) (front ++ d ∷ []) copy image_call (sym are ∙ is))) ∙ sym (has' a))),
  )

pub ends_alike : (jmax : ℕ) (main entry : NameId) (units : List Meaning) (h g : List (Entry Meaning)) (h_end g_end : Linked) → IsRun jmax 0 main entry units h h_end → IsRun jmax 0 main entry units g g_end → h ≡ g → is_whole h_end ≡ true → is_whole g_end ≡ true → EndAlike h_end g_end
ends_alike jmax main entry units h g h_end g_end h_run g_run e w v =
    let run : IsRun jmax 0 main entry units h g_end = subst (λ l. IsRun jmax 0 main entry units l g_end) (sym e) g_run in
    alike jmax main entry units h h_end g_end (whole jmax main entry units h h_end h_end h_run w h_run.ended) (whole jmax main entry units h g_end g_end run v run.ended)
