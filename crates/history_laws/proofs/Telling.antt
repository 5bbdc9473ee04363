-- What is told at one entry.
use Rattle.std.proofs.Common.{◌≡◌, ℕ, ◌+◌, true, ◌==◌, ◌⊎◌, inl, inr, List, [], ◌∷◌, ◌++◌, All, length, map, flat_map, slice_get, take, Option, None, Some, refl, sym, subst, ap, ap₂, ◌∙◌}
use Rattle.std.proofs.lemmas.Bool.{eq-eqb, eqb-true, false≢true, or_cases, or_left, or_right}
use Rattle.std.proofs.lemmas.List.{length-take-le}
use Rattle.std.specs.Option.{option_map_or}
use Rattle.std.proofs.lemmas.List.Elements.{All-append, All-cons, All-head, All-nil, All-tail}
use Rattle.orc_ids.specs.declared.lookup.Outcome.{Outcome}
use Rattle.session_model.specs.Meaning.{Meaning}
use Rattle.session_model.specs.Query.{ending}
use Rattle.session_model.specs.State.{state}
use Rattle.session_model.specs.declared.entry.Entry.{Entry}
use Rattle.session_model.specs.declared.rows.Query.{Query}
use Rattle.query_book.specs.Ends.{told_end}
use Rattle.notifiers.specs.declared.notice.Notice.{Notice}
use Rattle.closure_laws.specs.Quiet.{SettlesNow}
use Rattle.session_steps.specs.Fires.{is_one_of}
use Rattle.history_laws.specs.Notes.{AreTold, heard}
use Rattle.session_laws.proofs.Declared.{appended_at, front_some, mapped_parts, same_element, entries_are}
use Rattle.history_laws.specs.Notices.{NoteEnded}
use Rattle.history_laws.proofs.Prefixes.{ends_there, query_later, settles_there}

abbrev Told : List (Entry Meaning) → ℕ × Outcome → Type 0
Told h p = NoteEnded h p.0 p.1

-- what a query that settles there says is the end of its note's query
heard_ended : (h : List (Entry Meaning)) (n k : ℕ) → SettlesNow (take n h) k → All (Told h) (heard (take n h) k)
heard_ended h n k s = subst (λ o. All (Told h) (option_map_or said o [])) (sym s.1) (of_note s.0.note refl)
  where
    outcome : Query → Outcome
    outcome q = record { query = record { 0 = k }; end = told_end (state (take n h)).entries (ending (state (take n h)).rows q) }

    said : Query → List (ℕ × Outcome)
    said q = option_map_or (λ note. (note, outcome q) ∷ []) q.note []

    of_note : (o : Option ℕ) → s.0.note ≡ o → All (Told h) (option_map_or (λ note. (note, outcome s.0) ∷ []) o [])
    of_note None e = All-nil (Told h)
    of_note (Some note) e = All-cons (Told h) (note, outcome s.0) [] ended (All-nil (Told h))
      where
        ended : NoteEnded h note (outcome s.0)
        ended = record {
          number = k;
          query = s.0;
          there = query_later h k n s.0 s.1;
          noted = e;
          at = length (take n h);
          end = ending (state (take n h)).rows s.0;
          ended = ends_there h k n s.0 s.1 s.2;
          says = ap (λ at. record { query = record { 0 = k }; end = told_end at (ending (state (take n h)).rows s.0) }) (entries_are (take n h));
        }

-- each of the numbers is one of them
each_is : {P : ℕ → Type 0} (ns : List ℕ) → ((k : ℕ) → is_one_of k ns ≡ true → P k) → All P ns
each_is {P} [] f = All-nil P
each_is {P} (n ∷ ns) f = All-cons P n ns (f n (or_left (n == n) (is_one_of n ns) (eq-eqb n n refl))) (each_is ns (λ k c. f k (or_right (n == k) (is_one_of k ns) c)))

all_heard : (h : List (Entry Meaning)) (n : ℕ) (numbers : List ℕ) → All (λ k. SettlesNow (take n h) k) numbers → All (Told h) (flat_map (heard (take n h)) numbers)
all_heard h n [] all = All-nil (Told h)
all_heard h n (k ∷ ks) all = All-append (Told h) (heard (take n h) k) (flat_map (heard (take n h)) ks) (heard_ended h n k (All-head (λ j. SettlesNow (take n h) j) k ks all)) (all_heard h n ks (All-tail (λ j. SettlesNow (take n h) j) k ks all))

-- a list of pairs has them from a list of notices
of_notices : {N : Type 0} (P : ℕ × Outcome → Type 0) (fs : List (Notice N)) → All P (map (λ f. (f.note, f.outcome)) fs) → All (λ f. P (f.note, f.outcome)) fs
of_notices P [] all = All-nil (λ f. P (f.note, f.outcome))
of_notices P (f ∷ fs) all = All-cons (λ g. P (g.note, g.outcome)) f fs (All-head P (f.note, f.outcome) (map (λ g. (g.note, g.outcome)) fs) all) (of_notices P fs (All-tail P (f.note, f.outcome) (map (λ g. (g.note, g.outcome)) fs) all))

-- what is told at one entry are ends
pub told_ended : {N : Type 0} (h : List (Entry Meaning)) (n : ℕ) (told : List (Notice N)) → AreTold (take n h) told → All (λ f. NoteEnded h f.note f.outcome) told
told_ended h n told are = of_notices (Told h) told (subst (All (Told h)) (sym are.told) (all_heard h n are.numbers (each_is are.numbers (λ k c. (are.settle k).0 c))))

-- the pair is one of these
abbrev pub IsOne : {X : Type 0} → X → List X → Type 0
IsOne x xs = (k : ℕ) × (slice_get xs k ≡ Some x)

pub one_before : {X : Type 0} (x : X) (xs ys : List X) → IsOne x xs → IsOne x (xs ++ ys)
one_before x xs ys i = (i.0, front_some xs ys i.0 x i.1)

pub one_after : {X : Type 0} (x : X) (xs ys : List X) → IsOne x ys → IsOne x (xs ++ ys)
one_after x xs ys i = (length xs + i.0, appended_at xs ys i.0 ∙ i.1)

-- what one of the numbers gives is one of all
one_of_parts : {X : Type 0} (f : ℕ → List X) (x : X) (ns : List ℕ) (k : ℕ) → is_one_of k ns ≡ true → IsOne x (f k) → IsOne x (flat_map f ns)
one_of_parts f x [] k c i = absurd (false≢true c)
one_of_parts f x (n ∷ ns) k c i = split (λ later. one_of_parts f x ns k later i) (or_cases (n == k) (is_one_of k ns) c)
  where
    split : (is_one_of k ns ≡ true → IsOne x (flat_map f ns)) → ((n == k) ≡ true) ⊎ (is_one_of k ns ≡ true) → IsOne x (f n ++ flat_map f ns)
    split rest (inl same) = one_before x (f n) (flat_map f ns) (subst (λ j. IsOne x (f j)) (sym (eqb-true n k same)) i)
    split rest (inr later) = one_after x (f n) (flat_map f ns) (rest later)

-- the end of a note's query is told where it settles
pub ended_told : {N : Type 0} (h : List (Entry Meaning)) (note : ℕ) (outcome : Outcome) (e : NoteEnded h note outcome) (told : List (Notice N)) → AreTold (take e.at h) told →
    (k : ℕ) × (f : Notice N) × (slice_get told k ≡ Some f) × (f.note ≡ note) × (f.outcome ≡ outcome)
ended_told {N} h note outcome e told are = (at, parts.0, parts.1, ap (λ p. p.0) (sym parts.2), ap (λ p. p.1) (sym parts.2))
  where
    now : List (Entry Meaning)
    now = take e.at h

    settles : SettlesNow now e.number
    settles = settles_there h e.number e.at e.end e.ended

    -- its row there is its row in the end
    same : settles.0 ≡ e.query
    same = same_element (slice_get (state h).queries e.number) settles.0 e.query (query_later h e.number e.at settles.0 settles.1) e.there

    number : (state now).entries ≡ e.at
    number = entries_are now ∙ length-take-le e.at h e.ended.settles.here

    row : e.ended.query ≡ e.query
    row = same_element (slice_get (state h).queries e.number) e.ended.query e.query e.ended.there e.there

    says : record { query = record { 0 = e.number }; end = told_end (state now).entries (ending (state now).rows settles.0) } ≡ outcome
    says = ap₂ (λ at end. record { query = record { 0 = e.number }; end = told_end at end }) number (ap (ending (state now).rows) (same ∙ sym row) ∙ e.ended.ends) ∙ sym e.says

    heard_it : heard now e.number ≡ (note, outcome) ∷ []
    heard_it = ap (λ o. option_map_or (λ (q : Query). option_map_or (λ n. (n, record { query = record { 0 = e.number }; end = told_end (state now).entries (ending (state now).rows q) }) ∷ []) q.note []) o []) settles.1
        ∙ (ap (λ o. option_map_or (λ n. (n, record { query = record { 0 = e.number }; end = told_end (state now).entries (ending (state now).rows settles.0) }) ∷ []) o []) (ap (λ q. q.note) same ∙ e.noted)
        ∙ ap (λ o. (note, o) ∷ []) says)

    pair : ℕ × Outcome
    pair = (note, outcome)

    one : IsOne pair (map (λ f. (f.note, f.outcome)) told)
    one = subst (IsOne pair) (sym are.told) (one_of_parts (heard now) pair are.numbers e.number ((are.settle e.number).1 settles) (subst (IsOne pair) (sym heard_it) (0, refl)))

    at : ℕ
    at = one.0

    parts : (f : Notice N) × (slice_get told at ≡ Some f) × (pair ≡ (f.note, f.outcome))
    parts = mapped_parts (λ f. (f.note, f.outcome)) told at pair one.1
