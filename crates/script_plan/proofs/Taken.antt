-- Notes that are taken one after the other.
use Rattle.std.proofs.Common.{◌≡◌, ℕ, suc, ◌+◌, ◌<◌, ◌≤◌, List, [], ◌∷◌, ◌++◌, ◌-◌, length, map, drop, get_or, refl, sym, subst, ap, ◌∙◌, arith, All, Some, slice_get}
use Rattle.std.specs.Prelude.{flat_map}
use Rattle.std.specs.List.{enumerate_from, range_with_len}
use Rattle.std.proofs.lemmas.List.{append_assoc, append-nil, map-append, drop_more, length-append, length-map}
use Rattle.std.proofs.lemmas.List.Concat.{flat_map-append}
use Rattle.std.proofs.lemmas.List.Elements.{All-cons, All-nil}
use Rattle.list_laws.proofs.Lists.{appended_at}
use Rattle.orc_io.specs.Numbers.{AreNumberedFrom}
use Rattle.script_model.specs.declared.calls.ClientCall.{ClientCall}
use Rattle.script_plan.specs.Notes.{AreTaken, watch_of, watches_of}
use Rattle.session_script.specs.WellFormed.{note_of, notes_of}
use Rattle.session_script.specs.declared.script.ClientLine.{ClientLine}

-- some notes, and then some of those that were left
pub taken_next : {N : Type 0} (first next : List (ℕ × N)) (before between after : List N) → AreTaken first before between → AreTaken next between after → AreTaken (first ++ next) before after
taken_next {N} first next before between after taken more = rw (map-append (λ (w : ℕ × N). w.1) first next, append_assoc (map (λ (w : ℕ × N). w.1) first) (map (λ (w : ℕ × N). w.1) next) after, more) taken

-- notes that are taken in order have the numbers in order, and those left go on from there
pub taken_in_order : {N : Type 0} (n : ℕ) (taken : List (ℕ × N)) (before after : List N) → map (λ w. w.0) taken ≡ range_with_len n (length taken) → AreTaken taken before after → taken ++ enumerate_from (n + length taken) after ≡ enumerate_from n before
taken_in_order n [] before after numbers taken = grind (arith, taken)
taken_in_order {N} n (w ∷ ws) before after numbers taken =
    let rest : List N = map (λ (v : ℕ × N). v.1) ws ++ after in
    grind (arith, numbers, taken, taken_in_order (n + 1) ws rest after)

-- the calls of one more client have taken the next ones
pub taken_by_client : {U N C : Type 0} (items : C → List (ClientCall U N)) (plans more : List C) (calls : C) (before between after : List N) → more ≡ plans ++ calls ∷ [] → AreTaken (watches_of (map items plans)) before between → AreTaken (flat_map watch_of (items calls)) between after → AreTaken (watches_of (map items more)) before after
taken_by_client {U} {N} items plans more calls before between after is taken next =
    rw (is, map-append items plans (calls ∷ []), flat_map-append (flat_map watch_of) (map items plans) (items calls ∷ []), append-nil (flat_map watch_of (items calls)))
    (taken_next (watches_of (map items plans)) (flat_map watch_of (items calls)) before between after taken next)

-- where there are enough for the clients from this one on, those after it have enough
pub enough_behind : {N : Type 0} (clients : List (List ClientLine)) (i : ℕ) (lines : List ClientLine) (taken : List (ℕ × N)) (before after : List N) → i < length clients → lines ≡ get_or clients i lines → map (λ w. w.0) taken ≡ flat_map note_of lines → AreTaken taken before after →
    length (notes_of (drop i clients)) ≤ length before → length (notes_of (drop (i + 1) clients)) ≤ length after
enough_behind {N} clients i lines taken before after within is numbers are enough =
    let rest : length (notes_of (drop i clients)) ≡ length (flat_map note_of (get_or clients i lines)) + length (notes_of (drop (i + 1) clients)) = rw (drop_more clients i lines within) (length-append (flat_map note_of (get_or clients i lines)) (notes_of (drop (i + 1) clients))) in
    let first : length (flat_map note_of (get_or clients i lines)) ≡ length taken = rw (← is, ← numbers) (length-map taken (λ (w : ℕ × N). w.0)) in
    let all : length before ≡ length taken + length after = rw (← are, length-append (map (λ (w : ℕ × N). w.1) taken) after, length-map taken (λ (w : ℕ × N). w.1)) refl in
    omega arith

-- notes that have their places as their numbers, numbered on from so many
pub all_numbered : {N : Type 0} (number : N → ℕ) (first : ℕ) (notes : List N) → AreNumberedFrom number first notes → All (λ w. number w.1 ≡ w.0) (enumerate_from first notes)
all_numbered number first [] are = All-nil (λ w. number w.1 ≡ w.0)
all_numbered number first (n ∷ notes) are = All-cons (λ w. number w.1 ≡ w.0) (first, n) (enumerate_from (first + 1) notes)
    (omega (arith, are 0 n refl))
    (all_numbered number (first + 1) notes (λ k m at. omega (arith, are (suc k) m at)))

-- those after the ones that were taken go on from their number
pub numbered_after : {N : Type 0} (number : N → ℕ) (taken : List (ℕ × N)) (before after : List N) → AreTaken taken before after → AreNumberedFrom number 0 before → AreNumberedFrom number (length before - length after) after
numbered_after {N} number taken before after are numbered k n there =
    let front : List N = map (λ (w : ℕ × N). w.1) taken in
    let at : slice_get before (length front + k) ≡ Some n = subst (λ l. slice_get l (length front + k) ≡ Some n) are (appended_at front after k ∙ there) in
    let all : length before ≡ length front + length after = ap length (sym are) ∙ length-append front after in
    omega (arith, numbered (length front + k) n at, all)

-- what holds of all by two lists of facts
pub all_both : {X : Type 0} (P Q : X → Type 0) (xs : List X) → All P xs → All Q xs → All (λ x. P x × Q x) xs
all_both P Q xs p q k d within = (p k d within, q k d within)
