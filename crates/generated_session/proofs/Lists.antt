-- Lists of entries, and of calls with their numbers.
use Rattle.std.proofs.Common.{◌≡◌, ℕ, ◌+◌, List, [], ◌∷◌, map, All, refl, ap, ◌∙◌}
use Rattle.std.specs.List.{AllByRecursion}
use Rattle.std.proofs.lemmas.List.Elements.{All-head, All-tail}
use Rattle.session_model.specs.Calls.{numbered_calls}
use Rattle.session_model.specs.Meaning.{Meaning}
use Rattle.session_model.specs.declared.entry.Entry.{Entry}
use Rattle.session_laws.proofs.Declared.{call_first}
use Rattle.run_laws.proofs.Falling.{total}

pub each_image : {X Y : Type 0} (P : Y → Type 0) (f : X → Y) (xs : List X) → AllByRecursion (λ x. P (f x)) xs → AllByRecursion P (map f xs)
each_image P f [] a = tt
each_image P f (x ∷ xs) a = (a.0, each_image P f xs a.1)

pub total_mapped : {X Y : Type 0} (g : Y → ℕ) (f : X → Y) (xs : List X) → total (λ x. g (f x)) xs ≡ total g (map f xs)
total_mapped g f [] = refl
total_mapped g f (x ∷ xs) = ap (λ n. g (f x) + n) (total_mapped g f xs)

-- where there is one seat, its calls are the entries
pub only_seat : (n : ℕ) (es : List (Entry Meaning)) → All (λ (e : Entry Meaning). e.seat.0 ≡ 1) es → map (λ (c : ℕ × Entry Meaning). c.1) (numbered_calls 1 n es) ≡ es
only_seat n [] all = refl
only_seat n (e ∷ es) all =
    ap (map (λ (c : ℕ × Entry Meaning). c.1)) (call_first 1 n e es (All-head (λ (d : Entry Meaning). d.seat.0 ≡ 1) e es all))
    ∙ ap (λ l. e ∷ l) (only_seat (n + 1) es (All-tail (λ (d : Entry Meaning). d.seat.0 ≡ 1) e es all))
