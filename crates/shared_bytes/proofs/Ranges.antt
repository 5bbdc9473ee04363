-- ranges of ranges
use Rattle.std.proofs.Common.{◌≡◌, ℕ, ◌+◌, ◌-◌, ◌≤◌, List, take, drop, length, ap, sym, ◌∙◌, arith}
use Rattle.std.proofs.lemmas.List.{drop-take, take-take, drop-drop, length-take}

-- so many bytes of a range, from a place in it on
pub range_of : {X : Type 0} (at start len outer : ℕ) (xs : List X) → start + len ≤ outer → take len (drop start (take outer (drop at xs))) ≡ take len (drop (at + start) xs)
range_of at start len outer xs h =
    let inner : start + (outer - start) ≡ outer = omega arith in
    let parted = ap (λ (n : ℕ). drop start (take n (drop at xs))) (sym inner) ∙ drop-take start (outer - start) (drop at xs) in
    ap (λ ys. take len ys) parted ∙ take-take len (outer - start) (drop start (drop at xs)) (omega arith) ∙ ap (λ ys. take len ys) (drop-drop start at xs)

-- the same of a range that is seen as a list of its own
pub range_of_seen : {X : Type 0} (at start len outer : ℕ) (xs whole seen : List X) → whole ≡ xs → seen ≡ take outer (drop at xs) → start + len ≤ length seen → take len (drop (at + start) whole) ≡ take len (drop start seen)
range_of_seen at start len outer xs whole seen same is inside =
    let short : length seen ≤ outer = rw is (omega (arith, length-take outer (drop at xs))) in
    ap (λ ys. take len (drop (at + start) ys)) same ∙ sym (range_of at start len outer xs (omega arith)) ∙ ap (λ ys. take len (drop start ys)) (sym is)
