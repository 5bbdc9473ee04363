-- The entries of placements, as one is added, changed and taken out at its base.
use Rattle.std.proofs.Common.{◌≡◌, ℕ, true, false, Some, ◌<◌, List, [], ◌∷◌, ◌++◌, refl, ap, sym, ◌∙◌, cond, arith}
use Rattle.std.specs.Ordering.{nat_cmp, is_eq, match_ordering}
use Rattle.std.specs.BTreeMap.{insert_entry, is_at}
use Rattle.std.specs.Map.{values_of, lookup, set_value, remove_entry}
use Rattle.code_memory.specs.declared.placement.Placement.{Placement}
use Rattle.code_memory.specs.Gaps.{end_of}
use Rattle.code_memory.specs.Kept.{keyed}
use Rattle.code_memory.specs.Places.{AreBetween, placed_among}
use Rattle.code_memory.proofs.Compared.{below_is, not_below, less_is, greater_is, equal_is}
use Rattle.code_memory.proofs.Between.{above_low}

pub values-keyed : (ps : List Placement) → values_of (keyed ps) ≡ ps
values-keyed [] = refl
values-keyed (p ∷ ps) = ap (λ xs. p ∷ xs) (values-keyed ps)

-- a placement before another one in the list has a lower base
lower : (low : ℕ) (x : Placement) (xs : List Placement) (p : Placement) (ys : List Placement) (high : ℕ) → AreBetween low (x ∷ (xs ++ p ∷ ys)) high → x.base < p.base
lower low x xs p ys high apart = omega (arith, apart.1, above_low (end_of x) xs p ys high apart.2)

pub among-at : (low : ℕ) (xs : List Placement) (p : Placement) (ys : List Placement) (high : ℕ) → AreBetween low (xs ++ p ∷ ys) high → placed_among p (xs ++ ys) ≡ xs ++ p ∷ ys
among-at low [] p [] high apart = refl
among-at low [] p (y ∷ ys) high apart =
    ap (λ b. cond b (p ∷ y ∷ ys) (y ∷ placed_among p ys)) (below_is p.base y.base (omega (arith, apart.1, apart.2.0)))
among-at low (x ∷ xs) p ys high apart =
    ap (λ b. cond b (p ∷ x ∷ (xs ++ ys)) (x ∷ placed_among p (xs ++ ys))) (not_below p.base x.base (let less = lower low x xs p ys high apart in omega arith))
    ∙ ap (λ qs. x ∷ qs) (among-at (end_of x) xs p ys high apart.2)

pub insert-at : (low : ℕ) (xs : List Placement) (p : Placement) (ys : List Placement) (high : ℕ) → AreBetween low (xs ++ p ∷ ys) high → insert_entry nat_cmp (keyed (xs ++ ys)) p.base p ≡ keyed (xs ++ p ∷ ys)
insert-at low [] p [] high apart = refl
insert-at low [] p (y ∷ ys) high apart =
    ap (λ o. match_ordering o ((p.base, p) ∷ (y.base, y) ∷ keyed ys) ((y.base, p) ∷ keyed ys) ((y.base, y) ∷ insert_entry nat_cmp (keyed ys) p.base p)) (less_is p.base y.base (omega (arith, apart.1, apart.2.0)))
insert-at low (x ∷ xs) p ys high apart =
    ap (λ o. match_ordering o ((p.base, p) ∷ (x.base, x) ∷ keyed (xs ++ ys)) ((x.base, p) ∷ keyed (xs ++ ys)) ((x.base, x) ∷ insert_entry nat_cmp (keyed (xs ++ ys)) p.base p)) (greater_is p.base x.base (lower low x xs p ys high apart))
    ∙ ap (λ es. (x.base, x) ∷ es) (insert-at (end_of x) xs p ys high apart.2)

-- the test at a base
not_at : (a b : ℕ) → b < a → is_at (nat_cmp a) b ≡ false
not_at a b less = ap is_eq (greater_is a b less)

just_at : (a : ℕ) → is_at (nat_cmp a) a ≡ true
just_at a = ap is_eq (equal_is a)

pub lookup-at : (low : ℕ) (xs : List Placement) (p : Placement) (ys : List Placement) (high : ℕ) → AreBetween low (xs ++ p ∷ ys) high → lookup (is_at (nat_cmp p.base)) (keyed (xs ++ p ∷ ys)) ≡ Some p
lookup-at low [] p ys high apart = ap (λ b. cond b (Some p) (lookup (is_at (nat_cmp p.base)) (keyed ys))) (just_at p.base)
lookup-at low (x ∷ xs) p ys high apart =
    ap (λ b. cond b (Some x) (lookup (is_at (nat_cmp p.base)) (keyed (xs ++ p ∷ ys)))) (not_at p.base x.base (lower low x xs p ys high apart)) ∙ lookup-at (end_of x) xs p ys high apart.2

pub set-at : (low : ℕ) (xs : List Placement) (p v : Placement) (ys : List Placement) (high : ℕ) → AreBetween low (xs ++ p ∷ ys) high → v.base ≡ p.base → set_value (is_at (nat_cmp p.base)) (keyed (xs ++ p ∷ ys)) v ≡ keyed (xs ++ v ∷ ys)
set-at low [] p v ys high apart same =
    ap (λ b. cond b ((p.base, v) ∷ keyed ys) ((p.base, p) ∷ set_value (is_at (nat_cmp p.base)) (keyed ys) v)) (just_at p.base) ∙ ap (λ b. (b, v) ∷ keyed ys) (sym same)
set-at low (x ∷ xs) p v ys high apart same =
    ap (λ b. cond b ((x.base, v) ∷ keyed (xs ++ p ∷ ys)) ((x.base, x) ∷ set_value (is_at (nat_cmp p.base)) (keyed (xs ++ p ∷ ys)) v)) (not_at p.base x.base (lower low x xs p ys high apart))
    ∙ ap (λ es. (x.base, x) ∷ es) (set-at (end_of x) xs p v ys high apart.2 same)

pub remove-at : (low : ℕ) (xs : List Placement) (p : Placement) (ys : List Placement) (high : ℕ) → AreBetween low (xs ++ p ∷ ys) high → remove_entry (is_at (nat_cmp p.base)) (keyed (xs ++ p ∷ ys)) ≡ keyed (xs ++ ys)
remove-at low [] p ys high apart = ap (λ b. cond b (keyed ys) ((p.base, p) ∷ remove_entry (is_at (nat_cmp p.base)) (keyed ys))) (just_at p.base)
remove-at low (x ∷ xs) p ys high apart =
    ap (λ b. cond b (keyed (xs ++ p ∷ ys)) ((x.base, x) ∷ remove_entry (is_at (nat_cmp p.base)) (keyed (xs ++ p ∷ ys)))) (not_at p.base x.base (lower low x xs p ys high apart))
    ∙ ap (λ es. (x.base, x) ∷ es) (remove-at (end_of x) xs p ys high apart.2)
