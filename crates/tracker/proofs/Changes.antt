-- What a write to one place does to the trackers.
use Rattle.std.proofs.Common.{◌≡◌, ℕ, Option, Some, None, ◌<◌, List, [], ◌∷◌, length, get_or, set, zero, suc, ap, sym, ◌∙◌, arith}
use Rattle.std.specs.Prelude.{option_map}
use Rattle.tracker.specs.declared.owned.Owned.{Owned}
use Rattle.tracker.specs.Owners.{change_at}

pub change_some : (f : Owned → Owned) (xs : List (Option Owned)) (at : ℕ) (d : Option Owned) (o : Owned) → at < length xs → d ≡ get_or xs at d → d ≡ Some o → set xs at (Some (f o)) ≡ change_at at f xs
change_some f [] at d o less read is = absurd (omega arith)
change_some f (x ∷ xs) zero d o less read is = ap (λ y. option_map f y ∷ xs) (sym is ∙ read)
change_some f (x ∷ xs) (suc at) d o less read is = ap (λ ys. x ∷ ys) (change_some f xs at d o (omega arith) read is)

pub change_none : (f : Owned → Owned) (xs : List (Option Owned)) (at : ℕ) (d : Option Owned) → at < length xs → d ≡ get_or xs at d → d ≡ None → set xs at d ≡ change_at at f xs
change_none f [] at d less read is = absurd (omega arith)
change_none f (x ∷ xs) zero d less read is = ap (λ y. y ∷ xs) is ∙ ap (λ y. option_map f y ∷ xs) (sym is ∙ read)
change_none f (x ∷ xs) (suc at) d less read is = ap (λ ys. x ∷ ys) (change_none f xs at d (omega arith) read is)
