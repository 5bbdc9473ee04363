-- Three names that rise differ.
use Rattle.std.proofs.Common.{◌≡◌, ◌<◌, zero, suc, Some, List, [], ◌∷◌, length, slice_index_or, refl, arith}
use Rattle.orc_ids.specs.declared.flags.SymFlags.{SymFlags}
use Rattle.orc_ids.specs.declared.ids.NameId.{NameId}
use Rattle.jit_dylib.specs.Rows.{NamesDiffer}

abbrev Offer : Type 0
Offer = NameId × SymFlags

same_name : (a b x y : Offer) → Some a ≡ Some x → Some b ≡ Some y → x.0 ≡ y.0 → a.0.0 ≡ b.0.0
same_name a b x y there here same = cc

rising : (a b c : Offer) → a.0.0 < b.0.0 → b.0.0 < c.0.0 → NamesDiffer (a ∷ b ∷ c ∷ [])
rising a b c first second zero zero x y there here same = refl
rising a b c first second zero (suc zero) x y there here same = absurd (omega (arith, same_name a b x y there here same))
rising a b c first second zero (suc (suc zero)) x y there here same = absurd (omega (arith, same_name a c x y there here same))
rising a b c first second zero (suc (suc (suc k))) x y there here same = absurd cc
rising a b c first second (suc zero) zero x y there here same = absurd (omega (arith, same_name b a x y there here same))
rising a b c first second (suc zero) (suc zero) x y there here same = refl
rising a b c first second (suc zero) (suc (suc zero)) x y there here same = absurd (omega (arith, same_name b c x y there here same))
rising a b c first second (suc zero) (suc (suc (suc k))) x y there here same = absurd cc
rising a b c first second (suc (suc zero)) zero x y there here same = absurd (omega (arith, same_name c a x y there here same))
rising a b c first second (suc (suc zero)) (suc zero) x y there here same = absurd (omega (arith, same_name c b x y there here same))
rising a b c first second (suc (suc zero)) (suc (suc zero)) x y there here same = refl
rising a b c first second (suc (suc zero)) (suc (suc (suc k))) x y there here same = absurd cc
rising a b c first second (suc (suc (suc j))) k x y there here same = absurd cc

pub three_rise : (offers : List Offer) (d : Offer) → length offers ≡ 3 → (slice_index_or offers 0 d).0.0 < (slice_index_or offers 1 d).0.0 → (slice_index_or offers 1 d).0.0 < (slice_index_or offers 2 d).0.0 → NamesDiffer offers
three_rise [] d long first second = absurd cc
three_rise (a ∷ []) d long first second = absurd (omega arith)
three_rise (a ∷ b ∷ []) d long first second = absurd (omega arith)
three_rise (a ∷ b ∷ c ∷ []) d long first second = rising a b c first second
three_rise (a ∷ b ∷ c ∷ e ∷ rest) d long first second = absurd (omega arith)
