-- The last image stays true of what is deposited as a placement is added, filled or taken away.
use Rattle.std.proofs.Common.{◌≡◌, ℕ, Some, List, ◌∷◌, ◌++◌, refl, ap, sym, ◌∙◌, subst}
use Rattle.std.specs.Ordering.{nat_cmp}
use Rattle.std.specs.BTreeMap.{is_at}
use Rattle.std.specs.Map.{values_of, lookup, set_value, remove_entry}
use Rattle.orc_ids.specs.declared.ids.UnitId.{UnitId}
use Rattle.orc_ids.specs.declared.limits.TheConstants.{CODE_START}
use Rattle.orc_ids.specs.declared.place.Shape.{Shape}
use Rattle.code_memory.specs.declared.gaps.Gap.{Gap}
use Rattle.code_memory.specs.declared.last_image.LastImage.{LastImage}
use Rattle.code_memory.specs.declared.placement.Placement.{Placement}
use Rattle.code_memory.specs.Kept.{Bases, keyed, IsTied}
use Rattle.code_memory.specs.LastImage.{based_below, IsLastOf, Touches, Leaves}
use Rattle.code_memory.specs.Places.{deposits}
use Rattle.code_memory.proofs.Changed.{deposits-silent, below-set}
use Rattle.code_memory.proofs.Entries.{values-keyed}
use Rattle.code_memory.proofs.Fits.{IsFit}
use Rattle.code_memory.proofs.LaidOut.{with}
use Rattle.code_memory.proofs.Tied.{IsHere, new, values_filled, values_left}

pub last_placed : (u : UnitId) (shape : Shape) (placed now : List (ℕ × Placement)) (at base : ℕ) (last : LastImage) → (fit : IsFit CODE_START (values_of placed) shape 0 at base) → now ≡ keyed (fit.front ++ new u shape base ∷ fit.back) → IsLastOf last (deposits (values_of placed)) → IsLastOf last (deposits (values_of now))
last_placed u shape placed now at base last fit is shown =
    subst (IsLastOf last)
    (ap deposits fit.split ∙ sym (deposits-silent fit.front (new u shape base) fit.back refl) ∙ sym (ap deposits (ap values_of is ∙ values-keyed (fit.front ++ new u shape base ∷ fit.back))))
    shown

pub last_filled : (u : UnitId) (bytes : List ℕ) (placed now : List (ℕ × Placement)) (bases : Bases) (gaps : List Gap) (room end : ℕ) (p : Placement) (base : ℕ) (last next : LastImage) → IsTied placed bases gaps room end → (is : IsHere u placed bases p) →
    now ≡ set_value (is_at (nat_cmp p.base)) placed (record p { bytes = Some bytes }) → base ≡ p.base → Touches base last next → IsLastOf last (deposits (values_of placed)) → IsLastOf next (deposits (values_of now))
last_filled u bytes placed now bases gaps room end p base last next tied is written same touches shown =
    let o = is.owned in
    subst (λ ps. IsLastOf next (deposits ps)) (sym (values_filled u bytes placed now bases gaps room end p tied is written))
    (touches (deposits (o.front ++ p ∷ o.back)) (deposits (o.front ++ with p (Some bytes) ∷ o.back)) (subst (λ ps. IsLastOf last (deposits ps)) o.split shown)
    (subst (λ b. based_below b (deposits (o.front ++ p ∷ o.back)) ≡ based_below b (deposits (o.front ++ with p (Some bytes) ∷ o.back))) (sym same) (below-set o.front p (Some bytes) o.back)))

pub last_left : (u : UnitId) (placed now : List (ℕ × Placement)) (bases : Bases) (gaps : List Gap) (room end : ℕ) (p : Placement) (base : ℕ) (last next : LastImage) → IsTied placed bases gaps room end → (is : IsHere u placed bases p) →
    now ≡ remove_entry (is_at (nat_cmp p.base)) placed → base ≡ p.base → Leaves placed base last next → IsLastOf last (deposits (values_of placed)) → IsLastOf next (deposits (values_of now))
last_left u placed now bases gaps room end p base last next tied is written same leaves shown =
    let o = is.owned in
    subst (λ ps. IsLastOf next (deposits ps)) (sym (values_left u placed now bases gaps room end p tied is written))
    (leaves o.front p o.back (ap (λ b. lookup (is_at (nat_cmp b)) placed) same ∙ is.there) same (subst (λ ps. IsLastOf last (deposits ps)) o.split shown))
