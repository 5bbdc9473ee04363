-- The bytes of a range among those of others.
use Rattle.std.proofs.Common.{◌≡◌, ℕ, true, false, Option, Some, None, ◌+◌, ◌-◌, ◌<◌, ◌≤◌, List, [], ◌∷◌, length, refl, ap, ◌∙◌, cond, subst, arith}
use Rattle.std.specs.Prelude.{slice_get, nat_lt, find, IfSome}
use Rattle.orc_ids.specs.declared.ids.UnitId.{UnitId}
use Rattle.code_memory.specs.Gaps.{end_of}
use Rattle.code_memory.specs.Mapped.{byte_at}
use Rattle.code_memory.specs.declared.image.Segment.{Segment}
use Rattle.code_memory.specs.declared.placement.Placement.{Placement}
use Rattle.code_memory.proofs.Compared.{below_is, not_below}
use Rattle.code_memory.specs.Places.{is_of, deposits, before, AreBetween, AreWhole, IsWhole}

in_first : (b : ℕ) (bytes : List ℕ) (ss : List Segment) (k : ℕ) → k < length bytes → byte_at (record { base = b; bytes = bytes } ∷ ss) (b + k) ≡ slice_get bytes k
in_first b bytes ss k less =
    ap (λ t. cond t (byte_at ss (b + k)) (cond (nat_lt (b + k) (b + length bytes)) (slice_get bytes (b + k - b)) (byte_at ss (b + k)))) (not_below (b + k) b (omega arith))
    ∙ ap (λ t. cond t (slice_get bytes (b + k - b)) (byte_at ss (b + k))) (below_is (b + k) (b + length bytes) (omega arith))
    ∙ ap (slice_get bytes) (let e : b + k - b ≡ k = omega arith in e)

past_first : (p : Placement) (ss : List Segment) (o : Option (List ℕ)) (at : ℕ) → IfSome o (λ bytes. length bytes ≡ p.shape.need) → p.base + p.shape.need ≤ at → byte_at (before p.base o ss) at ≡ byte_at ss at
past_first p ss None at whole past = refl
past_first p ss (Some bytes) at whole past =
    ap (λ t. cond t (byte_at ss at) (cond (nat_lt at (p.base + length bytes)) (slice_get bytes (at - p.base)) (byte_at ss at))) (not_below at p.base (omega arith))
    ∙ ap (λ t. cond t (slice_get bytes (at - p.base)) (byte_at ss at)) (not_below at (p.base + length bytes) (omega (arith, whole)))

pub found_above : (low : ℕ) (ps : List Placement) (high : ℕ) (u : UnitId) (p : Placement) → AreBetween low ps high → find (is_of u) ps ≡ Some p → low ≤ p.base
found_above low [] high u p apart found = absurd cc
found_above low (q ∷ ps) high u p apart found =
    elim (is_of u q) as (λ b. cond b (Some q) (find (is_of u) ps) ≡ Some p → low ≤ p.base) [
      | true ↦ λ h. let same : q ≡ p = cc in subst (λ (x : Placement). low ≤ x.base) same apart.0
      | false ↦ λ h. omega (arith, apart.0, found_above (end_of q) ps high u p apart.2 h)
    ] found

pub mapped_at : (low : ℕ) (ps : List Placement) (high : ℕ) (u : UnitId) (p : Placement) (bytes : List ℕ) (k : ℕ) → AreBetween low ps high → AreWhole ps → find (is_of u) ps ≡ Some p → p.bytes ≡ Some bytes → k < p.shape.need →
    byte_at (deposits ps) (p.base + k) ≡ slice_get bytes k
mapped_at low [] high u p bytes k apart whole found full less = absurd cc
mapped_at low (q ∷ ps) high u p bytes k apart whole found full less =
    elim (is_of u q) as (λ b. cond b (Some q) (find (is_of u) ps) ≡ Some p → byte_at (deposits (q ∷ ps)) (p.base + k) ≡ slice_get bytes k) [
      | true ↦ λ h.
          let same : q ≡ p = cc in
          let long : length bytes ≡ p.shape.need = subst (λ o. IfSome o (λ b. length b ≡ p.shape.need)) full (subst IsWhole same whole.0).full in
          ap (λ (x : Placement). byte_at (before x.base x.bytes (deposits ps)) (p.base + k)) same
          ∙ ap (λ o. byte_at (before p.base o (deposits ps)) (p.base + k)) full
          ∙ in_first p.base bytes (deposits ps) k (omega (arith, long))
      | false ↦ λ h.
          let later = found_above (end_of q) ps high u p apart.2 h in
          past_first q (deposits ps) q.bytes (p.base + k) whole.0.full (omega (arith, later)) ∙ mapped_at (end_of q) ps high u p bytes k apart.2 whole.1 h full less
    ] found
