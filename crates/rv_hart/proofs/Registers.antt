-- The registers of a hart in two parts, and what a store leaves.
use Rattle.std.proofs.Common.{◌≡◌, ℕ, zero, suc, Option, Some, None, List, refl, sym, ap, ◌∙◌}
use Rattle.std.specs.Prelude.{slice_index, IsSome}
use Rattle.rv_hart.specs.declared.hart.Hart.{Hart}
use Rattle.rv_hart.specs.Map.{Map, stored}
use Rattle.rv_hart.specs.Parts.{hart_of}
use Rattle.rv_hart.specs.Registers.{reg}
use Rattle.rv_hart.specs.Step.{Turned, over, passed, stores}

-- where place 0 has 0, each register holds what stands at its place
pub plain : (x : List ℕ) (pc r : ℕ) → slice_index x 0 ≡ 0 → slice_index x r ≡ reg (hart_of pc x) r
unfolding reg
plain x pc zero h = h
plain x pc (suc r) h = refl

pub stores_done : (o : Option ℕ) (hart : Hart) (map new : Map) (at width value : ℕ) (turned : Turned) → IsSome o → new ≡ stored map at width value → passed hart ≡ turned → stores hart map at width value o ≡ over new turned
stores_done None hart map new at width value turned some is pass = absurd cc
stores_done (Some b) hart map new at width value turned some is pass = ap (λ m. over m (passed hart)) (sym is) ∙ ap (over new) pass
