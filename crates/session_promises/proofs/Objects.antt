-- A session that was handed objects alone has them, and so its intact instances have closures.
use Rattle.std.proofs.Common.{◌≡◌, ℕ, zero, suc, List, [], ◌∷◌, slice_get, Some, refl, ap, subst}
use Rattle.std.proofs.lemmas.Option.{none-some, same_Some}
use Rattle.link_model.specs.declared.graph.LinkGraph.{LinkGraph}
use Rattle.session_model.specs.Plain.{UnitRow}
use Rattle.session_model.specs.State.{state}
use Rattle.closure_laws.proofs.Declared.{all_have}
use Rattle.memory_laws.specs.Closures.{AreObjects, IsObject}
use Rattle.session_promises.specs.Laws.{ObjectsHaveClosures}
use Rattle.session_promises.specs.Runs.{IsLinkable}
use Rattle.session_promises.proofs.Closing.{intact_has_closure}

-- the objects of some units, where there is one unit more before them
one_more : (y : UnitRow) (ys : List UnitRow) → IsLinkable y.meaning → (graphs : List LinkGraph) × AreObjects ys graphs → (graphs : List LinkGraph) × AreObjects (y ∷ ys) graphs
one_more y ys first rest = (first.0 ∷ rest.0, record { whole = ap suc rest.1.whole; each = each })
  where
    each : (u : ℕ) (x : UnitRow) (g : LinkGraph) → slice_get (y ∷ ys) u ≡ Some x → slice_get (first.0 ∷ rest.0) u ≡ Some g → IsObject x.meaning g
    each zero x g there at = subst (λ (z : UnitRow). IsObject z.meaning g) (same_Some y x there) (subst (IsObject y.meaning) (same_Some first.0 g at) first.1)
    each (suc u) x g there at = rest.1.each u x g there at

-- their objects, in order
objects_of : (units : List UnitRow) → ((u : ℕ) (x : UnitRow) → slice_get units u ≡ Some x → IsLinkable x.meaning) → (graphs : List LinkGraph) × AreObjects units graphs
objects_of [] has = ([], record { whole = refl; each = λ u x g there at. absurd (none-some x there) })
objects_of (y ∷ ys) has = one_more y ys (has 0 y refl) (objects_of ys (λ u x there. has (suc u) x there))

pub objects_have_closures : ObjectsHaveClosures
objects_have_closures jmax h legal hands i intact = let o = objects_of (state h).units (all_have IsLinkable h hands).units in intact_has_closure jmax h legal o.0 o.1 i intact
