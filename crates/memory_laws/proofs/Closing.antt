-- An intact instance has a closure: the units that it needs lie apart.
use Rattle.std.proofs.Common.{◌≡◌, ℕ, true, List, slice_get, inl, inr, subst, sym, refl, ap, ap₂, ◌∙◌, Option, Some, option_map, unwrap_or}
use Rattle.std.proofs.lemmas.Bool.{both_ways}
use Rattle.link_model.specs.Layout.{unit_need}
use Rattle.link_model.specs.declared.graph.LinkGraph.{LinkGraph}
use Rattle.session_model.specs.Plain.{Plain, UnitRow, address_at, emitted_at, failed_at, placement}
use Rattle.session_model.specs.State.{state}
use Rattle.session_model.specs.declared.rows.InstRow.{InstRow}
use Rattle.session_model.specs.declared.rows.UnitPhase.TheVariants as stage
use Rattle.session_laws.proofs.Declared.{same_element, reaches_self}
use Rattle.closure_laws.specs.Bindings.{IsAt}
use Rattle.static_links.proofs.Program.{program_is_there}
use Rattle.static_links.specs.Laws.{IsLaidOut, IsNeededMember, LieApart}
use Rattle.static_links.specs.Links.{Member, Spots}
use Rattle.memory_laws.specs.Closures.{IsBlockOf, IsGraphUnit, member_of, members_of}
use Rattle.memory_laws.proofs.Aliases.{end_reached}
use Rattle.memory_laws.proofs.Held.{range_is, wants_one}
use Rattle.memory_laws.proofs.Holding.{kept_by}
use Rattle.memory_laws.proofs.Reached.{emitted_unfailed, IsGiven, IsMember, IsReached, member_parts, needed_reached}
use Rattle.memory_laws.specs.Maps.{ClosuresAreThere, IntactEndsStandThere}
use Rattle.memory_laws.proofs.Chains.{ends_stand_there}
use Rattle.memory_laws.proofs.Had.{ready_address}
use Rattle.memory_laws.proofs.Mapping.{objects_form}

-- Addresses

-- one that stood at an address and is emitted has it
emitted_at_it : (rows : List InstRow) (i a : ℕ) → emitted_at rows i ≡ true → IsAt rows i a → address_at rows i ≡ Some a
emitted_at_it rows i a e (inl has) = has
emitted_at_it rows i a e (inr failed) = absurd (both_ways (failed_at rows i) (emitted_unfailed rows i e) failed)

pub intact_ends_stand_there : IntactEndsStandThere
intact_ends_stand_there jmax h l graphs are i end intact is =
    let rows : List InstRow = (state h).rows in
    let a = ready_address rows i intact.ready in
    let reached = end_reached (state h) graphs i i end (kept_by jmax h l) are intact (reaches_self rows i) is in
    let stands = ends_stand_there jmax h l (objects_form (state h).units graphs are) i a.0 end a.1 is in
    (a.0, a.1, emitted_at_it rows end a.0 (intact.ready.each end reached) stands)

-- Members

-- the member of a unit that is done, which has a range
record IsPlacedMember (m : Plain) (u : ℕ) (n : Member) : Type 0 where
  unit : UnitRow
  graph : LinkGraph
  there : slice_get m.units u ≡ Some unit
  is : n ≡ member_of unit graph
  object : IsGraphUnit unit.meaning graph
  base : ℕ
  based : unit.base ≡ Some base

placed_member : (m : Plain) (graphs : List LinkGraph) (spots : Spots) (i u : ℕ) (n : Member) (first : Option (ℕ × ℕ)) → IsGiven m graphs spots i → IsBlockOf m graphs i first → IsNeededMember (members_of m.units graphs) spots first u n → IsPlacedMember m u n
placed_member m graphs spots i u n first given starts needed =
    let r : IsReached m graphs i u needed.block = needed_reached m graphs spots i u needed.block first given starts needed.needed in
    let p : IsMember m.units graphs u n = member_parts m.units graphs u n needed.there in
    let unit = same_element (slice_get m.units u) r.done.unit p.unit r.done.there p.there in
    let graph = same_element (slice_get graphs u) r.done.lies.graph p.graph r.done.lies.seen p.seen in
    let object : IsGraphUnit p.unit.meaning p.graph = subst (λ (y : UnitRow). IsGraphUnit y.meaning p.graph) unit (subst (IsGraphUnit r.done.unit.meaning) graph r.done.is) in
    let done : p.unit.phase ≡ stage.Done = ap (λ (y : UnitRow). y.phase) (sym unit) ∙ r.done.done in
    let base = ((given.kept.bound u p.unit p.there).done done).base (wants_one p.unit p.graph object) in
    record { unit = p.unit; graph = p.graph; there = p.there; is = p.is; object = object; base = base.0; based = base.1 }

laid_member : (m : Plain) (u : ℕ) (n : Member) → IsPlacedMember m u n → IsLaidOut n
laid_member m u n p = subst IsLaidOut (sym p.is) (record { live = p.unit.live; is = refl; sound = p.object.sound })

-- its range is that of its unit
range_of : (m : Plain) (u : ℕ) (n : Member) (p : IsPlacedMember m u n) → placement p.unit ≡ Some (record { base = n.base; need = n.layout.shape.need })
range_of m u n p =
    range_is p.unit p.graph p.object
    ∙ ap (option_map (λ (b : ℕ). record { base = b; need = unit_need p.graph p.unit.live })) p.based
    ∙ ap₂ (λ (b k : ℕ). Some (record { base = b; need = k })) (sym (ap (λ (z : Member). z.base) p.is ∙ ap (λ o. unwrap_or o 0) p.based)) (sym (ap (λ (z : Member). z.layout.shape.need) p.is))

-- Closures

pub closures_are_there : ClosuresAreThere
closures_are_there jmax h l graphs are spots map i intact first starts = program_is_there members spots first (λ k n needed. laid_member m k n (placed k n needed)) apart
  where
    m : Plain
    m = state h

    members : List Member
    members = members_of m.units graphs

    given : IsGiven m graphs spots i
    given = record { kept = kept_by jmax h l; graphs_are = are; map_is = map; intact = intact }

    placed : (k : ℕ) (n : Member) → IsNeededMember members spots first k n → IsPlacedMember m k n
    placed k n needed = placed_member m graphs spots i k n first given starts needed

    apart : LieApart members spots first
    apart j k n o one other differ =
        let p = placed j n one in
        let q = placed k o other in
        given.kept.apart.apart j k p.unit q.unit (record { base = n.base; need = n.layout.shape.need }) (record { base = o.base; need = o.layout.shape.need }) p.there q.there differ (range_of m j n p) (range_of m k o q)
