-- Memory holds the program of each intact instance.
use Rattle.std.proofs.Common.{◌≡◌, ℕ, ◌+◌, ◌<◌, Bool, List, [], slice_get, subst, sym, refl, ap, ◌∙◌, Option, Some, is_some, unwrap_or}
use Rattle.closure_laws.proofs.Declared.{dependencies_are_kept, done_is_bound, instances_are_live}
use Rattle.closure_laws.specs.Bound.{HasAll}
use Rattle.link_model.specs.Layout.{unit_need}
use Rattle.link_model.specs.declared.graph.LinkGraph.{LinkGraph}
use Rattle.session_laws.proofs.Declared.{same_element, placements_lie_apart}
use Rattle.session_model.specs.History.{IsLegal}
use Rattle.session_model.specs.Meaning.{Meaning}
use Rattle.session_model.specs.Memory.{memory}
use Rattle.session_model.specs.Plain.{Plain, UnitRow}
use Rattle.session_model.specs.State.{state}
use Rattle.session_model.specs.declared.entry.Entry.{Entry}
use Rattle.session_model.specs.declared.rows.UnitPhase.TheVariants as stage
use Rattle.session_units.specs.Meaning.{addresses}
use Rattle.static_links.proofs.Apart.{lies_apart}
use Rattle.static_links.proofs.Chosen.{mapped_chosen}
use Rattle.static_links.proofs.Mapped.{mapped_inside}
use Rattle.static_links.specs.Laws.{HasLabels, ImageIsLinked, IsToldSo}
use Rattle.static_links.specs.Links.{Member, Spots, Pairs, IsMapped, IsLinkedProgram, linked_byte}
use Rattle.memory_laws.specs.Closures.{IsBlockOf, IsGraphUnit, member_of, members_of}
use Rattle.memory_laws.specs.Laws.{IntactHoldsClosure}
use Rattle.memory_laws.proofs.Held.{memory_holds, wants_one}
use Rattle.memory_laws.proofs.Reached.{IsGiven, IsMember, member_parts, needed_more, needed_reached, target_unfailed}
use Rattle.memory_laws.proofs.Told.{told_so}
use Rattle.memory_laws.proofs.Units.{IsKept}

-- what a legal history keeps
pub kept_by : (jmax : ℕ) (h : List (Entry Meaning)) → IsLegal jmax h → IsKept (state h)
kept_by jmax h legal = record {
  bound = done_is_bound jmax h legal;
  depends = dependencies_are_kept jmax h legal;
  live = instances_are_live jmax h legal;
  apart = placements_lie_apart jmax h legal;
}

-- The program

-- memory has what the program has at a mapped place of a unit
holds_at : ImageIsLinked → (m : Plain) (graphs : List LinkGraph) (spots : Spots) (i u place : ℕ) (x : UnitRow) (g : LinkGraph) (first : Option (ℕ × ℕ)) (closure : ℕ → Option ℕ) → IsGiven m graphs spots i → IsBlockOf m graphs i first → (linked : IsLinkedProgram (members_of m.units graphs) spots first closure) →
    slice_get m.units u ≡ Some x → slice_get graphs u ≡ Some g → slice_get (members_of m.units graphs) u ≡ Some (member_of x g) → IsMapped (member_of x g) (linked.chosen u) place →
    memory m (unwrap_or x.base 0 + place) ≡ Some (linked_byte (member_of x g) (linked.chosen u) (λ s. (spots u s).address) place)
holds_at image m graphs spots i u place x g first closure given starts linked there seen member mapped =
    let members : List Member = members_of m.units graphs in
    let chosen : ℕ → Bool = linked.chosen u in
    let address : ℕ → ℕ = λ s. (spots u s).address in
    let some_block = mapped_chosen (member_of x g) chosen place mapped in
    let r = needed_reached m graphs spots i u some_block.0 first given starts (linked.needed u some_block.0 some_block.1) in
    let done : x.phase ≡ stage.Done = ap (λ (y : UnitRow). y.phase) (same_element (slice_get m.units u) x r.done.unit there r.done.there) ∙ r.done.done in
    let unit = same_element (slice_get m.units u) r.done.unit x r.done.there there in
    let graph = same_element (slice_get graphs u) r.done.lies.graph g r.done.lies.seen seen in
    let is : IsGraphUnit x.meaning g = subst (λ (y : UnitRow). IsGraphUnit y.meaning g) unit (subst (IsGraphUnit r.done.unit.meaning) graph r.done.is) in
    let all : HasAll x = (given.kept.bound u x there).done done in
    let base = all.base (wants_one x g is) in
    let inside : place < unit_need g x.live = mapped_inside g x.live (unwrap_or x.base 0) chosen place (lies_apart g x.live is.sound) mapped in
    let labels : HasLabels g chosen = λ e block offset c on paired label.
    linked.closed u block (needed_more members spots first (u, e.block) (u, block) (linked.needed u e.block on) (Pairs (member_of x g) e offset member c refl paired label refl)) in
    let told : IsToldSo g x.live (unwrap_or x.base 0) (addresses (unwrap_or x.bound [])) chosen address = λ e c on.
    told_so m graphs spots u x g e given.map_is there seen done is all c (target_unfailed m graphs spots i u x g e given (needed_reached m graphs spots i u e.block first given starts (linked.needed u e.block on)) there seen c) in
    ap (λ n. memory m (n + place)) (ap (λ o. unwrap_or o 0) base.1)
    ∙ memory_holds m graphs u base.0 place x g given.kept.apart given.graphs_are is there done base.1 inside
    ∙ ap Some (image g x.live (unwrap_or x.base 0) (addresses (unwrap_or x.bound [])) chosen address is.sound labels told place mapped)

-- memory has what the program has at each address that it maps
program_held : ImageIsLinked → (m : Plain) (graphs : List LinkGraph) (spots : Spots) (i at byte : ℕ) (first : Option (ℕ × ℕ)) (closure : ℕ → Option ℕ) → IsGiven m graphs spots i → IsBlockOf m graphs i first → IsLinkedProgram (members_of m.units graphs) spots first closure → closure at ≡ Some byte → memory m at ≡ Some byte
program_held image m graphs spots i at byte first closure given starts linked e =
    let here = linked.only at (ap is_some e) in
    let u : ℕ = here.number in
    let p : IsMember m.units graphs u here.member = member_parts m.units graphs u here.member here.there in
    let n : Member = member_of p.unit p.graph in
    let member : slice_get (members_of m.units graphs) u ≡ Some n = here.there ∙ ap Some p.is in
    let mapped : IsMapped n (linked.chosen u) here.place = subst (λ (z : Member). IsMapped z (linked.chosen u) here.place) p.is here.mapped in
    let place : at ≡ n.base + here.place = here.is ∙ ap (λ (z : Member). z.base + here.place) p.is in
    ap (memory m) place
    ∙ holds_at image m graphs spots i u here.place p.unit p.graph first closure given starts linked p.there p.seen member mapped
    ∙ sym (linked.has u here.place n member mapped)
    ∙ ap closure (sym place)
    ∙ e

-- in every legal history, where images are linked
pub intact_holds : ImageIsLinked → IntactHoldsClosure
intact_holds image jmax h legal graphs are spots map_is i intact first starts closure linked at byte e =
    program_held image (state h) graphs spots i at byte first closure (record { kept = kept_by jmax h legal; graphs_are = are; map_is = map_is; intact = intact }) starts linked e
