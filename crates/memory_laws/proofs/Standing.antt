-- Where an instance stands that has its address: its definition is there, in its block.
use Rattle.std.proofs.Common.{◌≡◌, ℕ, ◌+◌, ◌%◌, ◌^◌, ◌<◌, ◌≤◌, Bool, true, false, ◌&&◌, List, [], slice_get, map, arith, subst, sym, refl, ap, ap₂, ◌∙◌, Some, None, is_some, option_map, unwrap_or}
use Rattle.std.specs.Prelude.{is_none, option_and_then}
use Rattle.std.specs.Bool.{if◌then◌else◌}
use Rattle.std.specs.List.{All}
use Rattle.std.proofs.Math.Nat.{mod-eq_of_lt}
use Rattle.std.proofs.lemmas.Bool.{both_ways}
use Rattle.std.proofs.lemmas.Option.{none-some}
use Rattle.link_model.proofs.Symbols.{at_or_there}
use Rattle.orc_ids.specs.declared.limits.TheConstants.{CODE_START, CODE_END}
use Rattle.orc_ids.specs.declared.place.Shape.{Shape}
use Rattle.link_model.specs.Image.{at_or, own_address, place_of}
use Rattle.link_model.specs.Layout.{layout_of}
use Rattle.link_model.specs.Offers.{no_symbol, offer_address, offered_symbols}
use Rattle.link_model.specs.Sound.{PlaceFits, Sound, sizes}
use Rattle.link_model.specs.declared.graph.GPlace.{GPlace}
use Rattle.link_model.specs.declared.graph.GPlace.TheVariants.{Abs, External, In}
use Rattle.link_model.specs.declared.graph.GSym.{GSym}
use Rattle.link_model.specs.declared.graph.LinkGraph.{LinkGraph}
use Rattle.unit_fixups.proofs.Inside.{placed_lies}
use Rattle.block_groups.specs.Groups.{block_of}
use Rattle.session_model.specs.History.{IsLegal}
use Rattle.session_model.specs.Meaning.{Meaning}
use Rattle.session_model.specs.Plain.{Plain, UnitRow, is_alias, phase_address, placement, unit_shape}
use Rattle.session_model.specs.State.{state}
use Rattle.session_model.specs.declared.entry.Entry.{Entry}
use Rattle.session_model.specs.declared.rows.InstRow.{InstRow}
use Rattle.session_model.specs.declared.rows.Phase.{Phase}
use Rattle.session_model.specs.declared.rows.Phase.TheVariants as phase
use Rattle.session_model.specs.declared.rows.UnitPhase.{UnitPhase}
use Rattle.session_model.specs.declared.rows.UnitPhase.TheVariants as stage
use Rattle.session_laws.proofs.Declared.{addresses_are_kept, legal_is_sound, placements_lie_apart}
use Rattle.session_laws.specs.Sound.{fits, row_stage, until_based}
use Rattle.closure_laws.proofs.Declared.{some_there, all_work, is_placed}
use Rattle.static_links.specs.Links.{Member}
use Rattle.memory_laws.specs.Closures.{block_at, member_of, members_of, offer_place, own_spot}
use Rattle.memory_laws.specs.NameLaws.{IsObjectUnit, IsOfObjects, IsOfSymbol}
use Rattle.memory_laws.specs.Programs.{HasAddresses, IsAddress}
use Rattle.memory_laws.proofs.ProgramMembers.{member_there, one_of_all}
use Rattle.memory_laws.proofs.Owners.{place_is}

-- Addresses of 64 bits

-- the unit lies in code memory
pub record IsInCode (g : LinkGraph) (live : List Bool) (base : ℕ) : Type 0 where
  pub starts : CODE_START ≤ base
  pub ends : base + (layout_of g live).shape.need ≤ CODE_END

pub own_is_offered : (g : LinkGraph) (live : List Bool) (base : ℕ) (place : GPlace) → Sound g → IsInCode g live base → PlaceFits g place → IsAddress place → own_address (layout_of g live) base place ≡ own_address (layout_of g []) base place % 2 ^ 64
own_is_offered g live base (In block offset) sound in_code fits a =
    let lies = placed_lies g (layout_of g live) base (record { sound = sound; laid = refl; small = omega (arith, in_code.starts, in_code.ends); room = omega (arith, in_code.ends) }) in
    let inside = lies.inside block fits.0 in
    sym (mod-eq_of_lt (below base (at_or 0 (layout_of g live).blocks block) offset (at_or 0 (sizes g) block) (layout_of g live).shape.need fits.1 inside in_code.ends))
  where
    below : (base at offset size need : ℕ) → offset ≤ size → at + size ≤ need → base + need ≤ CODE_END → base + at + offset < 2 ^ 64
    below base at offset size need p q r = omega (arith, p, q, r)
own_is_offered g live base (Abs address) sound in_code fits a = sym (mod-eq_of_lt a)
own_is_offered g live base (External weak) sound in_code fits a = refl

-- A unit with an instance that has its address

-- it was placed, and isn't over
addressed_placed : (s : UnitPhase) (p : Phase) (a : ℕ) → fits s p ≡ true → phase_address p ≡ Some a → is_placed s ≡ true
addressed_placed s phase.Unsearched a f e = absurd (none-some a e)
addressed_placed s phase.Claimed a f e = absurd (none-some a e)
addressed_placed s phase.Failed a f e = absurd (none-some a e)
addressed_placed stage.Linking (phase.Resolved b) a f e = refl
addressed_placed stage.Waiting (phase.Resolved b) a f e = refl
addressed_placed stage.Linked (phase.Resolved b) a f e = refl
addressed_placed stage.Finishing (phase.Resolved b) a f e = refl
addressed_placed stage.Unclaimed (phase.Resolved b) a f e = absurd (both_ways false refl f)
addressed_placed stage.Listed (phase.Resolved b) a f e = absurd (both_ways false refl f)
addressed_placed stage.Started (phase.Resolved b) a f e = absurd (both_ways false refl f)
addressed_placed stage.Placed (phase.Resolved b) a f e = absurd (both_ways false refl f)
addressed_placed stage.Done (phase.Resolved b) a f e = absurd (both_ways false refl f)
addressed_placed stage.Failed (phase.Resolved b) a f e = absurd (both_ways false refl f)
addressed_placed stage.Defunct (phase.Resolved b) a f e = absurd (both_ways false refl f)
addressed_placed stage.Done (phase.Emitted b ds) a f e = refl
addressed_placed stage.Linking (phase.Emitted b ds) a f e = absurd (both_ways false refl f)
addressed_placed stage.Waiting (phase.Emitted b ds) a f e = absurd (both_ways false refl f)
addressed_placed stage.Linked (phase.Emitted b ds) a f e = absurd (both_ways false refl f)
addressed_placed stage.Finishing (phase.Emitted b ds) a f e = absurd (both_ways false refl f)
addressed_placed stage.Unclaimed (phase.Emitted b ds) a f e = absurd (both_ways false refl f)
addressed_placed stage.Listed (phase.Emitted b ds) a f e = absurd (both_ways false refl f)
addressed_placed stage.Started (phase.Emitted b ds) a f e = absurd (both_ways false refl f)
addressed_placed stage.Placed (phase.Emitted b ds) a f e = absurd (both_ways false refl f)
addressed_placed stage.Failed (phase.Emitted b ds) a f e = absurd (both_ways false refl f)
addressed_placed stage.Defunct (phase.Emitted b ds) a f e = absurd (both_ways false refl f)

-- the unit of an object
no_alias : (graphs : List LinkGraph) (m : Plain) (k : ℕ) (g : LinkGraph) (x : UnitRow) → IsObjectUnit graphs m k g x → is_alias x ≡ false
no_alias graphs m k g x p = ap (λ (v : Meaning). is_some v.source) p.is

stage_is : (x : UnitRow) → is_alias x ≡ false → row_stage x ≡ x.phase
stage_is x e = ap (λ b. if b && is_none x.base then until_based x.phase else x.phase) e

shape_is : (graphs : List LinkGraph) (m : Plain) (k : ℕ) (g : LinkGraph) (x : UnitRow) → IsObjectUnit graphs m k g x → unit_shape x ≡ Some (layout_of g x.live).shape
shape_is graphs m k g x p = ap (λ b. if b then None else x.meaning.shape x.live) (no_alias graphs m k g x p) ∙ ap (λ (v : Meaning). v.shape x.live) p.is

-- the unit of an instance that has its address lies in code memory
pub unit_in_code : (jmax : ℕ) (h : List (Entry Meaning)) → IsLegal jmax h → (graphs : List LinkGraph) (k : ℕ) (g : LinkGraph) (x : UnitRow) → slice_get (state h).units k ≡ Some x → IsObjectUnit graphs (state h) k g x → is_placed x.phase ≡ true → IsInCode g x.live (unwrap_or x.base 0)
unit_in_code jmax h l graphs k g x t p placed =
    let shape = shape_is graphs (state h) k g x p in
    let base = some_there x.base ((all_work jmax h l k x t).based placed (ap is_some shape)) in
    let is : placement x ≡ Some (record { base = base.0; need = (layout_of g x.live).shape.need }) = ap₂ (λ b s. option_and_then (λ n. option_map (λ (v : Shape). record { base = n; need = v.need }) s) b) base.1 shape in
    let inside = (placements_lie_apart jmax h l).inside k x (record { base = base.0; need = (layout_of g x.live).shape.need }) t is in
    subst (IsInCode g x.live) (ap (λ o. unwrap_or o 0) (sym base.1)) (record { starts = inside.0; ends = inside.1 })

-- The spot

-- the spot of an instance that has its address, and the member that it is of
pub record StandsAt (graphs : List LinkGraph) (m : Plain) (k s i address : ℕ) : Type 0 where
  pub member : Member
  pub there : slice_get (members_of m.units graphs) k ≡ Some member
  pub spot : own_spot k member s ≡ record { address = address; block = block_at graphs m.rows i }

-- the block of an instance is that of its symbol
block_is : (graphs : List LinkGraph) (rows : List InstRow) (i k s : ℕ) (r : InstRow) → slice_get rows i ≡ Some r → (p : IsOfSymbol graphs k s r) → option_map (λ b. (k, b)) (block_of (place_of p.graph s)) ≡ block_at graphs rows i
block_is graphs rows i k s r t p = sym (
    ap (λ o. option_and_then (λ (q : InstRow). option_and_then (λ (g : LinkGraph). option_map (λ b. (q.unit.0, b)) (block_of (offer_place g q.offer))) (slice_get graphs q.unit.0)) o) t
    ∙ (ap (λ u. option_and_then (λ (g : LinkGraph). option_map (λ b. (u, b)) (block_of (offer_place g r.offer))) (slice_get graphs u)) p.unit
    ∙ (ap (λ o. option_and_then (λ (g : LinkGraph). option_map (λ b. (k, b)) (block_of (offer_place g r.offer))) o) p.there
    ∙ ap (λ place. option_map (λ b. (k, b)) (block_of place)) (ap (λ (y : GSym). y.place) (at_or_there no_symbol (offered_symbols p.graph) r.offer (at_or no_symbol p.graph.symbols s) p.symbol) ∙ sym (place_is p.graph.symbols s)))))

pub stands : (jmax : ℕ) (h : List (Entry Meaning)) → IsLegal jmax h → (graphs : List LinkGraph) → IsOfObjects graphs (state h) → All (λ g. Sound g) graphs → All HasAddresses graphs → (i k s address : ℕ) (r : InstRow) →
    slice_get (state h).rows i ≡ Some r → r.present ≡ true → IsOfSymbol graphs k s r → phase_address r.phase ≡ Some address → StandsAt graphs (state h) k s i address
stands jmax h l graphs o sound sized i k s address r t present p e = record {
  member = member_of x g;
  there = member_there m.units graphs k x g there p.there;
  spot = ap₂ (λ a b. record { address = a; block = b }) address_is (block_is graphs m.rows i k s r t p);
}
  where
    m : Plain
    m = state h

    g : LinkGraph
    g = p.graph

    fit : (x : UnitRow) × (slice_get m.units r.unit.0 ≡ Some x) × (fits (row_stage x) r.phase ≡ true)
    fit = ((legal_is_sound jmax h l).rows_fit i r t).here present

    x : UnitRow
    x = fit.0

    there : slice_get m.units k ≡ Some x
    there = ap (slice_get m.units) (sym p.unit) ∙ fit.1

    unit : IsObjectUnit graphs m k g x
    unit = o.units k x g there p.there

    base : ℕ
    base = unwrap_or x.base 0

    in_code : IsInCode g x.live base
    in_code = unit_in_code jmax h l graphs k g x there unit (addressed_placed x.phase r.phase address (ap (λ q. fits q r.phase) (sym (stage_is x (no_alias graphs m k g x unit))) ∙ fit.2) e)

    symbol : GSym
    symbol = at_or no_symbol g.symbols s

    own_place : place_of g s ≡ symbol.place
    own_place = place_is g.symbols s

    offered_place : at_or (Abs 0) (map (λ (y : GSym). y.place) (offered_symbols g)) r.offer ≡ symbol.place
    offered_place = place_is (offered_symbols g) r.offer ∙ ap (λ (y : GSym). y.place) (at_or_there no_symbol (offered_symbols g) r.offer symbol p.symbol)

    told : address ≡ offer_address g r.offer base % 2 ^ 64
    told = addresses_are_kept jmax h l i r x t present fit.1 address e ∙ ap (λ (v : Meaning). v.address r.offer base) unit.is

    graph_sound : Sound g
    graph_sound = one_of_all (λ (f : LinkGraph). Sound f) graphs k g sound p.there

    graph_sized : HasAddresses g
    graph_sized = one_of_all HasAddresses graphs k g sized p.there

    fits_place : PlaceFits g symbol.place
    fits_place = one_of_all (λ (y : GSym). PlaceFits g y.place) g.symbols s symbol graph_sound.symbols p.within

    is_address : IsAddress symbol.place
    is_address = one_of_all (λ (y : GSym). IsAddress y.place) g.symbols s symbol graph_sized p.within

    address_is : own_address (layout_of g x.live) base (place_of g s) ≡ address
    address_is = ap (own_address (layout_of g x.live) base) own_place
        ∙ (own_is_offered g x.live base symbol.place graph_sound in_code fits_place is_address
        ∙ (ap (λ place. own_address (layout_of g []) base place % 2 ^ 64) (sym offered_place) ∙ sym told))
