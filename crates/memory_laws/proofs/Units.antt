-- The units of an intact instance's blocks: they are done, and depend on what their blocks need.
use Rattle.std.proofs.Common.{◌≡◌, ℕ, true, false, ◌==◌, List, [], length, map, slice_get, Contains, subst, inl, inr, sym, refl, ap, ◌∙◌, arith, Option, Some, None, option_map, unwrap_or}
use Rattle.std.specs.Prelude.{option_and_then}
use Rattle.std.specs.Option.{option_map_or}
use Rattle.std.proofs.lemmas.Bool.{both_ways, and_from, eq-eqb}
use Rattle.std.proofs.lemmas.Option.{none-some}
use Rattle.list_laws.proofs.Lists.{some_below}
use Rattle.orc_ids.specs.declared.ids.InstId.{InstId}
use Rattle.block_groups.specs.Groups.{block_of, groups_of, needs}
use Rattle.closure_laws.specs.Bound.{AreBound}
use Rattle.closure_laws.specs.Dependencies.{DependenciesFit, DependsSo, unit_groups}
use Rattle.closure_laws.specs.Instances.{AreLive}
use Rattle.link_model.specs.Graph.{external_symbols}
use Rattle.link_model.specs.declared.graph.LinkGraph.{LinkGraph}
use Rattle.session_laws.proofs.Declared.{element_below, map_parts, mapped_some}
use Rattle.session_laws.specs.Placements.{AreApart}
use Rattle.session_model.specs.Change.{deps_in}
use Rattle.session_model.specs.Meaning.{Meaning}
use Rattle.session_model.specs.Plain.{Plain, UnitRow, emitted_at, is_defunct, is_emitted, is_owned, own_rows, phase_deps, present_at}
use Rattle.session_model.specs.Reach.{deps_at}
use Rattle.session_model.specs.declared.rows.InstRow.{InstRow}
use Rattle.session_model.specs.declared.rows.Phase.{Phase}
use Rattle.session_model.specs.declared.rows.Phase.TheVariants as phase
use Rattle.session_model.specs.declared.rows.UnitPhase.TheVariants as stage
use Rattle.session_units.specs.Meaning.{instances}
use Rattle.memory_laws.specs.Closures.{AreObjects, IsGraphUnit, IsObject, block_at, offer_place}
use Rattle.memory_laws.proofs.Lists.{map_here}
use Rattle.memory_laws.proofs.Members.{block_deps, bound_needed, instance_deps, owned_here, place_at, places_offered}

-- what every legal history keeps of its units and instances
pub record IsKept (m : Plain) : Type 0 where
  pub bound : AreBound m
  pub depends : DependenciesFit m.rows m.units
  pub live : (u : ℕ) (x : UnitRow) → slice_get m.units u ≡ Some x → is_defunct x.phase ≡ false → AreLive m.rows u x
  pub apart : AreApart m.units

-- each unit has its graph
pub graph_there : (units : List UnitRow) (graphs : List LinkGraph) (u : ℕ) (x : UnitRow) → AreObjects units graphs → slice_get units u ≡ Some x → (g : LinkGraph) × (slice_get graphs u ≡ Some g) × IsObject x.meaning g
graph_there units graphs u x are e =
    let p = some_below graphs u (omega (arith, are.whole, element_below units u x e)) in
    (p.0, p.1, are.each u x p.0 e p.1)

-- The block of an instance

-- an instance lies in a block of its unit's graph
pub record LiesIn (graphs : List LinkGraph) (rows : List InstRow) (i u b : ℕ) : Type 0 where
  pub row : InstRow
  pub here : slice_get rows i ≡ Some row
  pub unit : row.unit.0 ≡ u
  pub graph : LinkGraph
  pub seen : slice_get graphs u ≡ Some graph
  pub place : block_of (offer_place graph row.offer) ≡ Some b

and_then_parts : {X Y : Type 0} (f : X → Option Y) (o : Option X) (y : Y) → option_and_then f o ≡ Some y → (x : X) × (o ≡ Some x) × (f x ≡ Some y)
and_then_parts f None y e = absurd (none-some y e)
and_then_parts f (Some x) y e = (x, refl, e)

lies_by : (graphs : List LinkGraph) (rows : List InstRow) (i u b n : ℕ) (r : InstRow) (g : LinkGraph) → slice_get rows i ≡ Some r → slice_get graphs r.unit.0 ≡ Some g → block_of (offer_place g r.offer) ≡ Some n → ◌≡◌ {A = ℕ × ℕ} (u, b) (r.unit.0, n) → LiesIn graphs rows i u b
lies_by graphs rows i u b n r g here seen place same =
    let unit : u ≡ r.unit.0 = ap (λ (p : ℕ × ℕ). p.0) same in
    let block : b ≡ n = ap (λ (p : ℕ × ℕ). p.1) same in
    record { row = r; here = here; unit = sym unit; graph = g; seen = ap (slice_get graphs) unit ∙ seen; place = place ∙ ap Some (sym block) }

abbrev block_in : LinkGraph → InstRow → Option (ℕ × ℕ)
block_in g r = option_map (λ n. (r.unit.0, n)) (block_of (offer_place g r.offer))

pub lies_in : (graphs : List LinkGraph) (rows : List InstRow) (i u b : ℕ) → block_at graphs rows i ≡ Some (u, b) → LiesIn graphs rows i u b
lies_in graphs rows i u b e =
    let row = and_then_parts (λ (r : InstRow). option_and_then (λ (g : LinkGraph). block_in g r) (slice_get graphs r.unit.0)) (slice_get rows i) (u, b) e in
    let graph = and_then_parts (λ (g : LinkGraph). block_in g row.0) (slice_get graphs row.0.unit.0) (u, b) row.2 in
    let block = map_parts (λ n. (row.0.unit.0, n)) (block_of (offer_place graph.0 row.0.offer)) (u, b) graph.2 in
    lies_by graphs rows i u b block.0 row.0 graph.0 row.1 graph.1 block.1 block.2

-- Instances that are emitted and present

pub emitted_parts : (p : Phase) → is_emitted p ≡ true → (address : ℕ) × (deps : List InstId) × (p ≡ phase.Emitted address deps)
emitted_parts (phase.Emitted address deps) e = (address, deps, refl)
emitted_parts phase.Unsearched e = absurd (both_ways false refl e)
emitted_parts phase.Claimed e = absurd (both_ways false refl e)
emitted_parts (phase.Resolved address) e = absurd (both_ways false refl e)
emitted_parts phase.Failed e = absurd (both_ways false refl e)

-- a unit of whose object a symbol lies in a block is that of the object
block_of_graph : (unit : Meaning) (g : LinkGraph) (k b : ℕ) → block_of (offer_place g k) ≡ Some b → IsObject unit g → IsGraphUnit unit g
block_of_graph unit g k b e (inl is) = is
block_of_graph unit g k b e (inr bare) = absurd (none-some b (ap (λ (f : LinkGraph). block_of (offer_place f k)) (sym bare.1) ∙ e))

-- the unit of an instance is done, and has its group's dependencies for the instance
pub record IsDone (m : Plain) (graphs : List LinkGraph) (i u b : ℕ) : Type 0 where
  pub lies : LiesIn graphs m.rows i u b
  pub unit : UnitRow
  pub there : slice_get m.units u ≡ Some unit
  pub done : unit.phase ≡ stage.Done
  pub is : IsGraphUnit unit.meaning lies.graph
  pub owned : is_owned u lies.row ≡ true
  pub deps : deps_at m.rows i ≡ map (λ (j : InstId). j.0) (deps_in (unit_groups m.rows u unit) i)

emitted_in : (m : Plain) (graphs : List LinkGraph) (i u b address : ℕ) (deps : List InstId) → IsKept m → AreObjects m.units graphs → (lies : LiesIn graphs m.rows i u b) → lies.row.present ≡ true → lies.row.phase ≡ phase.Emitted address deps → IsDone m graphs i u b
emitted_in m graphs i u b address deps kept are lies present emitted =
    let depends : DependsSo m.rows m.units u i deps = subst (λ (n : ℕ). DependsSo m.rows m.units n i deps) lies.unit (kept.depends i lies.row address deps lies.here present emitted) in
    let recorded : deps_at m.rows i ≡ map (λ (j : InstId). j.0) deps = ap (λ o. option_map_or (λ (x : InstRow). phase_deps x.phase) o []) lies.here ∙ ap phase_deps emitted in
    record {
      lies = lies;
      unit = depends.unit;
      there = depends.there;
      done = depends.done;
      is = block_of_graph depends.unit.meaning lies.graph lies.row.offer b lies.place (are.each u depends.unit lies.graph depends.there lies.seen);
      owned = and_from lies.row.present (lies.row.unit.0 == u) present (eq-eqb lies.row.unit.0 u lies.unit);
      deps = recorded ∙ ap (map (λ (j : InstId). j.0)) depends.same;
    }

pub done_at : (m : Plain) (graphs : List LinkGraph) (i u b : ℕ) → IsKept m → AreObjects m.units graphs → emitted_at m.rows i ≡ true → present_at m.rows i ≡ true → block_at graphs m.rows i ≡ Some (u, b) → IsDone m graphs i u b
done_at m graphs i u b kept are emitted present at =
    let lies = lies_in graphs m.rows i u b at in
    let p = emitted_parts lies.row.phase (ap (λ o. option_map_or (λ (x : InstRow). is_emitted x.phase) o false) (sym lies.here) ∙ emitted) in
    emitted_in m graphs i u b p.0 p.1 kept are lies (ap (λ o. option_map_or (λ (x : InstRow). x.present) o false) (sym lies.here) ∙ present) p.2

-- an instance whose block needs a symbol depends on what that is bound to
pub depends_on : (m : Plain) (graphs : List LinkGraph) (i u b k s : ℕ) (j : InstId) (address : ℕ) → IsKept m → (d : IsDone m graphs i u b) → slice_get (external_symbols d.lies.graph d.unit.live) k ≡ Some s → slice_get (unwrap_or d.unit.bound []) k ≡ Some (Some (j, address)) → needs d.lies.graph d.unit.live s b ≡ true →
    Contains (deps_at m.rows i) j.0
depends_on m graphs i u b k s j address kept d external at needs_it =
    let g : LinkGraph = d.lies.graph in
    let x : UnitRow = d.unit in
    let here : InstId = record { 0 = i } in
    let own : List InstId = own_rows u 0 m.rows in
    let bound : List (Option InstId) = instances (unwrap_or x.bound []) in
    let live : AreLive m.rows u x = kept.live u x d.there (ap is_defunct d.done) in
    let places = places_offered g x.live m.rows own (live.flags ∙ ap (λ (v : Meaning). length v.offers) d.is.is) live.instances in
    let place : block_of (place_at g m.rows here) ≡ Some b = ap (λ o. block_of (offer_place g (option_map_or (λ (r : InstRow). r.offer) o 0))) d.lies.here ∙ d.lies.place in
    let same : unit_groups m.rows u x ≡ groups_of g x.live own bound = ap (λ (v : Meaning). v.groups x.live (unwrap_or x.base 0) (unwrap_or x.bound []) own) d.is.is in
    let group : deps_in (unit_groups m.rows u x) i ≡ block_deps g x.live bound b =
    ap (λ gs. deps_in gs i) same ∙ instance_deps g x.live m.rows own bound i b d.is.sound places (owned_here u 0 i i m.rows d.lies.row (omega arith) d.lies.here d.owned) place in
    let depends : Contains (block_deps g x.live bound b) j = bound_needed g x.live bound k s b j external (mapped_some (option_map (λ (p : InstId × ℕ). p.0)) (unwrap_or x.bound []) k (Some (j, address)) at) needs_it in
    subst (λ ns. Contains ns j.0) (sym d.deps) (map_here (λ (n : InstId). n.0) (deps_in (unit_groups m.rows u x) i) j (subst (λ is. Contains is j) (sym group) depends))
