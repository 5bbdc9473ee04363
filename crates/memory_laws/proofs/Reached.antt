-- The blocks that a program needs lie in units of instances that its entry reaches.
use Rattle.std.proofs.Common.{◌≡◌, ℕ, ◌<◌, Bool, true, false, List, [], length, zip, slice_get, Contains, subst, sym, refl, ap, ◌∙◌, arith, Option, Some, None, unwrap_or}
use Rattle.std.specs.Prelude.{IfSome}
use Rattle.std.proofs.lemmas.Bool.{both_ways}
use Rattle.std.proofs.lemmas.Option.{none-some}
use Rattle.std.proofs.lemmas.List.Elements.{All-contains}
use Rattle.list_laws.proofs.Lists.{some_below}
use Rattle.orc_ids.specs.declared.ids.InstId.{InstId}
use Rattle.graph_walks.specs.Walks as walks
use Rattle.graph_walks.proofs.Paths as paths
use Rattle.block_groups.specs.Groups.{block_of, is_own, needs, next_blocks}
use Rattle.closure_laws.specs.Bound.{HasAll}
use Rattle.link_model.specs.Graph.{external_symbols}
use Rattle.link_model.specs.Image.{at_or, is_paired, place_of}
use Rattle.link_model.specs.Offers.{wanted_of, no_symbol}
use Rattle.link_model.specs.Sound.{EdgeFits}
use Rattle.link_model.specs.declared.graph.Edge.{Edge}
use Rattle.link_model.specs.declared.graph.GPlace.TheVariants.{In}
use Rattle.link_model.specs.declared.graph.LinkGraph.{LinkGraph}
use Rattle.session_laws.proofs.Declared.{map_parts, mapped_parts, mapped_length, element_below, same_element, test_is, test_parts, reaches_self, reaches_dep, reach_transitive}
use Rattle.session_model.specs.Meaning.{Meaning, Bindings}
use Rattle.session_model.specs.Owed.{IsIntact}
use Rattle.session_model.specs.Plain.{Plain, UnitRow, emitted_at, failed_at, is_emitted, is_failed}
use Rattle.session_model.specs.Reach.{Reaches}
use Rattle.session_model.specs.declared.rows.InstRow.{InstRow}
use Rattle.session_model.specs.declared.rows.Phase.{Phase}
use Rattle.session_model.specs.declared.rows.Phase.TheVariants as phase
use Rattle.static_links.specs.Links.{Member, Spots, Spot, Leads, Refers, Pairs, Way, Here, On, IsNeeded}
use Rattle.memory_laws.specs.Closures.{AreObjects, IsBlockOf, IsBoundAt, IsGraphUnit, IsMapOf, block_at, member_of, members_of}
use Rattle.memory_laws.proofs.Blocks.{own_leads, pair_leads, symbol_needed, walk_on}
use Rattle.memory_laws.proofs.Aliases.{end_reached}
use Rattle.memory_laws.proofs.Lists.{pair_parts}
use Rattle.memory_laws.proofs.Symbols.{external_there, target_referred}
use Rattle.memory_laws.proofs.Units.{IsDone, IsKept, depends_on, done_at}

-- a member is that of a unit and its graph
pub record IsMember (units : List UnitRow) (graphs : List LinkGraph) (u : ℕ) (n : Member) : Type 0 where
  pub unit : UnitRow
  pub graph : LinkGraph
  pub there : slice_get units u ≡ Some unit
  pub seen : slice_get graphs u ≡ Some graph
  pub is : n ≡ member_of unit graph

pub member_parts : (units : List UnitRow) (graphs : List LinkGraph) (u : ℕ) (n : Member) → slice_get (members_of units graphs) u ≡ Some n → IsMember units graphs u n
member_parts units graphs u n e =
    let pair = mapped_parts (λ (p : UnitRow × LinkGraph). member_of p.0 p.1) (zip units graphs) u n e in
    let parts = pair_parts units graphs u pair.0 pair.1 in
    record { unit = pair.0.0; graph = pair.0.1; there = parts.0; seen = parts.1; is = pair.2 }

-- an instance that is reached lies in the unit, and from its block the unit's edges lead to this one
pub record IsReached (m : Plain) (graphs : List LinkGraph) (i u b : ℕ) : Type 0 where
  pub number : ℕ
  pub reaches : Reaches m.rows i number
  pub first : ℕ
  pub done : IsDone m graphs number u first
  pub walk : walks.Reaches (next_blocks done.lies.graph done.unit.live) first b

-- an intact instance, in a session whose units are those of the graphs, and a map of their symbols
pub record IsGiven (m : Plain) (graphs : List LinkGraph) (spots : Spots) (i : ℕ) : Type 0 where
  pub kept : IsKept m
  pub graphs_are : AreObjects m.units graphs
  pub map_is : IsMapOf m graphs spots
  pub intact : IsIntact m.rows i

-- a reached instance that lies in a block
pub entered : (m : Plain) (graphs : List LinkGraph) (spots : Spots) (i j u b : ℕ) → IsGiven m graphs spots i → Reaches m.rows i j → block_at graphs m.rows j ≡ Some (u, b) → IsReached m graphs i u b
entered m graphs spots i j u b given reaches at =
    let done = done_at m graphs j u b given.kept given.graphs_are (given.intact.ready.each j reaches) (given.intact.present j reaches) at in
    record { number = j; reaches = reaches; first = b; done = done; walk = paths.reaches_self (next_blocks done.lies.graph done.unit.live) b }

-- the block of the end of a reached instance
entered_end : (m : Plain) (graphs : List LinkGraph) (spots : Spots) (i j u b : ℕ) (block : Option (ℕ × ℕ)) → IsGiven m graphs spots i → Reaches m.rows i j → IsBlockOf m graphs j block → block ≡ Some (u, b) → IsReached m graphs i u b
entered_end m graphs spots i j u b block given reaches is e =
    let end = (is (u, b)).0 e in
    entered m graphs spots i end.0 u b given (end_reached m graphs i j end.0 given.kept given.graphs_are given.intact reaches end.1) end.2

-- further on within the unit
stepped : (m : Plain) (graphs : List LinkGraph) (i u a b : ℕ) (r : IsReached m graphs i u a) → walks.Reaches (next_blocks r.done.lies.graph r.done.unit.live) r.first b → IsReached m graphs i u b
stepped m graphs i u a b r walk = record { number = r.number; reaches = r.reaches; first = r.first; done = r.done; walk = walk }

-- External symbols

-- an external of a unit that is done, with what it is bound to
pub record IsBoundExternal (x : UnitRow) (g : LinkGraph) (s : ℕ) : Type 0 where
  pub number : ℕ
  pub there : slice_get (external_symbols g x.live) number ≡ Some s
  pub item : Option (InstId × ℕ)
  pub is : slice_get (unwrap_or x.bound []) number ≡ Some item

-- a unit that is done has as many bindings as externals
pub bindings_whole : (x : UnitRow) (g : LinkGraph) → IsGraphUnit x.meaning g → HasAll x → length (unwrap_or x.bound []) ≡ length (external_symbols g x.live)
bindings_whole x g is all =
    ap (λ (o : Option Bindings). length (unwrap_or o [])) all.bound.1
    ∙ all.bound.2
    ∙ ap (λ (v : Meaning). length (v.externals x.live)) is.is
    ∙ mapped_length (λ s. wanted_of (at_or no_symbol g.symbols s)) (external_symbols g x.live)

pub bound_external : (x : UnitRow) (g : LinkGraph) (e : Edge) → IsGraphUnit x.meaning g → HasAll x → Contains g.edges e → is_own g x.live e.target ≡ false → IsBoundExternal x g e.target
bound_external x g e is all c other =
    let below : e.target < length g.symbols = (All-contains (EdgeFits g) g.edges e is.sound.edges c).target in
    let external = external_there g x.live e.target below other (target_referred g.edges e c) in
    let item = some_below (unwrap_or x.bound []) external.0 (omega (arith, bindings_whole x g is all, element_below (external_symbols g x.live) external.0 e.target external.1)) in
    record { number = external.0; there = external.1; item = item.0; is = item.1 }

-- what a needed external is bound to is reached
bound_reached : (m : Plain) (graphs : List LinkGraph) (spots : Spots) (i u a k s : ℕ) (p : InstId × ℕ) → IsGiven m graphs spots i → (r : IsReached m graphs i u a) → slice_get (external_symbols r.done.lies.graph r.done.unit.live) k ≡ Some s → slice_get (unwrap_or r.done.unit.bound []) k ≡ Some (Some p) → needs r.done.lies.graph r.done.unit.live s r.first ≡ true → Reaches m.rows i p.0.0
bound_reached m graphs spots i u a k s p given r external at needed =
    let dep = depends_on m graphs r.number u r.first k s p.0 p.1 given.kept r.done external at needed in
    reach_transitive m.rows i r.number p.0.0 r.reaches (reaches_dep m.rows r.number p.0.0 p.0.0 dep (reaches_self m.rows p.0.0))

-- the block of what an external is bound to is reached
followed : (m : Plain) (graphs : List LinkGraph) (spots : Spots) (i u a k s v b : ℕ) (item : Option (InstId × ℕ)) → IsGiven m graphs spots i → (r : IsReached m graphs i u a) → slice_get (external_symbols r.done.lies.graph r.done.unit.live) k ≡ Some s → slice_get (unwrap_or r.done.unit.bound []) k ≡ Some item → needs r.done.lies.graph r.done.unit.live s r.first ≡ true →
    (spot : Spot) → IsBoundAt m graphs item spot → spot.block ≡ Some (v, b) → IsReached m graphs i v b
followed m graphs spots i u a k s v b None given r external at needed spot is e = absurd (none-some (v, b) (ap (λ (z : Spot). z.block) (sym is) ∙ e))
followed m graphs spots i u a k s v b (Some p) given r external at needed spot is e = entered_end m graphs spots i p.0.0 v b spot.block given (bound_reached m graphs spots i u a k s p given r external at needed) is.1 e

-- an emitted instance hasn't failed
pub emitted_unfailed : (rows : List InstRow) (i : ℕ) → emitted_at rows i ≡ true → failed_at rows i ≡ false
emitted_unfailed rows i e = with_row (test_parts (λ (r : InstRow). is_emitted r.phase) rows i e)
  where
    at_phase : (p : Phase) → is_emitted p ≡ true → is_failed p ≡ false
    at_phase (phase.Emitted a ds) f = refl
    at_phase phase.Unsearched f = refl
    at_phase phase.Claimed f = refl
    at_phase (phase.Resolved a) f = refl
    at_phase phase.Failed f = absurd (both_ways false refl f)

    with_row : (r : InstRow) × (slice_get rows i ≡ Some r) × (is_emitted r.phase ≡ true) → failed_at rows i ≡ false
    with_row r = test_is (λ (q : InstRow). is_failed q.phase) rows i r.0 r.1 ∙ at_phase r.0.phase r.2

-- what a needed external is bound to hasn't failed
unfailed : (m : Plain) (graphs : List LinkGraph) (spots : Spots) (i u a k s : ℕ) (item : Option (InstId × ℕ)) → IsGiven m graphs spots i → (r : IsReached m graphs i u a) → slice_get (external_symbols r.done.lies.graph r.done.unit.live) k ≡ Some s → slice_get (unwrap_or r.done.unit.bound []) k ≡ Some item → needs r.done.lies.graph r.done.unit.live s r.first ≡ true →
    IfSome item (λ p. failed_at m.rows p.0.0 ≡ false)
unfailed m graphs spots i u a k s None given r external at needed = tt
unfailed m graphs spots i u a k s (Some p) given r external at needed = emitted_unfailed m.rows p.0.0 (given.intact.ready.each p.0.0 (bound_reached m graphs spots i u a k s p given r external at needed))

-- whatever a unit's symbol is bound to hasn't failed
abbrev pub IsUnfailed : List InstRow → UnitRow → LinkGraph → ℕ → Type 0
IsUnfailed rows x g s = (k : ℕ) (item : Option (InstId × ℕ)) → slice_get (external_symbols g x.live) k ≡ Some s → slice_get (unwrap_or x.bound []) k ≡ Some item → IfSome item (λ p. failed_at rows p.0.0 ≡ false)

-- so it is with the symbols of a reached block's edges
pub target_unfailed : (m : Plain) (graphs : List LinkGraph) (spots : Spots) (i u : ℕ) (x : UnitRow) (g : LinkGraph) (e : Edge) → IsGiven m graphs spots i → IsReached m graphs i u e.block → slice_get m.units u ≡ Some x → slice_get graphs u ≡ Some g → Contains g.edges e → IsUnfailed m.rows x g e.target
target_unfailed m graphs spots i u x g e given r there seen c =
    let unit = same_element (slice_get m.units u) r.done.unit x r.done.there there in
    let graph = same_element (slice_get graphs u) r.done.lies.graph g r.done.lies.seen seen in
    let here : Contains r.done.lies.graph.edges e = subst (λ (f : LinkGraph). Contains f.edges e) (sym graph) c in
    subst (λ y. IsUnfailed m.rows y g e.target) unit (subst (λ f. IsUnfailed m.rows r.done.unit f e.target) graph
    (λ k item external at. unfailed m graphs spots i u e.block k e.target item given r external at
    (symbol_needed r.done.lies.graph r.done.unit.live e r.first e.block r.done.is.sound r.walk here refl)))

-- Steps

refers_own : (m : Plain) (graphs : List LinkGraph) (spots : Spots) (i u a v b : ℕ) (e : Edge) → IsGiven m graphs spots i → (r : IsReached m graphs i u a) → Contains r.done.lies.graph.edges e → e.block ≡ a → is_own r.done.lies.graph r.done.unit.live e.target ≡ true → (spots u e.target).block ≡ Some (v, b) → IsReached m graphs i v b
refers_own m graphs spots i u a v b e given r c at own leads =
    let g : LinkGraph = r.done.lies.graph in
    let x : UnitRow = r.done.unit in
    let spot = given.map_is.own u e.target x g r.done.there r.done.lies.seen r.done.done own in
    let block = map_parts (λ n. (u, n)) (block_of (place_of g e.target)) (v, b) (ap (λ (z : Spot). z.block) (sym spot) ∙ leads) in
    subst (λ (p : ℕ × ℕ). IsReached m graphs i p.0 p.1) (sym block.2)
    (stepped m graphs i u a block.0 r (walk_on g x.live e r.first a block.0 r.walk c at (own_leads g x.live e block.0 own block.1)))

refers_other : (m : Plain) (graphs : List LinkGraph) (spots : Spots) (i u a v b : ℕ) (e : Edge) → IsGiven m graphs spots i → (r : IsReached m graphs i u a) → Contains r.done.lies.graph.edges e → e.block ≡ a → is_own r.done.lies.graph r.done.unit.live e.target ≡ false → (spots u e.target).block ≡ Some (v, b) → IsReached m graphs i v b
refers_other m graphs spots i u a v b e given r c at other leads =
    let g : LinkGraph = r.done.lies.graph in
    let x : UnitRow = r.done.unit in
    let external = bound_external x g e r.done.is ((given.kept.bound u x r.done.there).done r.done.done) c other in
    let needed = symbol_needed g x.live e r.first a r.done.is.sound r.walk c at in
    let spot = given.map_is.bound u e.target external.number x g external.item r.done.there r.done.lies.seen r.done.done external.there external.is (unfailed m graphs spots i u a external.number e.target external.item given r external.there external.is needed) in
    followed m graphs spots i u a external.number e.target v b external.item given r external.there external.is needed (spots u e.target) spot leads

refers_on : (m : Plain) (graphs : List LinkGraph) (spots : Spots) (i u a v b : ℕ) (e : Edge) (t : Bool) → IsGiven m graphs spots i → (r : IsReached m graphs i u a) → Contains r.done.lies.graph.edges e → e.block ≡ a → is_own r.done.lies.graph r.done.unit.live e.target ≡ t → (spots u e.target).block ≡ Some (v, b) → IsReached m graphs i v b
refers_on m graphs spots i u a v b e true given r c at own leads = refers_own m graphs spots i u a v b e given r c at own leads
refers_on m graphs spots i u a v b e false given r c at other leads = refers_other m graphs spots i u a v b e given r c at other leads

pairs_on : (m : Plain) (graphs : List LinkGraph) (i u a b offset : ℕ) (e : Edge) → (r : IsReached m graphs i u a) → Contains r.done.lies.graph.edges e → e.block ≡ a → is_paired e.kind ≡ true → place_of r.done.lies.graph e.target ≡ In b offset → IsReached m graphs i u b
pairs_on m graphs i u a b offset e r c at paired place =
    let g : LinkGraph = r.done.lies.graph in
    let x : UnitRow = r.done.unit in
    stepped m graphs i u a b r (walk_on g x.live e r.first a b r.walk c at (pair_leads g x.live e b paired (ap block_of place)))

-- the member of a reached unit has its graph
member_graph : (m : Plain) (graphs : List LinkGraph) (i u a : ℕ) (n : Member) → (r : IsReached m graphs i u a) → slice_get (members_of m.units graphs) u ≡ Some n → n.graph ≡ r.done.lies.graph
member_graph m graphs i u a n r e =
    let p = member_parts m.units graphs u n e in
    ap (λ (z : Member). z.graph) p.is ∙ same_element (slice_get graphs u) p.graph r.done.lies.graph p.seen r.done.lies.seen

-- the block that a reached one leads to is reached
leads_on : (m : Plain) (graphs : List LinkGraph) (spots : Spots) (i : ℕ) (from to : ℕ × ℕ) → IsGiven m graphs spots i → IsReached m graphs i from.0 from.1 → Leads (members_of m.units graphs) spots from to → IsReached m graphs i to.0 to.1
leads_on m graphs spots i from to given r (Refers n e there c at leads) =
    let same = member_graph m graphs i from.0 from.1 n r there in
    refers_on m graphs spots i from.0 from.1 to.0 to.1 e (is_own r.done.lies.graph r.done.unit.live e.target) given r (subst (λ (g : LinkGraph). Contains g.edges e) same c) at refl leads
leads_on m graphs spots i from to given r (Pairs n e offset there c at paired place unit) =
    let same = member_graph m graphs i from.0 from.1 n r there in
    subst (λ (u : ℕ). IsReached m graphs i u to.1) (sym unit)
    (pairs_on m graphs i from.0 from.1 to.1 offset e r (subst (λ (g : LinkGraph). Contains g.edges e) same c) at paired (ap (λ (g : LinkGraph). place_of g e.target) (sym same) ∙ place))

way_on : (m : Plain) (graphs : List LinkGraph) (spots : Spots) (i : ℕ) (from to : ℕ × ℕ) → IsGiven m graphs spots i → Way (members_of m.units graphs) spots from to → IsReached m graphs i from.0 from.1 → IsReached m graphs i to.0 to.1
way_on m graphs spots i from to given (Here b) r = r
way_on m graphs spots i from to given (On first next last leads way) r = way_on m graphs spots i next last given way (leads_on m graphs spots i first next given r leads)

-- Needed blocks

-- each block that the program of an intact instance needs is reached
pub needed_reached : (m : Plain) (graphs : List LinkGraph) (spots : Spots) (i u b : ℕ) (first : Option (ℕ × ℕ)) → IsGiven m graphs spots i → IsBlockOf m graphs i first → IsNeeded (members_of m.units graphs) spots first (u, b) → IsReached m graphs i u b
needed_reached m graphs spots i u b None given at needed = absurd needed
needed_reached m graphs spots i u b (Some block) given at way = way_on m graphs spots i block (u, b) given way (entered_end m graphs spots i i block.0 block.1 (Some block) given (reaches_self m.rows i) at refl)

-- a way, and a step more
way_more : (members : List Member) (spots : Spots) (from by to : ℕ × ℕ) → Way members spots from by → Leads members spots by to → Way members spots from to
way_more members spots from by to (Here b) leads = On b to to leads (Here to)
way_more members spots from by to (On first next last step way) leads = On first next to step (way_more members spots next last to way leads)

-- what a needed block leads to is needed
pub needed_more : (members : List Member) (spots : Spots) (first : Option (ℕ × ℕ)) (by to : ℕ × ℕ) → IsNeeded members spots first by → Leads members spots by to → IsNeeded members spots first to
needed_more members spots None by to needed leads = needed
needed_more members spots (Some block) by to way leads = way_more members spots block by to way leads
