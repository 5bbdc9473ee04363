-- A session of a program's objects is linked by names, and its memory holds the program of an entry that is ready.
use Rattle.std.proofs.Common.{◌≡◌, ℕ, ◌<◌, true, false, List, [], map, slice_get, flat_map, Contains, inl, inr, subst, sym, refl, ap, ◌∙◌, Option, Some, None, unwrap_or}
use Rattle.std.specs.Prelude.{IfSome}
use Rattle.std.specs.List.{All, AllByRecursion}
use Rattle.std.specs.Option.{option_map_or}
use Rattle.std.proofs.lemmas.Bool.{both_ways}
use Rattle.std.proofs.lemmas.List.Elements.{All-weaker, recursion_from_All}
use Rattle.std.proofs.lemmas.Option.{none-some}
use Rattle.orc_ids.specs.declared.groups.Group.{Group}
use Rattle.orc_ids.specs.declared.ids.InstId.{InstId}
use Rattle.orc_ids.specs.declared.lookup.Wanted.{Wanted}
use Rattle.link_model.specs.Graph.{external_symbols}
use Rattle.link_model.specs.Image.{at_or}
use Rattle.link_model.specs.Offers.{name_of, no_symbol, wanted_of}
use Rattle.link_model.specs.declared.graph.LinkGraph.{LinkGraph}
use Rattle.block_groups.specs.Groups.{groups_of, is_own}
use Rattle.session_model.specs.Change.{deps_in}
use Rattle.session_model.specs.History.{IsLegal}
use Rattle.session_model.specs.Match.{row_of}
use Rattle.session_model.specs.Meaning.{Bindings, Meaning, bound_instances}
use Rattle.session_model.specs.Owed.{IsIntact}
use Rattle.session_model.specs.Plain.{Plain, UnitRow, address_at, failed_at, own_rows, phase_address, phase_deps, present_at}
use Rattle.session_model.specs.Reach.{IsReady, deps_at}
use Rattle.session_model.specs.State.{state}
use Rattle.session_model.specs.declared.entry.Entry.{Entry}
use Rattle.session_model.specs.declared.rows.InstRow.{InstRow}
use Rattle.session_model.specs.declared.rows.Phase.{Phase}
use Rattle.session_model.specs.declared.rows.Phase.TheVariants as phase
use Rattle.session_model.specs.declared.rows.Row.{Row}
use Rattle.session_model.specs.declared.rows.UnitPhase.TheVariants as stage
use Rattle.session_units.proofs.Lawful.{bound_are}
use Rattle.session_units.proofs.Sharing.{on_found}
use Rattle.session_units.specs.Meaning.{instances}
use Rattle.session_laws.proofs.Declared.{element_below, mapped_some, same_element, deps_parts, no_dep, test_from, test_parts, deps_in_groups, numbers_all, closed_reached, row_here}
use Rattle.closure_laws.proofs.Declared.{dependencies_are_kept, bound_addresses_are_kept, row_below, done_is_bound}
use Rattle.closure_laws.specs.Bindings.{IsAt}
use Rattle.closure_laws.specs.Dependencies.{unit_groups}
use Rattle.static_links.specs.Links.{IsLinkedProgram, Member, Spot, Spots}
use Rattle.memory_laws.specs.Closures.{IsBlockOf, IsBoundAt, IsMapOf, block_at, member_of, members_of, nowhere, own_spot}
use Rattle.memory_laws.specs.Laws.{IntactHoldsClosure}
use Rattle.memory_laws.specs.NameLaws.{HasRow, IsObjectUnit, IsOfObjects, IsOfSymbol, NamesAreDefined}
use Rattle.memory_laws.specs.Names.{definition}
use Rattle.memory_laws.specs.Objects.{IsProgram}
use Rattle.memory_laws.proofs.Had.{ready_address}
use Rattle.memory_laws.specs.Maps.{ClosuresAreThere}
use Rattle.memory_laws.specs.LinkLaws.{IsLinkedByNames, MemoryHoldsProgram, ProgramIsLinkedByNames, ReadyNameHasProgram}
use Rattle.memory_laws.specs.Programs.{HasAddresses, bases_of, name_spot, program_members, spot_in, spots_by_name}
use Rattle.memory_laws.proofs.Binding.{IsDefinition, WasMatched, bound_defined, instance_bound, unbound_undefined, was_matched}
use Rattle.memory_laws.proofs.ProgramMembers.{graphs_are, member_there, members_are, own_ends}
use Rattle.memory_laws.proofs.Owners.{definition_spot, external_by_name, own_by_name}
use Rattle.memory_laws.proofs.Standing.{stands}

-- A legal history of a program
record IsRun (jmax : ℕ) (h : List (Entry Meaning)) (graphs : List LinkGraph) : Type 0 where
  legal : IsLegal jmax h
  program : IsProgram graphs h
  objects : IsOfObjects graphs (state h)
  addresses : All HasAddresses graphs

-- The map

-- a spot with an instance's address, in its block, is where that is bound
bound_there : (m : Plain) (graphs : List LinkGraph) (i address : ℕ) (spot : Spot) → IsBlockOf m graphs i (block_at graphs m.rows i) → spot ≡ record { address = address; block = block_at graphs m.rows i } → (spot.address ≡ address) × IsBlockOf m graphs i spot.block
bound_there m graphs i address spot own is = (ap (λ (z : Spot). z.address) is, subst (λ (z : Spot). IsBlockOf m graphs i z.block) (sym is) own)

-- where the definition of a name is that has an instance with its address
defined_stands : (jmax : ℕ) (h : List (Entry Meaning)) (graphs : List LinkGraph) → IsRun jmax h graphs → (name k s i address : ℕ) (r : InstRow) → definition graphs name ≡ Some (k, s) →
    slice_get (state h).rows i ≡ Some r → r.present ≡ true → IsOfSymbol graphs k s r → address_at (state h).rows i ≡ Some address →
    name_spot graphs (members_of (state h).units graphs) name ≡ record { address = address; block = block_at graphs (state h).rows i }
defined_stands jmax h graphs run name k s i address r d t present of e =
    let at = stands jmax h run.legal graphs run.objects run.program.are.sound run.addresses i k s address r t present of (ap (λ o. option_map_or (λ (q : InstRow). phase_address q.phase) o None) (sym t) ∙ e) in
    definition_spot graphs (members_of (state h).units graphs) name k s at.member d at.there ∙ at.spot

-- the name of an external is what the unit looks up for it
wanted_name : (graphs : List LinkGraph) (m : Plain) (u s k : ℕ) (x : UnitRow) (g : LinkGraph) (w : Wanted) → IsObjectUnit graphs m u g x → slice_get (external_symbols g x.live) k ≡ Some s → slice_get (x.meaning.externals x.live) k ≡ Some w → w.name ≡ name_of (at_or no_symbol g.symbols s)
wanted_name graphs m u s k x g w p e f = ap (λ (v : Wanted). v.name) (same_element (slice_get (x.meaning.externals x.live) k) w (wanted_of (at_or no_symbol g.symbols s)) f
    (ap (λ (v : Meaning). slice_get (v.externals x.live) k) p.is ∙ mapped_some (λ (n : ℕ). wanted_of (at_or no_symbol g.symbols n)) (external_symbols g x.live) k s e))

map_of : NamesAreDefined → (jmax : ℕ) (h : List (Entry Meaning)) (graphs : List LinkGraph) → IsRun jmax h graphs → IsMapOf (state h) graphs (spots_by_name graphs (members_of (state h).units graphs))
map_of names jmax h graphs run = record { own = own; bound = bound }
  where
    m : Plain
    m = state h

    members : List Member
    members = members_of m.units graphs

    own : (u s : ℕ) (x : UnitRow) (g : LinkGraph) → slice_get m.units u ≡ Some x → slice_get graphs u ≡ Some g → x.phase ≡ stage.Done → is_own g x.live s ≡ true → spots_by_name graphs members u s ≡ own_spot u (member_of x g) s
    own u s x g t e done is = own_by_name graphs members u s (member_of x g) (member_there m.units graphs u x g t e) (ap (λ ls. is_own g ls s) (sym (run.objects.units u x g t e).keeps) ∙ is)

    -- by what the external is bound to
    spot : (u k : ℕ) (x : UnitRow) (bs : Bindings) (b : Option (InstId × ℕ)) → slice_get m.units u ≡ Some x → x.bound ≡ Some bs → slice_get bs k ≡ Some b →
        (a : WasMatched graphs h run.program x k b) → IfSome b (λ p. failed_at m.rows p.0.0 ≡ false) → IsBoundAt m graphs b (name_spot graphs members a.wanted.name.0)
    spot u k x bs None t e f a unfailed = ap (λ o. option_map_or (spot_in members) o nowhere) (unbound_undefined names jmax h run.legal graphs run.program x k a)
    spot u k x bs (Some (i, address)) t e f a unfailed = at (bound_addresses_are_kept jmax h run.legal u x bs t e k i address f)
      where
        d : IsDefinition graphs m.rows a.wanted.name.0 i.0
        d = bound_defined names jmax h run.legal graphs run.program x k address i a

        at : IsAt m.rows i.0 address → IsBoundAt m graphs (Some (i, address)) (name_spot graphs members a.wanted.name.0)
        at (inl has) = bound_there m graphs i.0 address (name_spot graphs members a.wanted.name.0) (own_ends graphs m run.objects run.program.are.sound i.0)
            (defined_stands jmax h graphs run a.wanted.name.0 d.object d.symbol i.0 address d.row d.defined d.there d.present d.of has)
        at (inr failed) = absurd (both_ways (failed_at m.rows i.0) unfailed failed)

    bound : (u s k : ℕ) (x : UnitRow) (g : LinkGraph) (b : Option (InstId × ℕ)) → slice_get m.units u ≡ Some x → slice_get graphs u ≡ Some g → x.phase ≡ stage.Done →
        slice_get (external_symbols g x.live) k ≡ Some s → slice_get (unwrap_or x.bound []) k ≡ Some b → IfSome b (λ p. failed_at m.rows p.0.0 ≡ false) → IsBoundAt m graphs b (spots_by_name graphs members u s)
    bound u s k x g b t e done external there unfailed =
        let has = ((done_is_bound jmax h run.legal u x t).done done).bound in
        let its : slice_get has.0 k ≡ Some b = ap (λ o. slice_get (unwrap_or o []) k) (sym has.1) ∙ there in
        let unit = run.objects.units u x g t e in
        let a = was_matched names jmax h run.legal graphs run.program u k x g has.0 b t e has.1 its in
        subst (IsBoundAt m graphs b) (sym (external_by_name graphs members u k s (member_of x g) (member_there m.units graphs u x g t e) (ap (λ ls. slice_get (external_symbols g ls) k) (sym unit.keeps) ∙ external)
        ∙ ap (λ n. name_spot graphs members n.0) (sym (wanted_name graphs m u s k x g a.wanted unit external a.looked)))) (spot u k x has.0 b t has.1 its a unfailed)

-- What is reached

-- only an emitted instance has dependencies
emitted_deps : (p : Phase) (j : ℕ) → Contains (phase_deps p) j → (address : ℕ) × (deps : List InstId) × (p ≡ phase.Emitted address deps) × Contains (map (λ (i : InstId). i.0) deps) j
emitted_deps phase.Unsearched j c = absurd (no_dep j c)
emitted_deps phase.Claimed j c = absurd (no_dep j c)
emitted_deps (phase.Resolved a) j c = absurd (no_dep j c)
emitted_deps (phase.Emitted a ds) j c = (a, ds, refl, c)
emitted_deps phase.Failed j c = absurd (no_dep j c)

-- the dependencies of a present instance are present
deps_present : NamesAreDefined → (jmax : ℕ) (h : List (Entry Meaning)) (graphs : List LinkGraph) → IsRun jmax h graphs → (i j : ℕ) → present_at (state h).rows i ≡ true → Contains (deps_at (state h).rows i) j → present_at (state h).rows j ≡ true
deps_present names jmax h graphs run i j present c = with_row (test_parts (λ (r : InstRow). r.present) (state h).rows i present) (deps_parts (state h).rows i j c)
  where
    m : Plain
    m = state h

    there : (u : ℕ) (x : UnitRow) (bs : Bindings) (d : InstId) → slice_get m.units u ≡ Some x → x.bound ≡ Some bs → (g : LinkGraph) → slice_get graphs u ≡ Some g → Contains (bound_instances bs) d → present_at m.rows d.0 ≡ true
    there u x bs d t e g s k =
        let b = instance_bound bs d k in
        let a = was_matched names jmax h run.legal graphs run.program u b.0 x g bs (Some (d, b.1)) t s e b.2 in
        let is = bound_defined names jmax h run.legal graphs run.program x b.0 b.1 d a in
        test_from (λ (r : InstRow). r.present) m.rows d.0 is.row is.there is.present

    -- each dependency of the unit's groups
    groups_present : (u : ℕ) (x : UnitRow) → slice_get m.units u ≡ Some x → x.phase ≡ stage.Done → (k : ℕ) → Contains (map (λ (d : InstId). d.0) (deps_in (unit_groups m.rows u x) k)) j → present_at m.rows j ≡ true
    groups_present u x t done k = with_graph (row_below graphs u (subst (λ n. u < n) run.objects.whole (element_below m.units u x t)))
      where
        has : (b : Bindings) × (x.bound ≡ Some b)
        has = let p = ((done_is_bound jmax h run.legal u x t).done done).bound in (p.0, p.1)

        with_graph : (g : LinkGraph) × (slice_get graphs u ≡ Some g) → Contains (map (λ (d : InstId). d.0) (deps_in (unit_groups m.rows u x) k)) j → present_at m.rows j ≡ true
        with_graph g = numbers_all (λ n. present_at m.rows n ≡ true) (deps_in (unit_groups m.rows u x) k) j
            (deps_in_groups (λ (d : InstId). present_at m.rows d.0 ≡ true) (unit_groups m.rows u x) k
            (subst (λ groups. AllByRecursion (λ (d : InstId). present_at m.rows d.0 ≡ true) (flat_map (λ (y : Group). y.deps) groups)) (sym groups_are)
            (recursion_from_All (λ (d : InstId). present_at m.rows d.0 ≡ true) (flat_map (λ (y : Group). y.deps) groups) all)))
          where
            groups : List Group
            groups = groups_of g.0 x.live (own_rows u 0 m.rows) (instances has.0)

            groups_are : unit_groups m.rows u x ≡ groups
            groups_are = ap (λ (v : Meaning). v.groups x.live (unwrap_or x.base 0) (unwrap_or x.bound []) (own_rows u 0 m.rows)) (run.objects.units u x g.0 t g.1).is
                ∙ ap (λ o. groups_of g.0 x.live (own_rows u 0 m.rows) (instances (unwrap_or o []))) has.1

            all : All (λ (d : InstId). present_at m.rows d.0 ≡ true) (flat_map (λ (y : Group). y.deps) groups)
            all = All-weaker (Contains (bound_instances has.0)) (λ (d : InstId). present_at m.rows d.0 ≡ true) (λ d. there u x has.0 d t has.1 g.0 g.1) (flat_map (λ (y : Group). y.deps) groups)
                (subst (λ xs. All (Contains xs) (flat_map (λ (y : Group). y.deps) groups)) (bound_are has.0) (on_found g.0 x.live (own_rows u 0 m.rows) (instances has.0)))

    with_row : (r : InstRow) × (slice_get m.rows i ≡ Some r) × (r.present ≡ true) → (r : InstRow) × (slice_get m.rows i ≡ Some r) × Contains (phase_deps r.phase) j → present_at m.rows j ≡ true
    with_row p q =
        let is = same_element (slice_get m.rows i) p.0 q.0 p.1 q.1 in
        let e = emitted_deps q.0.phase j q.2 in
        let so = dependencies_are_kept jmax h run.legal i q.0 e.0 e.1 q.1 (ap (λ (r : InstRow). r.present) (sym is) ∙ p.2) e.2 in
        groups_present q.0.unit.0 so.unit so.there so.done i (subst (λ ds. Contains (map (λ (d : InstId). d.0) ds) j) so.same e.3)

-- a ready instance that is present is intact
ready_intact : NamesAreDefined → (jmax : ℕ) (h : List (Entry Meaning)) (graphs : List LinkGraph) → IsRun jmax h graphs → (i : ℕ) → present_at (state h).rows i ≡ true → IsReady (state h).rows i → IsIntact (state h).rows i
ready_intact names jmax h graphs run i present ready = record { ready = ready; present = λ j r. closed_reached (state h).rows (λ k. present_at (state h).rows k ≡ true) (λ k l p c. deps_present names jmax h graphs run k l p c) i j present r }

-- Names

-- the row of a name is that of its definition
row_stands : (jmax : ℕ) (h : List (Entry Meaning)) (graphs : List LinkGraph) → IsRun jmax h graphs → (name address : ℕ) (row : Row) → row_of (state h).rows 0 name ≡ Some row → address_at (state h).rows row.inst.0 ≡ Some address →
    name_spot graphs (members_of (state h).units graphs) name ≡ record { address = address; block = block_at graphs (state h).rows row.inst.0 }
row_stands jmax h graphs run name address row e f = split (definition graphs name) refl
  where
    m : Plain
    m = state h

    found : (k s : ℕ) → definition graphs name ≡ Some (k, s) → (r : InstRow) × HasRow m.rows name r × IsOfSymbol graphs k s r → name_spot graphs (members_of m.units graphs) name ≡ record { address = address; block = block_at graphs m.rows row.inst.0 }
    found k s d r =
        let is : row.inst.0 ≡ r.1.number = ap (λ (q : Row). q.inst.0) (same_element (row_of m.rows 0 name) row r.1.row e r.1.found) ∙ r.1.is in
        defined_stands jmax h graphs run name k s row.inst.0 address r.0 d (ap (slice_get m.rows) is ∙ r.1.there) r.1.present r.2 f

    split : (o : Option (ℕ × ℕ)) → definition graphs name ≡ o → name_spot graphs (members_of m.units graphs) name ≡ record { address = address; block = block_at graphs m.rows row.inst.0 }
    split None d = absurd (none-some row (sym (run.objects.undefined name d) ∙ e))
    split (Some d) is = found d.0 d.1 is (run.objects.defined name d.0 d.1 is)

-- The laws

pub linked_by_names : NamesAreDefined → ProgramIsLinkedByNames
linked_by_names names jmax h l graphs p sized = record {
  graphs_are = graphs_are graphs m objects p.are.sound;
  members = members;
  map = subst (λ ms. IsMapOf m graphs (spots_by_name graphs ms)) members (map_of names jmax h graphs run);
  own = own_ends graphs m objects p.are.sound;
  intact = λ name row e ready. ready_intact names jmax h graphs run row.inst.0 (row_here m.rows 0 name row e) ready;
  stands = λ name address row e f. ap (λ ms. name_spot graphs ms name) (sym members) ∙ row_stands jmax h graphs run name address row e f;
}
  where
    m : Plain
    m = state h

    objects : IsOfObjects graphs m
    objects = names jmax h l graphs p

    run : IsRun jmax h graphs
    run = record { legal = l; program = p; objects = objects; addresses = sized }

    members : members_of m.units graphs ≡ program_members graphs (bases_of m.units)
    members = members_are graphs m objects

-- where a name's row is ready, its definition lies in the block of that instance
ready_block : ProgramIsLinkedByNames → (jmax : ℕ) (h : List (Entry Meaning)) → IsLegal jmax h → (graphs : List LinkGraph) → IsProgram graphs h → All HasAddresses graphs → (name : ℕ) (row : Row) → row_of (state h).rows 0 name ≡ Some row → IsReady (state h).rows row.inst.0 →
    (name_spot graphs (program_members graphs (bases_of (state h).units)) name).block ≡ block_at graphs (state h).rows row.inst.0
ready_block linked jmax h l graphs p sized name row e ready =
    let has = ready_address (state h).rows row.inst.0 ready in
    ap (λ (s : Spot). s.block) ((linked jmax h l graphs p sized).stands name has.0 row e has.1)

pub holds_program : ProgramIsLinkedByNames → IntactHoldsClosure → MemoryHoldsProgram
holds_program linked closures jmax h l graphs p sized name row e ready program is at byte f =
    closures jmax h l graphs by.graphs_are spots by.map row.inst.0 (by.intact name row e ready) (block_at graphs m.rows row.inst.0) (by.own row.inst.0) program closure at byte f
  where
    m : Plain
    m = state h

    by : IsLinkedByNames graphs m
    by = linked jmax h l graphs p sized

    spots : Spots
    spots = spots_by_name graphs (program_members graphs (bases_of m.units))

    first : (name_spot graphs (program_members graphs (bases_of m.units)) name).block ≡ block_at graphs m.rows row.inst.0
    first = ready_block linked jmax h l graphs p sized name row e ready

    closure : IsLinkedProgram (members_of m.units graphs) spots (block_at graphs m.rows row.inst.0) program
    closure = subst (λ ms. IsLinkedProgram ms spots (block_at graphs m.rows row.inst.0) program) (sym by.members) (subst (λ b. IsLinkedProgram (program_members graphs (bases_of m.units)) spots b program) first is)

pub has_program : ProgramIsLinkedByNames → ClosuresAreThere → ReadyNameHasProgram
has_program linked closures jmax h l graphs p sized name row e ready = (made.0, subst (λ b. IsLinkedProgram members spots b made.0) (sym first) (subst (λ ms. IsLinkedProgram ms spots (block_at graphs m.rows row.inst.0) made.0) by.members made.1))
  where
    m : Plain
    m = state h

    members : List Member
    members = program_members graphs (bases_of m.units)

    spots : Spots
    spots = spots_by_name graphs members

    by : IsLinkedByNames graphs m
    by = linked jmax h l graphs p sized

    first : (name_spot graphs members name).block ≡ block_at graphs m.rows row.inst.0
    first = ready_block linked jmax h l graphs p sized name row e ready

    made : (program : ℕ → Option ℕ) × IsLinkedProgram (members_of m.units graphs) spots (block_at graphs m.rows row.inst.0) program
    made = closures jmax h l graphs by.graphs_are spots by.map row.inst.0 (by.intact name row e ready) (block_at graphs m.rows row.inst.0) (by.own row.inst.0)
