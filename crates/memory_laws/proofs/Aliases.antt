-- The end of an instance that an intact one reaches is reached too: an alias depends on what it is bound to.
use Rattle.std.proofs.Common.{◌≡◌, ℕ, ◌==◌, Bool, true, false, List, [], ◌∷◌, length, map, slice_get, Contains, inl, inr, subst, sym, refl, ap, ◌∙◌, arith, Option, Some, None, unwrap_or, is_some}
use Rattle.std.specs.Prelude.{IfSome}
use Rattle.std.specs.List.{list_any}
use Rattle.std.specs.Option.{option_map_or}
use Rattle.std.proofs.lemmas.Bool.{both_ways, and_from, eq-eqb}
use Rattle.list_laws.proofs.Lists.{some_below}
use Rattle.list_laws.proofs.Each.{contains_here}
use Rattle.orc_ids.specs.declared.ids.DylibId.{DylibId}
use Rattle.orc_ids.specs.declared.ids.InstId.{InstId}
use Rattle.closure_laws.specs.Dependencies.{DependsSo, unit_groups}
use Rattle.link_model.specs.declared.graph.LinkGraph.{LinkGraph}
use Rattle.session_laws.proofs.Declared.{element_below, same_element, reaches_self, reaches_dep, reach_transitive}
use Rattle.session_model.specs.Change.{deps_in}
use Rattle.session_model.specs.Lists.{only_if, or_else}
use Rattle.session_model.specs.Meaning.{Bindings, IsAlias, Meaning, bound_instances}
use Rattle.session_model.specs.Owed.{IsIntact}
use Rattle.session_model.specs.Plain.{Plain, UnitRow, emitted_at, is_alias, is_emitted, own_rows, phase_deps, present_at}
use Rattle.session_model.specs.Reach.{Reaches, deps_at}
use Rattle.session_model.specs.declared.rows.InstRow.{InstRow}
use Rattle.session_model.specs.declared.rows.Phase.TheVariants as phase
use Rattle.static_links.proofs.Lists.{any_there}
use Rattle.memory_laws.specs.Closures.{AreObjects, Behind, IsBlockOf, IsEnd, IsGraphUnit, IsObject, IsOf, Itself, block_at}
use Rattle.memory_laws.proofs.Members.{owned_here}
use Rattle.memory_laws.proofs.Units.{IsKept, emitted_parts, graph_there, lies_in}

-- an object's unit is no alias
no_alias : (x : UnitRow) (g : LinkGraph) → IsGraphUnit x.meaning g → is_alias x ≡ false
no_alias x g is = ap (λ (v : Meaning). is_some v.source) is.is

is_its_alias : (unit : Meaning) (o : Option DylibId) → is_some o ≡ true → IfSome o (λ d. IsAlias unit) → IsAlias unit
is_its_alias unit None e alias = absurd (both_ways false refl e)
is_its_alias unit (Some d) e alias = alias

-- an alias has the form of one
pub alias_is : (x : UnitRow) (g : LinkGraph) → is_alias x ≡ true → IsObject x.meaning g → IsAlias x.meaning
alias_is x g e (inl is) = absurd (both_ways (is_alias x) (no_alias x g is) e)
alias_is x g e (inr bare) = is_its_alias x.meaning x.meaning.source e bare.0.alias

-- an emitted instance of an alias depends on what that is bound to
alias_depends : (m : Plain) (graphs : List LinkGraph) (i address : ℕ) (x : UnitRow) (target : InstId) → IsKept m → AreObjects m.units graphs → emitted_at m.rows i ≡ true → present_at m.rows i ≡ true →
    IsOf m i x → is_alias x ≡ true → x.bound ≡ Some (Some (target, address) ∷ []) → Contains (deps_at m.rows i) target.0
alias_depends m graphs i address x target kept are emitted present of alias bound = by (emitted_parts row.phase (ap (λ o. option_map_or (λ (r : InstRow). is_emitted r.phase) o false) (sym of.there) ∙ emitted))
  where
    row : InstRow
    row = of.row

    u : ℕ
    u = row.unit.0

    here : row.present ≡ true
    here = ap (λ o. option_map_or (λ (r : InstRow). r.present) o false) (sym of.there) ∙ present

    form : IsAlias x.meaning
    form = let g = graph_there m.units graphs u x are of.is in alias_is x g.0 alias g.2

    own : List InstId
    own = own_rows u 0 m.rows

    member : Contains own (record { 0 = i })
    member = owned_here u 0 i i m.rows row (omega arith) of.there (and_from row.present (row.unit.0 == u) here (eq-eqb u u refl))

    among : list_any (λ (j : InstId). j.0 == i) own ≡ true
    among = any_there (λ (j : InstId). j.0 == i) own (record { 0 = i }) member (eq-eqb i i refl)

    its : deps_in (unit_groups m.rows u x) i ≡ target ∷ []
    its =
        ap (λ gs. deps_in gs i) (form.groups x.live (unwrap_or x.base 0) (unwrap_or x.bound []) own)
        ∙ ap (λ (t : Bool). unwrap_or (or_else (only_if t (bound_instances (unwrap_or x.bound []))) None) []) among
        ∙ ap (λ (o : Option Bindings). bound_instances (unwrap_or o [])) bound

    by : (address : ℕ) × (deps : List InstId) × (row.phase ≡ phase.Emitted address deps) → Contains (deps_at m.rows i) target.0
    by p =
        let depends : DependsSo m.rows m.units u i p.1 = kept.depends i row p.0 p.1 of.there here p.2 in
        let unit : depends.unit ≡ x = same_element (slice_get m.units u) depends.unit x depends.there of.is in
        let deps : p.1 ≡ target ∷ [] = depends.same ∙ ap (λ (y : UnitRow). deps_in (unit_groups m.rows u y) i) unit ∙ its in
        let recorded : deps_at m.rows i ≡ map (λ (j : InstId). j.0) (target ∷ []) =
        ap (λ o. option_map_or (λ (r : InstRow). phase_deps r.phase) o []) of.there ∙ ap phase_deps p.2 ∙ ap (map (λ (j : InstId). j.0)) deps in
        subst (λ ns. Contains ns target.0) (sym recorded) (contains_here target.0 [])

pub end_reached : (m : Plain) (graphs : List LinkGraph) (i j end : ℕ) → IsKept m → AreObjects m.units graphs → IsIntact m.rows i → Reaches m.rows i j → IsEnd m j end → Reaches m.rows i end
end_reached m graphs i j end kept are intact reaches (Itself k x of plain) = reaches
end_reached m graphs i j end kept are intact reaches (Behind k last address x target of alias bound behind) =
    let dep = alias_depends m graphs k address x target kept are (intact.ready.each k reaches) (intact.present k reaches) of alias bound in
    end_reached m graphs i target.0 last kept are intact (reach_transitive m.rows i k target.0 reaches (reaches_dep m.rows k target.0 target.0 dep (reaches_self m.rows target.0))) behind

-- Sessions of objects alone

-- each unit is that of its object
abbrev pub AreAllObjects : Plain → List LinkGraph → Type 0
AreAllObjects m graphs = (u : ℕ) (x : UnitRow) (g : LinkGraph) → slice_get m.units u ≡ Some x → slice_get graphs u ≡ Some g → IsGraphUnit x.meaning g

-- there an instance is its own end
pub own_block : (m : Plain) (graphs : List LinkGraph) (i : ℕ) → length graphs ≡ length m.units → AreAllObjects m graphs → IsBlockOf m graphs i (block_at graphs m.rows i)
own_block m graphs i whole all b = (there, back)
  where
    there : block_at graphs m.rows i ≡ Some b → (end : ℕ) × IsEnd m i end × (block_at graphs m.rows end ≡ Some b)
    there e =
        let lies = lies_in graphs m.rows i b.0 b.1 e in
        let unit = some_below m.units b.0 (omega (arith, whole, element_below graphs b.0 lies.graph lies.seen)) in
        (i, Itself i unit.0 (record { row = lies.row; there = lies.here; is = ap (slice_get m.units) lies.unit ∙ unit.1 }) (no_alias unit.0 lies.graph (all b.0 unit.0 lies.graph unit.1 lies.seen)), e)

    unaliased : (x : UnitRow) (j : ℕ) → IsOf m j x → is_alias x ≡ true → ⊥
    unaliased x j of alias =
        let g = some_below graphs of.row.unit.0 (omega (arith, whole, element_below m.units of.row.unit.0 x of.is)) in
        both_ways (is_alias x) (no_alias x g.0 (all of.row.unit.0 x g.0 of.is g.1)) alias

    is_it : (end : ℕ) → IsEnd m i end → block_at graphs m.rows end ≡ Some b → block_at graphs m.rows i ≡ Some b
    is_it end (Itself k x of plain) e = e
    is_it end (Behind k last address x target of alias bound behind) e = absurd (unaliased x k of alias)

    back : ((end : ℕ) × IsEnd m i end × (block_at graphs m.rows end ≡ Some b)) → block_at graphs m.rows i ≡ Some b
    back p = is_it p.0 p.1 p.2
