use Rattle.std.proofs.Common.{◌≡◌, ◌≤◌, ℕ, List, length, refl, ap, sym, subst, ◌∙◌, arith}
use Rattle.std.specs.Prelude.{IsPermutation, flat_map}
use Rattle.std.proofs.lemmas.Option.{slice_get_within}
use Rattle.orc_ids.specs.declared.groups.Group.{Group}
use Rattle.orc_ids.specs.declared.ids.InstId.{InstId}
use Rattle.session_model.specs.Change.{emitted_row}
use Rattle.session_model.specs.Lists.{numbered}
use Rattle.session_model.specs.Plain.{own_rows}
use Rattle.session_model.specs.declared.rows.InstRow.{InstRow}
use Rattle.dep_groups.specs.Frontier.{Entry, AreAbsent}
use Rattle.instances.specs.Table.{Table, AreChanged, is_among}
use Rattle.instances.proofs.Kept.{changed_length, numbered_changed}
use Rattle.instances.specs.Graph.{Graph, NoneEmitted}
use Rattle.instances.specs.Tied.{IsTied}
use Rattle.instances.proofs.Emissions.{are_apart, are_absent, emitted_ties, emit_alike, untold_same}
use Rattle.instances.proofs.Standings.{tells_changed, unlisted, unspanned, still_listed, was_unlisted}
use Rattle.instances.proofs.graph.InstanceGraph.emit.Goals as goal

-- what the caller knows of the rows is so inside
members : (u : ℕ) (groups : List Group) (a b : Graph) → a ≡ b → IsPermutation (flat_map (λ (g : Group). g.members) groups) (own_rows u 0 b.rows) → IsPermutation (flat_map (λ (g : Group). g.members) groups) (own_rows u 0 a.rows)
members u groups a b e p = subst (λ (x : Graph). IsPermutation (flat_map (λ (g : Group). g.members) groups) (own_rows u 0 x.rows)) (sym e) p

absent : (u : ℕ) (groups : List Group) (entries : List Entry) (a b : Graph) → a ≡ b → IsPermutation (flat_map (λ (g : Group). g.members) groups) (own_rows u 0 b.rows) → NoneEmitted u b.rows → IsTied a.rows entries → AreAbsent entries groups
absent u groups entries a b e p none t = are_absent u groups a.rows entries (members u groups a b e p) (subst (λ (x : Graph). NoneEmitted u x.rows) (sym e) none) t

pub emit-requires-clause-apart : goal.emit-requires-clause-apart
emit-requires-clause-apart c = are_apart c.args.u.0 c.args.groups.now c.self.inside.instances.rows (members c.args.u.0 c.args.groups.now _ _ c.self.view_is c.requires.members)

pub emit-requires-clause-absent : goal.emit-requires-clause-absent
emit-requires-clause-absent c = absent c.args.u.0 c.args.groups.now c.self.inside.frontier.entries _ _ c.self.view_is c.requires.members c.requires.unemitted c.self.invariant.tied

table : (c : goal.After-add_all) → c.emit_prepared.new.self ≡ record c.self.inside.instances { rows = numbered (emitted_row c.args.u.0 c.args.groups.now) 0 c.self.inside.instances.rows }
table c = c.emit_prepared.ensures c.args.groups.now c.in_ok-prepared.ensures

tied : (c : goal.After-add_all) → IsTied c.emit_prepared.new.self.rows c.emit.new.self.entries
tied c = subst (λ (t : Table). IsTied t.rows c.emit.new.self.entries) (sym (table c))
    (emitted_ties c.args.u.0 c.args.groups.now c.self.inside.instances.rows c.self.inside.frontier.entries c.emit.new.self.entries (members c.args.u.0 c.args.groups.now _ _ c.self.view_is c.requires.members) c.self.invariant.tied c.in_ok-emit.ensures.emitted)

step : (c : goal.After-add_all) → AreChanged (emitted_row c.args.u.0 c.args.groups.now) c.self.inside.instances.rows c.emit_prepared.new.self.rows
step c = subst (λ (t : Table). AreChanged (emitted_row c.args.u.0 c.args.groups.now) c.self.inside.instances.rows t.rows) (sym (table c)) (numbered_changed (emitted_row c.args.u.0 c.args.groups.now) c.self.inside.instances.rows)

pub invariant_of-self-2 : goal.invariant_of-self-2
invariant_of-self-2 c =
    let long = changed_length (emitted_row c.args.u.0 c.args.groups.now) c.self.inside.instances.rows c.emit_prepared.new.self.rows (step c) in
    let roomy = c.self.invariant.roomy in
    record {
      tied = tied c;
      roomy = record {
        there = let a = roomy.there in omega (arith, a, long);
        in_table = let a = roomy.in_table in let b = ap (λ (t : Table). t.spare) (table c) in omega (arith, a, b, long);
        in_waiting = let a = roomy.in_waiting in omega (arith, a, c.emit.ensures.more);
        in_changed = let a = roomy.in_changed in omega (arith, a, c.add_span.ensures.places, c.add_all.ensures.places);
        in_roots = roomy.in_roots;
      };
    }

pub returns-clause-rooms : goal.returns-clause-rooms
returns-clause-rooms c = rw (← c.self.view_is) (ap (λ (t : Table). t.units) (table c), refl, ap (λ (t : Table). t.spare_units) (table c))

pub returns-clause-tells : goal.returns-clause-tells
returns-clause-tells c =
    let rows : List InstRow = c.self.inside.instances.rows in
    let new : List InstRow = c.emit_prepared.new.self.rows in
    let n : ℕ = c.self.inside.changed.places in
    let room : length rows ≤ n = let a = c.self.invariant.roomy.there in let b = c.self.invariant.roomy.in_changed in omega (arith, a, b) in
    let again : n ≡ c.add_span.new.self.places = sym c.add_span.ensures.places in
    let gone : AreAbsent c.self.inside.frontier.entries c.args.groups.now = absent c.args.u.0 c.args.groups.now c.self.inside.frontier.entries _ _ c.self.view_is c.requires.members c.requires.unemitted c.self.invariant.tied in
    rw (← c.self.view_is) (tells_changed (emitted_row c.args.u.0 c.args.groups.now) (step c)
    (λ i r e none. emit_alike c.args.u.0 i c.args.groups.now r
    (unspanned rows c.args.u.0 c.span-span.result.first c.span-span.result.count i n r _ _ c.span-span.ensures.span e (c.add_span.ensures.added i) (let b = slice_get_within rows i r e in omega (arith, b, room))
    (was_unlisted _ _ _ (c.add_all.ensures.added i) none)))
    (λ i b none. untold_same c.ready_is_tested.ensures c.args.groups.now rows new c.self.inside.frontier.entries c.emit.new.self.entries c.emit.new.self.told i c.self.invariant.tied (tied c) gone c.in_ok-emit.ensures.emitted c.in_ok-emit.ensures.told
    (sym (ap (λ (ms : List InstId). is_among ms i) c.told.ensures) ∙ unlisted _ _ (is_among c.told.result.now i) i c.add_span.new.self.places (c.add_all.ensures.added i) (omega (arith, b, room, again)) none))
    (λ i e. still_listed _ _ _ (c.add_all.ensures.added i) (still_listed _ _ _ (c.add_span.ensures.added i) e)))
