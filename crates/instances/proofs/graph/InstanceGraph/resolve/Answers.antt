use Rattle.std.proofs.Common.{◌≤◌, ℕ, List, length, ap, sym, subst, arith}
use Rattle.std.proofs.lemmas.Option.{slice_get_within}
use Rattle.session_model.specs.declared.rows.InstRow.{InstRow}
use Rattle.instances.specs.Rows.{addressed_row}
use Rattle.instances.specs.Table.{Table, AreChanged}
use Rattle.instances.proofs.Kept.{changed_length}
use Rattle.instances.specs.Graph.{Graph, NoneEmitted}
use Rattle.instances.specs.Tied.{IsTied}
use Rattle.instances.proofs.Readiness.{tied_changed, ready_kept}
use Rattle.instances.proofs.Standings.{mapped, tells_changed, resolve_alike, resolve_entry, unspanned, still_listed}
use Rattle.instances.proofs.graph.InstanceGraph.resolve.Goals as goal

pub invariant_of-self : goal.invariant_of-self
invariant_of-self g c =
    let address : ℕ → ℕ = λ k. (g.U.UnitKind.meaning c.args.unit.now).address k c.args.base in
    let f : InstRow → InstRow = addressed_row c.args.u.0 address in
    let rows : List InstRow = c.self.inside.instances.rows in
    let new : List InstRow = c.resolve.new.self.rows in
    let step : AreChanged (λ _ r. f r) rows new = mapped f rows new (ap (λ (t : Table). t.rows) c.resolve.ensures) in
    let none : NoneEmitted c.args.u.0 rows = subst (λ (x : Graph). NoneEmitted c.args.u.0 x.rows) (sym c.self.view_is) c.requires.unemitted in
    let long = changed_length (λ _ r. f r) rows new step in
    let roomy = c.self.invariant.roomy in
    record {
      tied = tied_changed (λ _ r. f r) rows new c.self.inside.frontier.entries step (λ i r e. resolve_entry c.args.u.0 address r (none i r e)) c.self.invariant.tied;
      roomy = record {
        there = let a = roomy.there in omega (arith, a, long);
        in_table = let a = roomy.in_table in let b = ap (λ (t : Table). t.spare) c.resolve.ensures in omega (arith, a, b, long);
        in_waiting = roomy.in_waiting;
        in_changed = let a = roomy.in_changed in omega (arith, a, c.add_span.ensures.places);
        in_roots = roomy.in_roots;
      };
    }

pub returns-clause-tells : goal.returns-clause-tells
returns-clause-tells g c =
    let address : ℕ → ℕ = λ k. (g.U.UnitKind.meaning c.args.unit.now).address k c.args.base in
    let f : InstRow → InstRow = addressed_row c.args.u.0 address in
    let rows : List InstRow = c.self.inside.instances.rows in
    let new : List InstRow = c.resolve.new.self.rows in
    let step : AreChanged (λ _ r. f r) rows new = mapped f rows new (ap (λ (t : Table). t.rows) c.resolve.ensures) in
    let none : NoneEmitted c.args.u.0 rows = subst (λ (x : Graph). NoneEmitted c.args.u.0 x.rows) (sym c.self.view_is) c.requires.unemitted in
    let tied : IsTied new c.self.inside.frontier.entries = tied_changed (λ _ r. f r) rows new c.self.inside.frontier.entries step (λ i r e. resolve_entry c.args.u.0 address r (none i r e)) c.self.invariant.tied in
    let room : length rows ≤ c.self.inside.changed.places = let a = c.self.invariant.roomy.there in let b = c.self.invariant.roomy.in_changed in omega (arith, a, b) in
    rw (← c.self.view_is) (tells_changed (λ _ r. f r) step
    (λ i r e n. resolve_alike c.args.u.0 address r (unspanned rows c.args.u.0 c.span-span.result.first c.span-span.result.count i c.self.inside.changed.places r _ _ c.span-span.ensures.span e (c.add_span.ensures.added i) (let b = slice_get_within rows i r e in omega (arith, b, room)) n))
    (λ i b n. ready_kept c.ready_is_tested.ensures rows new c.self.inside.frontier.entries c.self.invariant.tied tied i)
    (λ i e. still_listed _ _ _ (c.add_span.ensures.added i) e))
