use Rattle.std.proofs.Common.{◌≡◌, ◌+◌, ◌≤◌, List, length, slice_get, ap, sym, subst, ◌∙◌, arith, length-append}
use Rattle.list_laws.proofs.Lists.{appended_below}
use Rattle.session_model.specs.declared.rows.InstRow.{InstRow}
use Rattle.instances.specs.Table.{fresh_rows}
use Rattle.instances.proofs.Fresh.{fresh_length}
use Rattle.instances.specs.Graph.{Graph}
use Rattle.instances.specs.Tied.{IsTied}
use Rattle.instances.proofs.Readiness.{ready_kept}
use Rattle.instances.proofs.Standings.{tied_more, stand_same}
use Rattle.instances.proofs.graph.InstanceGraph.define.Goals as goal

tied : (c : goal.After-define) → IsTied c.define.new.self.rows c.self.inside.frontier.entries
tied c = subst (λ (xs : List InstRow). IsTied xs c.self.inside.frontier.entries) (sym c.define.ensures.rows)
    (tied_more c.self.inside.instances.rows c.self.inside.frontier.entries c.args.d.0 c.self.inside.instances.units c.args.offers.now c.args.live.now c.self.invariant.tied)

pub invariant_of-self : goal.invariant_of-self
invariant_of-self c =
    let rows : List InstRow = c.self.inside.instances.rows in
    let fresh : List InstRow = fresh_rows c.args.d.0 c.self.inside.instances.units 0 c.args.offers.now c.args.live.now in
    let long : length c.define.new.self.rows ≡ length rows + length fresh = ap length c.define.ensures.rows ∙ length-append rows fresh in
    let most = fresh_length c.args.d.0 c.self.inside.instances.units 0 c.args.offers.now c.args.live.now in
    let room : length rows + length c.args.offers.now ≤ c.self.inside.places = subst (λ (g : Graph). length g.rows + length c.args.offers.now ≤ g.places) (sym c.self.view_is) c.requires.room in
    let roomy = c.self.invariant.roomy in
    record {
      tied = tied c;
      roomy = record {
        there = omega (arith, long, most, room);
        in_table = let a = roomy.in_table in omega (arith, a, c.define.ensures.room);
        in_waiting = roomy.in_waiting;
        in_changed = roomy.in_changed;
        in_roots = roomy.in_roots;
      };
    }

pub returns-clause-tells : goal.returns-clause-tells
returns-clause-tells c =
    let rows : List InstRow = c.self.inside.instances.rows in
    let fresh : List InstRow = fresh_rows c.args.d.0 c.self.inside.instances.units 0 c.args.offers.now c.args.live.now in
    rw (← c.self.view_is) (record {
      stands = λ i b n. stand_same rows c.define.new.self.rows i (ap (λ (xs : List InstRow). slice_get xs i) c.define.ensures.rows ∙ appended_below rows fresh i b)
          (ready_kept c.ready_is_tested.ensures rows c.define.new.self.rows c.self.inside.frontier.entries c.self.invariant.tied (tied c) i);
      kept = λ i e. e;
    })
