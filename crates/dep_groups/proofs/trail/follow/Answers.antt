-- The link is reached.
use Rattle.std.proofs.Common.{◌-◌, sym}
use Rattle.dep_groups.proofs.Trails.{met_linked, met_more}
use Rattle.dep_groups.proofs.trail.follow.Goals as goal

pub look_at-requires-clause-met : goal.look_at-requires-clause-met
look_at-requires-clause-met c =
    met_linked c.args.graph.now c.args.links.now c.loop-to.trail (c.len.result - 1) c.group_at.result c.in_ok-to.to c.loop-to.invariant.trail c.requires.links c.group_at.ensures (sym c.in_ok-to.ensures)

pub returns-in-Open-clause-found : goal.returns-in-Open-clause-found
returns-in-Open-clause-found c = record {
  met = met_more c.args.graph.now c.loop-to.trail c.look_at.new.trail c.in_ok-to.to c.look_at.ensures.more
      (met_linked c.args.graph.now c.args.links.now c.loop-to.trail (c.len.result - 1) c.group_at.result c.in_ok-to.to c.loop-to.invariant.trail c.requires.links c.group_at.ensures (sym c.in_ok-to.ensures));
  unready = c.in-Open.ensures.looked.0;
  absent = c.in-Open.ensures.looked.1;
}
