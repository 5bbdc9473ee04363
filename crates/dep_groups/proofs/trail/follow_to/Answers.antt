-- The instance is met, and is not emitted.
use Rattle.dep_groups.proofs.Trails.{met_more}
use Rattle.dep_groups.proofs.trail.follow_to.Goals as goal

pub returns-in-Open-clause-found : goal.returns-in-Open-clause-found
returns-in-Open-clause-found c = record {
  met = met_more c.args.graph.now c.args.trail.now c.look_at.new.trail c.args.to c.look_at.ensures.more c.requires.met;
  unready = c.in-Open.ensures.looked.0;
  absent = c.in-Open.ensures.looked.1;
}
