use Rattle.std.proofs.Common.{rules, refl, sym, subst}
use Rattle.script_session.proofs.NewMembers.{AreWorkers, all_members, worker_last}
use Rattle.script_session.proofs.members.make_members.Goals as goal

pub returns : goal.returns
returns g c = all_members _ c.args.workers c.loop-worker.members.items c.add_clients.new.members.items (search rules) c.loop-worker.invariant.workers c.in_ok-add_clients.ensures

pub loop-worker-preserved : goal.loop-worker-preserved
loop-worker-preserved g c = record {
  count = search rules;
  room = search rules;
  workers = subst AreWorkers (sym c.push_reserved.ensures.items) (worker_last c.loop-worker.members.items _ refl c.new.ensures c.loop-worker.invariant.workers);
}
