use Rattle.std.proofs.Common.{rules, refl, sym, subst}
use Rattle.linked_program.specs.Members.{AreMembers}
use Rattle.linked_program.proofs.MemberDuties.{AreWorkers, client_last, one_more_worker}
use Rattle.linked_program.proofs.members.make_members.Goals as goal

pub loop-worker-preserved : goal.loop-worker-preserved
loop-worker-preserved g c =
    (search rules, search rules, subst (AreWorkers c.args.entry) (sym c.push_reserved.ensures.items) (one_more_worker c.args.entry c.loop-worker.members.items _ (refl, refl) c.loop-worker.invariant.2))

pub returns : goal.returns
returns g c = subst (AreMembers c.args.entry c.args.workers) (sym c.push_reserved-2.ensures.items) (client_last c.args.entry c.args.workers c.loop-worker.members.items _ (search rules) (refl, refl) c.loop-worker.invariant.2)
