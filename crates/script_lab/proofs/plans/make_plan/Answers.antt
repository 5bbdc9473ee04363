use Rattle.script_lab.proofs.SetUps.{can_set_up_all}
use Rattle.script_lab.proofs.plans.make_plan.Goals as goal

pub returns-clause-can : goal.returns-clause-can
returns-clause-can c =
    let set_up = c.loop.maker.set_up in
    record {
      set_up = can_set_up_all set_up.dylibs set_up.calls.items c.loop.invariant.made;
      clients = c.loop.invariant.can;
    }
