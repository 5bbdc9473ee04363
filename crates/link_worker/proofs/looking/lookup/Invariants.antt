use Rattle.std.proofs.Common.{◌≡◌}
use Rattle.turn_lock.specs.Handles.{view, turn_id, IsReady}
use Rattle.link_worker.specs.Does.{Does}
use Rattle.link_worker.specs.Looks.{Asking, lookup_of}
use Rattle.link_worker.specs.Works.{IsFree}
use Rattle.link_worker.proofs.looking.lookup.Given as goal

abbrev pub invariant-loop : goal.invariant-loop
invariant-loop g l = IsReady (turn_id l.shared) l.pass
    × IsFree g.U.UnitKind.meaning (view l.pass)
    × (l.then ≡ l.fn.then)
    × Does g.U.UnitKind.meaning g.N.Notify.heard (view l.fn.pass) (view l.pass) l.fn.fired l.fired (Asking (lookup_of l.order l.wanted l.level l.fn.then))
