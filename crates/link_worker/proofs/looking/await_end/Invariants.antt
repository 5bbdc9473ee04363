use Rattle.std.proofs.Common.{ℕ}
use Rattle.turn_lock.specs.Handles.{view, turn_id, IsReady}
use Rattle.link_worker.specs.Does.{Does}
use Rattle.link_worker.specs.Looks.{IsLodgedBy, Waits}
use Rattle.link_worker.specs.Works.{IsFree}
use Rattle.link_worker.proofs.Awaiting.{seen_count}
use Rattle.link_worker.proofs.looking.await_end.Given as goal

abbrev pub invariant-loop : goal.invariant-loop
invariant-loop g l = IsReady (turn_id l.shared) l.pass
    × IsFree g.U.UnitKind.meaning (view l.pass)
    × ((n : ℕ) → IsLodgedBy g.U.UnitKind.meaning (view l.fn.pass) l.query n → Does g.U.UnitKind.meaning g.N.Notify.heard (view l.fn.pass) (view l.pass) l.fn.fired l.fired (Waits l.query n (seen_count g.U.UnitKind.meaning (view l.pass))))
