use Rattle.std.proofs.Common.{IfSome, unwrap_or, arith, subst}
use Rattle.execution_session.specs.Holding.{IsFinished}
use Rattle.session_steps.specs.Performs.{state_of}
use Rattle.execution_session.proofs.HeldCalls.{finishes_itself}
use Rattle.execution_session.proofs.holding.emit_taken.Goals as goal

pub emit-requires : goal.emit-requires
emit-requires g c =
    let means = g.U.UnitKind.meaning in
    let taken = c.args.taken.now in
    let finished : IsFinished (means taken.share) taken.live (unwrap_or taken.base 0) c.args.bound.now taken.instances c.in_ok-made.made =
    subst (λ o. IfSome o (IsFinished (means taken.share) taken.live (unwrap_or taken.base 0) c.args.bound.now taken.instances)) c.in_ok-made.was c.in-Ok.ensures.made in
    (omega arith, λ x right. finishes_itself means (state_of means c.args.session.now.journal) c.args.s.0 c.args.u taken c.args.bound.now c.in_ok-made.made x c.requires.unit c.requires.bound finished right)
