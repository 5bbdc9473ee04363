use Rattle.std.proofs.Common.{subst, Some}
use Rattle.std.proofs.lemmas.Result.{err_from_is_err_and}
use Rattle.turn_lock.specs.Handles.{view}
use Rattle.link_worker.proofs.Copied.{CopyOf, copied, copy_free, copy_stopped}
use Rattle.link_worker.proofs.copying.copy_memory.Goals as goal

pub returns-in_err-answer-clause-stopped : goal.returns-in_err-answer-clause-stopped
returns-in_err-answer-clause-stopped g c =
    let p = err_from_is_err_and c.from_residual.result c.from_residual.ensures.1 in
    rw (p.1, p.2) (copy_stopped g.U.UnitKind.meaning g.row.JMAX (view c.args.pass.now) (view c.perform-answer.new.seat) c.in_err-answer.field-0.0 c.perform-answer.result.image
    (subst (λ a. CopyOf g.U.UnitKind.meaning g.row.JMAX (view c.args.pass.now) (view c.perform-answer.new.seat) a c.perform-answer.result.image) c.in_err-answer.was c.perform-answer.ensures.turned))

pub returns-clause-copied : goal.returns-clause-copied
returns-clause-copied g c = copied g.U.UnitKind.meaning g.row.JMAX (view c.args.pass.now) (view c.perform-answer.new.seat) c.in_ok-answer.field-0 c.in-Some.image
    (subst (λ a. CopyOf g.U.UnitKind.meaning g.row.JMAX (view c.args.pass.now) (view c.perform-answer.new.seat) a (Some c.in-Some.image)) c.in_ok-answer.was
    (subst (λ i. CopyOf g.U.UnitKind.meaning g.row.JMAX (view c.args.pass.now) (view c.perform-answer.new.seat) c.perform-answer.result.answer i) c.in-Some.is c.perform-answer.ensures.turned))

pub returns-in_err-answer-clause-free : goal.returns-in_err-answer-clause-free
returns-in_err-answer-clause-free g c = copy_free g.U.UnitKind.meaning g.row.JMAX (view c.args.pass.now) (view c.perform-answer.new.seat) c.perform-answer.result.answer c.perform-answer.result.image c.perform-answer.ensures.turned

pub returns-clause-free : goal.returns-clause-free
returns-clause-free g c = copy_free g.U.UnitKind.meaning g.row.JMAX (view c.args.pass.now) (view c.perform-answer.new.seat) c.perform-answer.result.answer c.perform-answer.result.image c.perform-answer.ensures.turned
