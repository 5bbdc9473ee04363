-- A call that there isn't.
use Rattle.std.proofs.Common.{◌∙◌, ap, sym}
use Rattle.exec_run.specs.Host.{goes}
use Rattle.exec_run.specs.Machine.{state_of}
use Rattle.exec_run.proofs.Calls.{call_none}
use Rattle.exec_run.proofs.machine.Machine.call.Goals as goal

pub returns-clause-called : goal.returns-clause-called
returns-clause-called c =
    call_none (state_of c.args.self.now) (λ e. c.if-number-eq-EXIT.false (c.register-number.ensures ∙ e)) (λ e. c.if-number-eq-WRITE.false (c.register-number.ensures ∙ e))
    ∙ ap goes (sym c.answer.ensures.answered)
