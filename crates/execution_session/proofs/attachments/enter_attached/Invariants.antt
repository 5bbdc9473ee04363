-- The event finds the session that the journal led to.
use Rattle.session_steps.specs.Performs.{state_of}
use Rattle.execution_session.proofs.attachments.enter_attached.Given as goal

abbrev pub ghost-attach : goal.ghost-attach
ghost-attach g a = state_of g.U.UnitKind.meaning a.self.now.journal.items
