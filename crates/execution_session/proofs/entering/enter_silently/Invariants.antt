-- It settles in the session that the entry leads to.
use Rattle.session_steps.specs.Moved.{next}
use Rattle.execution_session.proofs.entering.enter_silently.Given as goal

abbrev pub ghost-enter : goal.ghost-enter
ghost-enter g a = next g.U.UnitKind.meaning a.journal.now.items a.entry
