-- The event finds the session that the journal led to.
use Rattle.session_steps.specs.Performs.{state_of}
use Rattle.execution_session.proofs.definitions.define_shared.Given as goal

abbrev pub ghost-define : goal.ghost-define
ghost-define g a = state_of g.U.UnitKind.meaning a.self.now.journal.items
