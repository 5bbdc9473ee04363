-- The event finds the session that the journal led to.
use Rattle.session_steps.specs.Performs.{state_of}
use Rattle.execution_session.proofs.session.Session.move_tracker.Given as goal

abbrev pub ghost-check_places : goal.ghost-check_places
ghost-check_places g a = state_of g.U.UnitKind.meaning a.live.now.journal.items

abbrev pub ghost-move_all : goal.ghost-move_all
ghost-move_all g a = state_of g.U.UnitKind.meaning a.self.now.journal.items
