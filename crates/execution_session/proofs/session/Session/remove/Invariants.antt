-- The event finds the session that the journal led to.
use Rattle.session_steps.specs.Performs.{state_of}
use Rattle.execution_session.proofs.session.Session.remove.Given as goal

abbrev pub ghost-check_places : goal.ghost-check_places
ghost-check_places g a = state_of g.U.UnitKind.meaning a.live.now.journal.items

abbrev pub ghost-remove_tracker : goal.ghost-remove_tracker
ghost-remove_tracker g a = state_of g.U.UnitKind.meaning a.self.now.journal.items
