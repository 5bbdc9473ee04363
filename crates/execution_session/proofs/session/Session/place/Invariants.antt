-- The event finds the session that the journal led to.
use Rattle.session_steps.specs.Performs.{state_of}
use Rattle.execution_session.proofs.session.Session.place.Given as goal

abbrev pub ghost-check_places : goal.ghost-check_places
ghost-check_places g a = state_of g.U.UnitKind.meaning a.live.now.journal.items

abbrev pub ghost-place_unit : goal.ghost-place_unit
ghost-place_unit g a = state_of g.U.UnitKind.meaning a.self.now.journal.items
