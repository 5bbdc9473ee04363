-- The event finds the session that the journal led to.
use Rattle.session_steps.specs.Performs.{state_of}
use Rattle.execution_session.proofs.session.Session.take.Given as goal

abbrev pub ghost-next_job : goal.ghost-next_job
ghost-next_job g a = state_of g.U.UnitKind.meaning a.self.now.journal.items

abbrev pub ghost-held : goal.ghost-held
ghost-held g a = state_of g.U.UnitKind.meaning a.self.now.journal.items

abbrev pub ghost-check_places : goal.ghost-check_places
ghost-check_places g a = state_of g.U.UnitKind.meaning a.live.now.journal.items

abbrev pub ghost-hand_out : goal.ghost-hand_out
ghost-hand_out g a = state_of g.U.UnitKind.meaning a.self.now.journal.items
