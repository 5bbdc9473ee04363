-- The journal's places are those of the session that it led to.
use Rattle.session_steps.specs.Performs.{state_of}
use Rattle.execution_session.proofs.sharing.share_for_entry.Given as goal

abbrev pub ghost-check_places : goal.ghost-check_places
ghost-check_places g a = state_of g.U.UnitKind.meaning a.live.now.journal.items
