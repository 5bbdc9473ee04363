-- The unit is of the session.
use Rattle.session_steps.proofs.live.Live.hand_out.Given as goal

abbrev pub ghost-start : goal.ghost-start
ghost-start g a = g.m

abbrev pub ghost-finish : goal.ghost-finish
ghost-finish g a = g.m
