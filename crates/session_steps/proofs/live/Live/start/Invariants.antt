-- The unit is of the session.
use Rattle.session_steps.proofs.live.Live.start.Given as goal

abbrev pub ghost-taken_unit : goal.ghost-taken_unit
ghost-taken_unit g a = g.m

abbrev pub ghost-start : goal.ghost-start
ghost-start g a = g.m
