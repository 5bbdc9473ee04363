-- The unit is of the session.
use Rattle.session_steps.proofs.live.Live.finish.Given as goal

abbrev pub ghost-finishing : goal.ghost-finishing
ghost-finishing g a = g.m

abbrev pub ghost-taken_unit : goal.ghost-taken_unit
ghost-taken_unit g a = g.m

abbrev pub ghost-finish : goal.ghost-finish
ghost-finish g a = g.m
