-- The unit is linked in the session.
use Rattle.session_steps.proofs.live.Live.link_unit.Given as goal

abbrev pub ghost-turn_away : goal.ghost-turn_away
ghost-turn_away g a = g.m

abbrev pub ghost-step_away : goal.ghost-step_away
ghost-step_away g a = g.m

abbrev pub ghost-look_up_externals : goal.ghost-look_up_externals
ghost-look_up_externals g a = g.m
