-- The unit is given up in the session.
use Rattle.session_steps.proofs.live.Live.fail_unit.Given as goal

abbrev pub ghost-turn_away : goal.ghost-turn_away
ghost-turn_away g a = g.m

abbrev pub ghost-step_away : goal.ghost-step_away
ghost-step_away g a = g.m

abbrev pub ghost-fail : goal.ghost-fail
ghost-fail g a = g.m
