-- The unit is of the session.
use Rattle.session_steps.proofs.live.Live.place_unit.Given as goal

abbrev pub ghost-turn_away : goal.ghost-turn_away
ghost-turn_away g a = g.m

abbrev pub ghost-step_away : goal.ghost-step_away
ghost-step_away g a = g.m

abbrev pub ghost-give_range : goal.ghost-give_range
ghost-give_range g a = g.m
