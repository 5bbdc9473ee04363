-- The unit is emitted in the session.
use Rattle.session_steps.proofs.live.Live.emit_unit.Given as goal

abbrev pub ghost-turn_away : goal.ghost-turn_away
ghost-turn_away g a = g.m

abbrev pub ghost-step_away : goal.ghost-step_away
ghost-step_away g a = g.m

abbrev pub ghost-bad_dependency : goal.ghost-bad_dependency
ghost-bad_dependency g a = g.m

abbrev pub ghost-emit : goal.ghost-emit
ghost-emit g a = g.m
