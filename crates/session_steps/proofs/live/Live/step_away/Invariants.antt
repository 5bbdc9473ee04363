-- The unit is let go in the session.
use Rattle.session_steps.proofs.live.Live.step_away.Given as goal

abbrev pub ghost-let_go : goal.ghost-let_go
ghost-let_go g a = g.m
