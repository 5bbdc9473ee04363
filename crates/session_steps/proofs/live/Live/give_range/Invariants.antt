-- The range is given in the session.
use Rattle.session_steps.proofs.live.Live.give_range.Given as goal

abbrev pub ghost-place : goal.ghost-place
ghost-place g a = g.m
