-- The generator is spent in the session.
use Rattle.session_steps.proofs.live.Live.spend_clashing.Given as goal

abbrev pub ghost-spend : goal.ghost-spend
ghost-spend g a = g.m
