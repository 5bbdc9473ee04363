-- The units are of the session.
use Rattle.session_steps.proofs.live.Live.held.Given as goal

abbrev pub ghost-kept : goal.ghost-kept
ghost-kept g a = g.m
