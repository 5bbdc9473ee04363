-- The tracker is made in the session.
use Rattle.session_steps.proofs.live.Live.make_tracker.Given as goal

abbrev pub ghost-refuse_tracker : goal.ghost-refuse_tracker
ghost-refuse_tracker g a = g.m

abbrev pub ghost-make_tracker : goal.ghost-make_tracker
ghost-make_tracker g a = g.m
