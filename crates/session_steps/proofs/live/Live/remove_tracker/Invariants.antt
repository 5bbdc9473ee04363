-- The tracker is removed in the session.
use Rattle.session_steps.proofs.live.Live.remove_tracker.Given as goal

abbrev pub ghost-refuse_remove : goal.ghost-refuse_remove
ghost-refuse_remove g a = g.m

abbrev pub ghost-remove : goal.ghost-remove
ghost-remove g a = g.m
