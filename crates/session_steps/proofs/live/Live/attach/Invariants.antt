-- The generator is made in the session.
use Rattle.session_steps.proofs.live.Live.attach.Given as goal

abbrev pub ghost-refuse_attach : goal.ghost-refuse_attach
ghost-refuse_attach g a = g.m

abbrev pub ghost-attach : goal.ghost-attach
ghost-attach g a = g.m
