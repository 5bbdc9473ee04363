-- The dylib is made in the session.
use Rattle.session_steps.proofs.live.Live.make_dylib.Given as goal

abbrev pub ghost-refuse_dylib : goal.ghost-refuse_dylib
ghost-refuse_dylib g a = g.m

abbrev pub ghost-make_dylib : goal.ghost-make_dylib
ghost-make_dylib g a = g.m
