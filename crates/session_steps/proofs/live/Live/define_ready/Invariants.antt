-- The generator is spent in the session.
use Rattle.session_steps.proofs.live.Live.define_ready.Given as goal

abbrev pub ghost-lacks_room : goal.ghost-lacks_room
ghost-lacks_room g a = g.m

abbrev pub ghost-spend : goal.ghost-spend
ghost-spend g a = g.m

abbrev pub ghost-define_generated : goal.ghost-define_generated
ghost-define_generated g a = g.m
