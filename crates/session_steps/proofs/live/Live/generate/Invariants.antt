-- The unit is defined in the session.
use Rattle.session_steps.proofs.live.Live.generate.Given as goal

abbrev pub ghost-refuse_generate : goal.ghost-refuse_generate
ghost-refuse_generate g a = g.m

abbrev pub ghost-generated : goal.ghost-generated
ghost-generated g a = g.m

abbrev pub ghost-define_ready : goal.ghost-define_ready
ghost-define_ready g a = g.m
