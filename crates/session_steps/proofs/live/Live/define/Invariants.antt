-- The unit is defined in the session.
use Rattle.session_steps.proofs.live.Live.define.Given as goal

abbrev pub ghost-refuse_define : goal.ghost-refuse_define
ghost-refuse_define g a = g.m

abbrev pub ghost-define : goal.ghost-define
ghost-define g a = g.m
