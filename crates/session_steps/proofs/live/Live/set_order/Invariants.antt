-- The order is set in the session.
use Rattle.session_steps.proofs.live.Live.set_order.Given as goal

abbrev pub ghost-refuse_order : goal.ghost-refuse_order
ghost-refuse_order g a = g.m

abbrev pub ghost-set_order : goal.ghost-set_order
ghost-set_order g a = g.m
