-- The names are looked up in the session.
use Rattle.session_steps.proofs.live.Live.look_up.Given as goal

abbrev pub ghost-match_ask : goal.ghost-match_ask
ghost-match_ask g a = g.m

abbrev pub ghost-lodge_ask : goal.ghost-lodge_ask
ghost-lodge_ask g a = g.m
