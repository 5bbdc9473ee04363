-- The externals are looked up in the session.
use Rattle.session_steps.proofs.live.Live.look_up_externals.Given as goal

abbrev pub ghost-match_link : goal.ghost-match_link
ghost-match_link g a = g.m

abbrev pub ghost-lodge_link : goal.ghost-lodge_link
ghost-lodge_link g a = g.m
