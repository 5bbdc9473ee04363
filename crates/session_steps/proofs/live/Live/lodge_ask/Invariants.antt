-- The query is lodged in the session.
use Rattle.session_steps.proofs.live.Live.lodge_ask.Given as goal

abbrev pub ghost-lodged_reply : goal.ghost-lodged_reply
ghost-lodged_reply g a = g.m

abbrev pub ghost-ask : goal.ghost-ask
ghost-ask g a = g.m
