-- It settles in the session that the entry leads to.
use Rattle.execution_session.proofs.entering.enter.Given as goal

abbrev pub ghost-settle : goal.ghost-settle
ghost-settle g a = g.m
