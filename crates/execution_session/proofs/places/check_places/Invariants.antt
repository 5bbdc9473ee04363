-- The units are those of the session.
use Rattle.execution_session.proofs.places.check_places.Given as goal

abbrev pub ghost-kept : goal.ghost-kept
ghost-kept g a = g.m
