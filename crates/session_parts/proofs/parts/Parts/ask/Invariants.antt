-- The units are asked for in the session as it was.
use Rattle.session_parts.proofs.parts.Parts.ask.Given as goal

abbrev pub ghost-claim_all : goal.ghost-claim_all
ghost-claim_all g a = g.m
