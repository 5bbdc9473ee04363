-- Those so far are asked for.
use Rattle.std.proofs.Common.{drop}
use Rattle.session_parts.proofs.Claims.{Claiming}
use Rattle.session_parts.proofs.parts.Parts.claim_all.Given as goal

abbrev pub invariant-loop-found : goal.invariant-loop-found
invariant-loop-found g l = Claiming g.U.UnitKind.meaning g.m l.matched (drop l.found-index l.matched) l.initial.self l.self
