-- Those so far are linked.
use Rattle.std.proofs.Common.{length}
use Rattle.session_parts.proofs.Links.{Linking}
use Rattle.session_parts.proofs.parts.Parts.link_all.Given as goal

abbrev pub invariant-loop-u : goal.invariant-loop-u
invariant-loop-u g l = Linking g.U.UnitKind.meaning l.initial.self l.self

abbrev pub decreases-loop-u : goal.decreases-loop-u
decreases-loop-u g l = length l.self.book.due
