use Rattle.std.proofs.Common.{ℕ, Bool, length}
use Rattle.session_plain.specs.Marks.{edges_at, AreTests, AreWithin}
use Rattle.session_plain.proofs.reach.reaching.Given as goal

abbrev pub invariant-loop-round : goal.invariant-loop-round
invariant-loop-round l = (test : ℕ → Bool) → AreTests (length l.edges) test l.firsts l.other → AreWithin l.round (length l.edges) (edges_at l.edges) test l.marks.items l.other
