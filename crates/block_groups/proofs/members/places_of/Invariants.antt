use Rattle.std.proofs.Common.{◌≡◌, ◌++◌, drop}
use Rattle.block_groups.specs.Members.{places_of}
use Rattle.block_groups.proofs.members.places_of.Given as goal

abbrev pub invariant-loop-s : goal.invariant-loop-s
invariant-loop-s l = l.places.items ++ places_of (drop l.s l.symbols) (drop l.s l.owners) ≡ places_of l.symbols l.owners
