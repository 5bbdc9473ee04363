use Rattle.std.proofs.Common.{◌≡◌, ℕ, drop}
use Rattle.std.specs.HashMap.{get}
use Rattle.unit_fixups.specs.Tables.{address_in, upper_value, same_place}
use Rattle.unit_fixups.proofs.upper.uppers.Given as goal

abbrev pub invariant-loop-k : goal.invariant-loop-k
invariant-loop-k l = (block offset : ℕ) → get same_place l.values (block, offset) ≡ upper_value l.l l.base (address_in l.t) (drop l.k l.edges) block offset
