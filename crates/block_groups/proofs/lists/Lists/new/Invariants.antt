use Rattle.std.proofs.Common.{◌≡◌, ℕ, [], map, length}
use Rattle.block_groups.specs.Lists.{row}
use Rattle.block_groups.proofs.lists.Lists.new.Given as goal

abbrev pub invariant-loop : goal.invariant-loop
invariant-loop g l = (length l.rows.items ≡ l.counter) × ((k : ℕ) → row (map (λ v. v.items) l.rows.items) k ≡ [])
