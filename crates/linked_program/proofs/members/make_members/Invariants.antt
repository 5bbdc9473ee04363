use Rattle.std.proofs.Common.{◌≡◌, ◌≤◌, ℕ, ◌+◌, false, length, slice_get, vec_capacity, Some}
use Rattle.linked_program.specs.Members.{is_client}
use Rattle.linked_program.proofs.members.make_members.Given as goal

abbrev pub invariant-loop-worker : goal.invariant-loop-worker
invariant-loop-worker g l = (length l.members.items ≡ l._worker) × (l.fn.workers + 1 ≤ vec_capacity l.members)
    × ((k : ℕ) (m : _) → slice_get l.members.items k ≡ Some m → (m.entry ≡ l.fn.entry) × (is_client m.role ≡ false))
