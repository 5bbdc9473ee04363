use Rattle.std.proofs.Common.{◌≡◌, ◌≤◌, ℕ, ◌+◌, [], length, slice_get, vec_capacity, Some}
use Rattle.script_session.specs.declared.members.Role.TheVariants.{Worker}
use Rattle.script_session.proofs.members.make_members.Given as goal

abbrev pub invariant-loop-worker : goal.invariant-loop-worker
invariant-loop-worker g l = record {
  count : length l.members.items ≡ l._worker;
  room : l.fn.workers + length l.fn.clients.items ≤ vec_capacity l.members;
  workers : (k : ℕ) (m : _) → slice_get l.members.items k ≡ Some m → (m.role ≡ Worker) × (m.fired ≡ []);
}
