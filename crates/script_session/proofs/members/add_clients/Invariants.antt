use Rattle.std.proofs.Common.{◌≡◌, ◌≤◌, ◌+◌, ◌++◌, List, length, map, vec_capacity}
use Rattle.script_model.specs.declared.calls.ClientCall.{ClientCall}
use Rattle.script_session.specs.Members.{AreAdded}
use Rattle.script_session.proofs.members.add_clients.Given as goal

abbrev pub invariant-loop-calls : goal.invariant-loop-calls
invariant-loop-calls g l = record {
  done : (done : List (List (ClientCall _ _))) × (map (λ c. c.items) l.fn.clients.items ≡ map (λ c. c.items) l.clients.items ++ done) × AreAdded done l.fn.members.items l.members.items;
  room : length l.members.items + length l.clients.items ≤ vec_capacity l.members;
}

abbrev pub decreases-loop-calls : goal.decreases-loop-calls
decreases-loop-calls g l = length l.clients.items
