use Rattle.std.proofs.Common.{◌≡◌, [], All}
use Rattle.turn_lock.specs.Handles.{view, turn_id, IsReady}
use Rattle.turn_soak.proofs.soak.seated.Given as goal

abbrev pub invariant-loop : goal.invariant-loop
invariant-loop l = IsReady (turn_id l.turn) l.first × ((view l.first).mine ≡ []) × All (λ m. IsReady (turn_id l.turn) m.seat × ((view m.seat).mine ≡ [])) l.members.items
