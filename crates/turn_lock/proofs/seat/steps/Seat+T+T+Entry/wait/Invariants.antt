use Rattle.std.proofs.Common.{◌≡◌, ℕ, ◌≤◌}
use Rattle.turn_lock.specs.Handles.{view, turn_of}
use Rattle.turn_lock.specs.Views.{tried}
use Rattle.turn_lock.proofs.seat.steps.Seat+T+T+Entry.wait.Given as goal

abbrev pub invariant-loop : goal.invariant-loop
invariant-loop g l =
    (goal.iterator-loop g).can_next l.iterator' × (goal.iterator-loop g).is_finite l.iterator' × (turn_of l.self ≡ turn_of l.fn.self)
    × ((found : ℕ) × ((view l.fn.self).found ≤ found) × (view l.self ≡ tried found (view l.fn.self)))
