use Rattle.std.proofs.Common.{◌≡◌, false}
use Rattle.turn_lock.specs.Handles.{view, turn_id, IsReady}
use Rattle.turn_soak.specs.Turns.{marks}
use Rattle.turn_soak.proofs.turns.take_turns.Given as goal

abbrev pub invariant-loop-nth : goal.invariant-loop-nth
invariant-loop-nth g l = IsReady (turn_id l.turn) l.member.seat × ((view l.member.seat).number ≡ (view l.fn.member.seat).number) × (l.member.failed ≡ false)
    × ((view l.member.seat).mine ≡ marks (view l.fn.member.seat).number l.nth)
