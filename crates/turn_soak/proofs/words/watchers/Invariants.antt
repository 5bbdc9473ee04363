use Rattle.std.proofs.Common.{All}
use Rattle.turn_lock.specs.Handles.{turn_id, IsReady}
use Rattle.turn_soak.specs.Words.{IsAble}
use Rattle.turn_soak.proofs.words.watchers.Given as goal

abbrev pub invariant-loop : goal.invariant-loop
invariant-loop l = IsReady (turn_id l.turn) l.first × All (IsAble l.turn) l.all.items
