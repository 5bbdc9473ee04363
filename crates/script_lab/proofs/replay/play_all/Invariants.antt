use Rattle.std.proofs.Common.{take}
use Rattle.script_lab.specs.Played.{IsPlayed}
use Rattle.script_lab.proofs.replay.play_all.Given as goal

abbrev pub invariant-loop-k : goal.invariant-loop-k
invariant-loop-k l = IsPlayed (take l.k l.journal) l.replay
