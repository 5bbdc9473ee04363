use Rattle.std.proofs.Common.{◌≡◌, length}
use Rattle.session_player.specs.Plays.{Plays}
use Rattle.session_player.proofs.player.play.Given as goal

abbrev pub invariant-loop-call : goal.invariant-loop-call
invariant-loop-call g l = record {
  plays : Plays g.U.UnitKind.meaning g.row.JMAX l.yielded l.initial.session.journal l.session.journal;
  count : l.at ≡ length l.yielded;
}
