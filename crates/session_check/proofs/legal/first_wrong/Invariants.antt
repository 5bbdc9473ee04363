use Rattle.std.proofs.Common.{take}
use Rattle.session_model.specs.History.{IsLegal}
use Rattle.session_model.specs.State.{plain_history}
use Rattle.session_check.specs.Replay.{LedTo}
use Rattle.session_plain.specs.Meant.{meant}
use Rattle.session_check.proofs.legal.first_wrong.Given as goal

abbrev pub invariant-loop-k : goal.invariant-loop-k
invariant-loop-k g l = let means = g.U.UnitKind.meaning in record {
  led : LedTo (plain_history means (take l.k l.history)) (meant means l.s) l.ends.items;
  legal : IsLegal l.jmax (plain_history means (take l.k l.history));
}
