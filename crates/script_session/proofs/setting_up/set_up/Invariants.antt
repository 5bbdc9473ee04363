use Rattle.std.proofs.Common.{◌≡◌, ◌++◌, length, map}
use Rattle.std.specs.Vec.Iter.{into_iter_items, into_iter_len}
use Rattle.turn_lock.specs.Handles.{view, turn_id, IsReady}
use Rattle.script_model.specs.Plans.{event_of}
use Rattle.script_session.specs.SetUps.{IsAt}
use Rattle.script_session.proofs.setting_up.set_up.Given as goal

abbrev pub invariant-loop-call : goal.invariant-loop-call
invariant-loop-call g l = record {
  ready : IsReady (turn_id l.shared) l.pass;
  seats : (view l.pass).seats ≡ (view l.initial.pass).seats;
  at : IsAt g.U.UnitKind.meaning g.row.JMAX (map (event_of g.U.UnitKind.meaning) l.yielded) (view l.pass);
  rest : l.yielded ++ into_iter_items l.call-iterator ≡ into_iter_items l.initial.call-iterator;
  left : into_iter_len l.call-iterator ≡ length (into_iter_items l.call-iterator);
}
