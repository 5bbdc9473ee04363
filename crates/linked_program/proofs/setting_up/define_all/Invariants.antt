use Rattle.std.proofs.Common.{◌≡◌, List, ◌++◌, length}
use Rattle.std.specs.Vec.Iter.{into_iter_items, into_iter_len}
use Rattle.session_model.specs.Meaning.{Meaning}
use Rattle.session_model.specs.declared.entry.Event.{Event}
use Rattle.turn_lock.specs.Handles.{view, turn_id, IsReady}
use Rattle.linked_program.specs.SetUps.{IsAt}
use Rattle.linked_program.proofs.SetUpAll.{defines}
use Rattle.linked_program.proofs.setting_up.define_all.Given as goal

abbrev pub invariant-loop-unit : goal.invariant-loop-unit
invariant-loop-unit g l = record {
  ready : IsReady (turn_id l.shared) l.pass;
  seats : (view l.pass).seats ≡ (view l.initial.pass).seats;
  defined : (evs : List (Event Meaning)) → IsAt g.U.UnitKind.meaning g.row.JMAX evs (view l.initial.pass) → IsAt g.U.UnitKind.meaning g.row.JMAX (evs ++ defines g.U.UnitKind.meaning g.row.JMAX l.yielded) (view l.pass);
  rest : l.yielded ++ into_iter_items l.unit-iterator ≡ into_iter_items l.initial.unit-iterator;
  left : into_iter_len l.unit-iterator ≡ length (into_iter_items l.unit-iterator);
  count : l.at ≡ length l.yielded;
}
