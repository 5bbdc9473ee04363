use Rattle.std.proofs.Common.{◌≡◌, ◌≤◌, ◌++◌, length, map, vec_capacity}
use Rattle.std.specs.Vec.Iter.{into_iter_items, into_iter_len}
use Rattle.script_model.specs.Plans.{line_of}
use Rattle.script_model.specs.Lines.{AreSkipped}
use Rattle.script_session.specs.Clients.{AreUnheard}
use Rattle.script_session.proofs.members.skip_calls.Given as goal

abbrev pub invariant-loop-call : goal.invariant-loop-call
invariant-loop-call g l = record {
  skipped : AreSkipped (map (line_of g.U.UnitKind.meaning) l.yielded) l.client.lines.items;
  rest : l.yielded ++ into_iter_items l.call-iterator ≡ into_iter_items l.initial.call-iterator;
  left : into_iter_len l.call-iterator ≡ length (into_iter_items l.call-iterator);
  lines : length l.client.lines.items ≡ length l.yielded;
  lines_room : length (into_iter_items l.initial.call-iterator) ≤ vec_capacity l.client.lines;
  unlodged : length l.client.unlodged.items ≤ length l.yielded;
  unlodged_room : length (into_iter_items l.initial.call-iterator) ≤ vec_capacity l.client.unlodged;
  unheard : AreUnheard g.N.Notify.heard g.N.Notify.number l.client.unlodged.items;
}
