use Rattle.std.proofs.Common.{◌≡◌, ◌≤◌, ◌++◌, false, length, map, vec_capacity}
use Rattle.std.specs.Vec.Iter.{into_iter_items, into_iter_len}
use Rattle.turn_lock.specs.Handles.{view, turn_id, IsReady}
use Rattle.link_worker.specs.Works.{IsFree}
use Rattle.script_model.specs.Plans.{line_of}
use Rattle.script_session.specs.Clients.{AreUnheard, HasDoneSome}
use Rattle.script_session.specs.Posts.{KnowsGiven}
use Rattle.script_session.proofs.client.do_lines.Given as goal

abbrev pub invariant-loop-call : goal.invariant-loop-call
invariant-loop-call g l = record {
  ready : IsReady (turn_id l.shared) l.pass;
  free : IsFree g.U.UnitKind.meaning (view l.pass);
  known : l.stopped ≡ false → KnowsGiven l.given (view l.pass);
  some : HasDoneSome g.U.UnitKind.meaning g.N.Notify.heard g.row.JMAX (map (line_of g.U.UnitKind.meaning) l.yielded) l.client.lines.items l.stopped l.given (view l.initial.pass) (view l.pass) l.initial.fired l.fired;
  rest : l.yielded ++ into_iter_items l.call-iterator ≡ into_iter_items l.initial.call-iterator;
  left : into_iter_len l.call-iterator ≡ length (into_iter_items l.call-iterator);
  lines : length l.client.lines.items ≡ length l.yielded;
  lines_room : length (into_iter_items l.initial.call-iterator) ≤ vec_capacity l.client.lines;
  unlodged : length l.client.unlodged.items ≤ length l.yielded;
  unlodged_room : length (into_iter_items l.initial.call-iterator) ≤ vec_capacity l.client.unlodged;
  unheard : AreUnheard g.N.Notify.heard g.N.Notify.number l.client.unlodged.items;
}
