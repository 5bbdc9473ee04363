use Rattle.std.proofs.Common.{◌≡◌, ◌++◌, length, vec_capacity}
use Rattle.std.specs.Vec.Iter.{into_iter_items, into_iter_len}
use Rattle.script_session.specs.Members.{AllSkipped}
use Rattle.script_session.proofs.members.skip_all.Given as goal

abbrev pub invariant-loop-member : goal.invariant-loop-member
invariant-loop-member g l = record {
  skipped : AllSkipped g.U.UnitKind.meaning g.N.Notify.heard g.N.Notify.number l.yielded l.skipped.items;
  rest : l.yielded ++ into_iter_items l.member-iterator ≡ into_iter_items l.initial.member-iterator;
  left : into_iter_len l.member-iterator ≡ length (into_iter_items l.member-iterator);
  capacity : vec_capacity l.skipped ≡ vec_capacity l.fn.room;
}
