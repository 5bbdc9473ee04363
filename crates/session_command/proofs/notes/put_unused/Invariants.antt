use Rattle.std.proofs.Common.{◌≡◌, ◌<◌, ◌+◌, ◌^◌, length}
use Rattle.std.specs.Vec.Iter.{into_iter_items}
use Rattle.orc_io.specs.Numbers.{AreNumberedFrom}
use Rattle.session_command.specs.Places.{NoneHasHeard}
use Rattle.session_command.proofs.notes.put_unused.Given as goal

-- those that are left are numbered on from the next number
abbrev pub invariant-loop-what : goal.invariant-loop-what
invariant-loop-what g l = record {
  places : NoneHasHeard g.N.Notify.heard l.places;
  count : length l.places ≡ length l.fn.places;
  numbered : AreNumberedFrom g.N.Notify.number l.number (into_iter_items l.what-iterator);
  few : l.number + length (into_iter_items l.what-iterator) < 2 ^ 64;
}
