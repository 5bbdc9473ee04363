use Rattle.std.proofs.Common.{◌≡◌}
use Rattle.std.specs.Vec.Iter.{into_iter_items}
use Rattle.session_command.specs.Places.{put_all_told}
use Rattle.session_command.proofs.notes.put_all_told.Given as goal

abbrev pub invariant-loop-told : goal.invariant-loop-told
invariant-loop-told g l = put_all_told (into_iter_items l.told-iterator) l.places ≡ put_all_told l.fn.told.items l.fn.places
