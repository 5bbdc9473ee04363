-- The matches from the place on are still to be posted.
use Rattle.std.proofs.Common.{◌≡◌, drop}
use Rattle.turn_lock.specs.Handles.{view, turn_id, IsReady}
use Rattle.ready_words.specs.Found.{posts_all}
use Rattle.ready_words.proofs.found.post_found.Given as goal

abbrev pub invariant-loop-one : goal.invariant-loop-one
invariant-loop-one g l = record {
  ready : IsReady (turn_id l.shared) l.pass;
  seen : (view l.pass).seen ≡ (view l.fn.pass).seen;
  left : posts_all (drop l.one-index l.found) (view l.pass) ≡ posts_all l.found (view l.fn.pass);
}
