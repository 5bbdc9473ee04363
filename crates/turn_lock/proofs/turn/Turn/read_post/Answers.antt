use Rattle.std.proofs.Common.{rules, ap, ◌+◌}
use Rattle.turn_lock.proofs.Posts.{loads_post, post_shown}
use Rattle.turn_lock.specs.Handles.{view}
use Rattle.turn_lock.proofs.Steps.{counts}
use Rattle.turn_lock.proofs.turn.Turn.read_post.Goals as goal

pub load-word-requires : goal.load-word-requires
load-word-requires g c = (search rules, search rules, loads_post g.T.Counted.history g.T.Counted.seat_of g.T.Counted.lawful g.T.Counted.posted _ _ _ _ _ (search rules) (search rules))

pub load-requires : goal.load-requires
load-requires g c = (search rules, search rules, counts g.T.Counted.history g.T.Counted.seat_of g.T.Counted.lawful g.T.Counted.posted _ _ _ _ (search rules))

pub returns-clause-shown : goal.returns-clause-shown
returns-clause-shown g c some = let told = c.load.ensures.2 in let found = c.load-word.ensures.2 in
    post_shown g.T.Counted.seat_of g.T.Counted.lawful g.T.Counted.posted told.0 _ (2 + c.args.k) c.args.k _ (view c.args.seat.now) _ (ap (λ m. m.0.seen) told.1) (search rules) (ap (λ m. m.0) found.0) told.3 some
