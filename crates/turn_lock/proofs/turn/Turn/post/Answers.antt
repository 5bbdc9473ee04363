use Rattle.std.proofs.Common.{rules}
use Rattle.turn_lock.proofs.Posts.{stores_post}
use Rattle.turn_lock.proofs.turn.Turn.post.Goals as goal

pub store-requires : goal.store-requires
store-requires g c = (search rules, search rules, stores_post g.T.Counted.history g.T.Counted.seat_of g.T.Counted.lawful g.T.Counted.posted _ _ _ _ _ _ g.met.T.Counted.lawful_before g.met.T.Counted.stays_posted g.met.T.Counted.posted_once (search rules) (search rules) (search rules) (search rules))
