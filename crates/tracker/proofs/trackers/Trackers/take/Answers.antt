-- What the others have is as it was.
use Rattle.std.proofs.Common.{refl}
use Rattle.tracker.proofs.Holding.{held_as, held_without}
use Rattle.tracker.proofs.trackers.Trackers.take.Goals as goal

pub invariant_of-self : goal.invariant_of-self
invariant_of-self c = (record { few = c.self.invariant.0.few; link = tt }, held_as c.take_at.ensures.tracks refl refl refl (held_without c.self.inside.tracks.items c.args.t.0 _ _ _ c.self.invariant.1))
