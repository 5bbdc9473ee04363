-- The generators are as they were.
use Rattle.std.proofs.Common.{◌++◌, ◌∷◌, [], refl}
use Rattle.tracker.specs.declared.owned.Owned.{Owned}
use Rattle.tracker.proofs.Holding.{held_as, held_unit}
use Rattle.tracker.proofs.trackers.Trackers.add_unit.Goals as goal

pub invariant_of-self : goal.invariant_of-self
invariant_of-self c = (
  record { few = c.add_at.ensures.spare; link = tt },
  held_as c.add_at.ensures.tracks refl refl refl (held_unit c.self.inside.tracks.items c.args.t.0 (λ (o : Owned). record o { units = o.units ++ c.args.u ∷ [] }) _ _ _ (λ o. refl) c.self.invariant.1),
)
