-- The two trees are one.
use Rattle.std.proofs.Common.{slice_get, IsSome, refl, rules}
use Rattle.tracker.specs.Owners.{within}
use Rattle.tracker.proofs.Holding.{held_as}
use Rattle.tracker.proofs.Joining.{can_join, held_merged}
use Rattle.tracker.proofs.trackers.Trackers.merge.Goals as goal

pub join-requires : goal.join-requires
join-requires c =
    let inside = c.self.inside in
    let from : IsSome (within (slice_get inside.tracks.items c.args.from.0)) = search rules in
    let to : IsSome (within (slice_get inside.tracks.items c.args.to.0)) = search rules in
    can_join inside.tracks.items c.args.from.0 c.args.to.0 inside.holders.nodes.items inside.holders.roots.items inside.holders.homes.items c.if-from-to.false from to c.self.invariant.1

pub invariant_of-self : goal.invariant_of-self
invariant_of-self c =
    let inside = c.self.inside in
    let from : IsSome (within (slice_get inside.tracks.items c.args.from.0)) = search rules in
    let to : IsSome (within (slice_get inside.tracks.items c.args.to.0)) = search rules in (
      record { few = c.self.invariant.0.few; link = tt },
      held_as refl refl refl c.join.ensures.homes (held_merged inside.tracks.items c.merge_in.new.tracks.items c.args.from.0 c.args.to.0 inside.holders.nodes.items c.join.new.self.nodes.items inside.holders.roots.items c.join.new.self.roots.items inside.holders.homes.items
          c.if-from-to.false from to c.join.ensures.joined c.merge_in.ensures c.self.invariant.1),
    )
