-- The generator has a home in the tree of its tracker.
use Rattle.std.proofs.Common.{◌≡◌, ◌∙◌, ◌<◌, length, set, slice_get, IsSome, Some, refl, arith, rules}
use Rattle.tracker.specs.Owners.{within}
use Rattle.tracker.proofs.Holding.{held_as, held_generator, homed_at, none_have, root_below}
use Rattle.tracker.proofs.trackers.Trackers.add_generator.Goals as goal

pub invariant_of-self-2 : goal.invariant_of-self-2
invariant_of-self-2 c =
    let inside = c.self.inside in
    let seen : c.args.self.now.tracks ≡ inside.tracks.items = search rules in
    let fresh = none_have c.args.self.now inside.tracks.items c.args.g seen c.requires.fresh in
    let less : c.args.g.0 < length c.room.new.self.homes.items = omega (arith, c.in_ok-root.ensures.place, c.room.new.self.homes.ok.0) in (
      record { few = c.self.invariant.0.few; link = tt },
      held_as c.in_ok-add_generator_at.ensures.ok (c.settle.ensures.nodes ∙ c.room.ensures.nodes) (c.settle.ensures.roots ∙ c.room.ensures.roots) c.settle.ensures.homes
          (held_generator inside.tracks.items c.args.t.0 c.args.g.0 c.args.g inside.holders.nodes.items inside.holders.roots.items inside.holders.homes.items (set c.room.new.self.homes.items c.args.g.0 (Some c.in_ok-root.root)) refl fresh
          (homed_at inside.holders.homes.items c.room.new.self.homes.items inside.holders.roots.items c.args.g.0 c.args.t.0 c.in_ok-root.root c.in_ok-root.ensures.root less c.room.ensures.longer) c.self.invariant.1),
    )

pub room-requires : goal.room-requires
room-requires c =
    let inside = c.self.inside in
    let there : IsSome (within (slice_get inside.tracks.items c.args.t.0)) = search rules in
    omega (arith, root_below inside.tracks.items c.args.t.0 inside.holders.nodes.items inside.holders.roots.items inside.holders.homes.items there c.self.invariant.1, inside.holders.roots.ok.0)
