-- The next tracker has a tree.
use Rattle.std.proofs.Common.{◌≡◌, ◌<◌, ◌++◌, ◌∷◌, [], length, None, Some, rules}
use Rattle.orc_ids.specs.declared.limits.TheConstants.{TRACKER_LIMIT}
use Rattle.tracker.specs.Owners.{empty}
use Rattle.tracker.proofs.Holding.{held_as, held_tracker}
use Rattle.tracker.proofs.trackers.Trackers.make.Goals as goal

pub invariant_of-self-2 : goal.invariant_of-self-2
invariant_of-self-2 c =
    let inside = c.self.inside in
    let tracks : c.push_reserved.new.self.items ≡ inside.tracks.items ++ Some (empty c.args.d) ∷ [] = search rules in
    let nodes : c.make.new.self.nodes.items ≡ inside.holders.nodes.items ++ record { up = None; rank = 0; tracker = length inside.tracks.items } ∷ [] = search rules in
    let roots : c.make.new.self.roots.items ≡ inside.holders.roots.items ++ length inside.tracks.items ∷ [] = search rules in
    let few : length inside.tracks.items < TRACKER_LIMIT = search rules in
    (record { few = c.self.invariant.0.few; link = tt }, held_as tracks nodes roots c.make.ensures.homes (held_tracker inside.tracks.items c.args.d _ _ _ few c.self.invariant.1))
