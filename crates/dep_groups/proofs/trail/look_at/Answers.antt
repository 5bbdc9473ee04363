-- The search comes to one more group.
use Rattle.std.proofs.Common.{◌≡◌, ◌∙◌, ℕ, Option, Some, List, subst, sym, ap}
use Rattle.dep_groups.specs.Places.{place, is_set}
use Rattle.dep_groups.specs.Shape.{home_in}
use Rattle.dep_groups.specs.Search.{IsTrail}
use Rattle.dep_groups.proofs.Trails.{trail_push, more_push}
use Rattle.dep_groups.proofs.trail.look_at.Goals as goal

pub returns-clause-trail : goal.returns-clause-trail
returns-clause-trail c =
    let graph = c.args.graph.now in
    let old = c.args.trail.now in
    let member : home_in graph c.args.to ≡ Some c.in-Some.group = ap (λ (hs : List (Option ℕ)). place hs c.args.to) (sym c.deref-2.ensures.value) ∙ sym c.at.ensures ∙ c.in-Some.is in
    subst (λ (o : List ℕ). IsTrail graph (is_set c.come_to.new.trail.seen.items) o) (sym c.come_to.ensures.order)
    (trail_push graph (is_set old.seen.items) (is_set c.come_to.new.trail.seen.items) old.order.items c.in-Some.group c.come_to.ensures.seen c.requires.trail c.args.to c.requires.met member)

pub returns-clause-more : goal.returns-clause-more
returns-clause-more c = more_push c.args.trail.now c.come_to.new.trail c.in-Some.group c.come_to.ensures.order c.come_to.ensures.len c.come_to.ensures.seen c.come_to.ensures.sizes.0 c.come_to.ensures.sizes.1
