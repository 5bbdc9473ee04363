-- A search begins with no flag set, and ends so.
use Rattle.std.proofs.Common.{◌++◌, ◌∷◌, [], ◌∙◌, ℕ, List, subst, sym, ap}
use Rattle.std.proofs.lemmas.Bool.{both_ways}
use Rattle.dep_groups.specs.Places.{is_set}
use Rattle.dep_groups.specs.Search.{IsTrail, IsVisit}
use Rattle.dep_groups.proofs.Trails.{visit_last}
use Rattle.dep_groups.proofs.Seeks.{trail_first}
use Rattle.dep_groups.proofs.Sound.{clear_roomy}
use Rattle.dep_groups.proofs.Pendings.{counted_none, counted_pending, within_same}
use Rattle.dep_groups.proofs.pending.count_from.Goals as goal

pub come_to-requires-clause-room : goal.come_to-requires-clause-room
come_to-requires-clause-room c = clear_roomy c.args.trail.now c.requires.clear

pub note_all-count-requires-clause-trail : goal.note_all-count-requires-clause-trail
note_all-count-requires-clause-trail c =
    let graph = c.args.graph.now in
    subst (λ (o : List ℕ). IsTrail graph (is_set c.come_to.new.trail.seen.items) o) (sym (c.come_to.ensures.order ∙ ap (λ (o : List ℕ). o ++ c.args.group ∷ []) c.requires.clear.empty))
    (trail_first graph (is_set c.args.trail.now.seen.items) (is_set c.come_to.new.trail.seen.items) c.args.group c.requires.clear.unseen c.come_to.ensures.seen)

pub note_all-count-requires-clause-counted : goal.note_all-count-requires-clause-counted
note_all-count-requires-clause-counted c = counted_none c.args.flags.now c.requires.unflagged

pub note_all-count-requires-clause-noted : goal.note_all-count-requires-clause-noted
note_all-count-requires-clause-noted c = record { only = λ i is. absurd (both_ways (is_set c.args.flags.now i) (c.requires.unflagged i) is) }

pub returns-clause-counted : goal.returns-clause-counted
returns-clause-counted c = λ i home.
    let graph = c.args.graph.now in
    let trail = c.note_all-count.new.trail in
    let e = c.note_all-count.ensures in
    let was : IsVisit c.come_to.new.trail.order.items 0 c.args.group = subst (λ (o : List ℕ). IsVisit o 0 c.args.group) (sym (c.come_to.ensures.order ∙ ap (λ (o : List ℕ). o ++ c.args.group ∷ []) c.requires.clear.empty)) (visit_last [] c.args.group) in
    let first = e.more.kept 0 c.args.group was in
    counted_pending graph trail c.note_all-count.new.flags c.args.group i e.trail first e.noted home c.requires.closed e.covered c.note_all-count.result e.counted

pub lower_noted-requires-clause-within : goal.lower_noted-requires-clause-within
lower_noted-requires-clause-within c = within_same c.args.graph.now c.args.flags.now c.note_all-count.new.flags c.note_all-count.auto.flags c.requires.within
