-- The group is come to, and its members are hit.
use Rattle.std.proofs.Common.{◌≡◌, ◌∙◌, ℕ, Bool, true, Option, List, Contains, subst, sym, ap}
use Rattle.std.proofs.lemmas.List.{with_items_is}
use Rattle.orc_ids.specs.declared.ids.InstId.{InstId}
use Rattle.dep_groups.specs.Places.{place, is_set}
use Rattle.dep_groups.specs.Marks.{members_of}
use Rattle.dep_groups.proofs.Trails.{more_push}
use Rattle.dep_groups.proofs.Spreads.{noted_marked, hit_marked, swept_more}
use Rattle.dep_groups.proofs.fail.hit_group.Goals as goal

pub returns-then-not-is_set-clause-noted : goal.returns-then-not-is_set-clause-noted
returns-then-not-is_set-clause-noted c =
    let hits = c.args.hits.now in
    let e = c.mark_members.ensures in
    noted_marked hits _ c.deref_mut.result.now c.mark_members.new.marks c.deref_mut.ensures.value (with_items_is hits.flags c.mark_members.new.marks (c.mark_members.auto.marks ∙ c.deref_mut.ensures.len)) c.requires.noted e.tells e.room

pub returns-then-not-is_set-clause-hits : goal.returns-then-not-is_set-clause-hits
returns-then-not-is_set-clause-hits c =
    let hits = c.args.hits.now in
    let e = c.mark_members.ensures in
    hit_marked hits _ c.deref_mut.result.now c.mark_members.new.marks c.deref_mut.ensures.value (with_items_is hits.flags c.mark_members.new.marks (c.mark_members.auto.marks ∙ c.deref_mut.ensures.len))
    c.args.graph.now c.deref-then-not-is_set.result.now c.args.group c.deref-then-not-is_set.ensures.value c.requires.struck e.tells e.only c.mark_members.auto.marks e.capacity

pub returns-then-not-is_set-clause-swept : goal.returns-then-not-is_set-clause-swept
returns-then-not-is_set-clause-swept c =
    let graph = c.args.graph.now in
    let hits = c.args.hits.now in
    let e = c.mark_members.ensures in
    let is = with_items_is hits.flags c.mark_members.new.marks (c.mark_members.auto.marks ∙ c.deref_mut.ensures.len) in
    let named : members_of graph.nodes.items c.args.group ≡ c.members_of-members.result.now = sym c.members_of-members.ensures in
    swept_more graph c.args.trail.now c.come_to.new.trail hits _ c.args.group c.come_to.ensures.order c.come_to.ensures.seen c.come_to.ensures.room
    (λ i was. subst (λ (ms : List Bool). is_set ms i ≡ true) (sym is) (e.tells.stays i (subst (λ (fs : List Bool). is_set fs i ≡ true) (sym c.deref_mut.ensures.value) was)))
    (λ i home. subst (λ (ms : List Bool). is_set ms i ≡ true) (sym is) (e.marked (record { 0 = i }) (subst (λ (ms : List InstId). Contains ms (record { 0 = i })) named (c.requires.complete.members i c.args.group home)) (ap (λ (hs : List (Option ℕ)). place hs i) c.deref-then-not-is_set.ensures.value ∙ home)))
    c.requires.swept

pub returns-then-not-is_set-clause-more : goal.returns-then-not-is_set-clause-more
returns-then-not-is_set-clause-more c =
    more_push c.args.trail.now c.come_to.new.trail c.args.group c.come_to.ensures.order c.come_to.ensures.len c.come_to.ensures.seen c.come_to.ensures.sizes.0 c.come_to.ensures.sizes.1
