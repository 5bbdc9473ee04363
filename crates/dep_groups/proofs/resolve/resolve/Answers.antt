-- The group is linked, or it and what it depends on is ready.
use Rattle.std.proofs.Common.{◌≡◌, ◌∙◌, ◌⊎◌, ℕ, List, Bool, Option, [], ◌∷◌, ◌++◌, true, inl, inr, length, subst, sym, ap, Vec, Global, vec_len, vec_capacity, ◌+◌, ◌≤◌}
use Rattle.std.specs.Vec.{with_items}
use Rattle.dep_groups.specs.Nodes.{Node}
use Rattle.std.proofs.lemmas.List.{with_items_is}
use Rattle.dep_groups.specs.Places.{is_set, unset}
use Rattle.dep_groups.specs.Search.{IsTrail, IsVisit, ArePassed}
use Rattle.dep_groups.specs.Links.{IsHeld}
use Rattle.dep_groups.specs.Marks.{AreMarked, IsOfTrail}
use Rattle.dep_groups.proofs.Trails.{visit_last}
use Rattle.dep_groups.proofs.Seeks.{trail_first}
use Rattle.dep_groups.proofs.Told.{tells_none}
use Rattle.dep_groups.proofs.Sound.{clear_roomy, seen_marked, sound_marked}
use Rattle.dep_groups.proofs.resolve.resolve.Goals as goal

pub come_to-requires-clause-room : goal.come_to-requires-clause-room
come_to-requires-clause-room c = clear_roomy c.args.core.now.trail c.requires.sound.clear

pub seek-found-requires-clause-trail : goal.seek-found-requires-clause-trail
seek-found-requires-clause-trail c =
    let graph = c.args.core.now.graph in
    subst (λ (o : List ℕ). IsTrail graph (is_set c.come_to.new.trail.seen.items) o) (sym (c.come_to.ensures.order ∙ ap (λ (o : List ℕ). o ++ c.args.group ∷ []) c.requires.sound.clear.empty))
    (trail_first graph (is_set c.args.core.now.trail.seen.items) (is_set c.come_to.new.trail.seen.items) c.args.group c.requires.sound.clear.unseen c.come_to.ensures.seen)

pub seek-found-requires-clause-first : goal.seek-found-requires-clause-first
seek-found-requires-clause-first c =
    subst (λ (o : List ℕ). IsVisit o 0 c.args.group) (sym (c.come_to.ensures.order ∙ ap (λ (o : List ℕ). o ++ c.args.group ∷ []) c.requires.sound.clear.empty)) (visit_last [] c.args.group)

pub returns-in-Some-clause-tells : goal.returns-in-Some-clause-tells
returns-in-Some-clause-tells c = tells_none c.args.core.now.graph.ready.items c.args.core.now.told.items

marked_as : (hs homes : List (Option ℕ)) (nodes : List Node) (rs ready : List Bool) (order : List ℕ) → hs ≡ homes → ready ≡ rs → AreMarked hs nodes rs order → AreMarked homes nodes ready order
marked_as hs homes nodes rs ready order a c m = subst (λ xs. AreMarked xs nodes ready order) a (subst (λ xs. AreMarked hs nodes xs order) (sym c) m)

old : (new was : List Bool) (homes tables : List (Option ℕ)) (order : List ℕ) (i : ℕ) → new ≡ was → homes ≡ tables → (is_set new i ≡ true) ⊎ IsOfTrail homes order i → (is_set was i ≡ true) ⊎ IsOfTrail tables order i
old new was homes tables order i same table (inl e) = inl (subst (λ (xs : List Bool). is_set xs i ≡ true) same e)
old new was homes tables order i same table (inr o) = inr (subst (λ (hs : List (Option ℕ)). IsOfTrail hs order i) table o)

first_kept : (order more : List ℕ) → ((k g : ℕ) → IsVisit order k g → IsVisit more k g) → (w : ℕ) → order ≡ w ∷ [] → IsVisit more 0 w
first_kept order more kept w is = kept 0 w (subst (λ (o : List ℕ). IsVisit o 0 w) (sym is) (visit_last [] w))

pub returns-in-Some-clause-settled : goal.returns-in-Some-clause-settled
returns-in-Some-clause-settled c = λ i member.
    inr (subst (λ (ls : List (Option ℕ)). IsHeld c.args.core.now.graph ls c.args.group) (sym (with_items_is c.args.core.now.links c.wait_for.new.links (c.wait_for.auto.links ∙ c.deref_mut-in-Some.ensures.len))) c.wait_for.ensures.held)

pub returns-in-None-clause-sound : goal.returns-in-None-clause-sound
returns-in-None-clause-sound c =
    let core = c.args.core.now in
    let s = c.requires.sound in
    let e = c.mark_all.ensures in
    let trail = c.seek-found.new.trail in
    let ready : Vec Bool Global = with_items core.graph.ready c.mark_all.new.ready in
    let cursors : Vec ℕ Global = with_items core.cursors c.seek-found.new.cursors in
    let is : ready.items ≡ c.mark_all.new.ready = with_items_is core.graph.ready c.mark_all.new.ready (c.mark_all.auto.ready ∙ c.deref_mut-in-None.ensures.len) in
    let passed : cursors.items ≡ c.seek-found.new.cursors = with_items_is core.cursors c.seek-found.new.cursors (c.seek-found.auto.cursors ∙ c.deref_mut.ensures.len) in
    sound_marked core ready trail cursors c.clear-in-None.new.trail c.mark_all.new.told s c.seek-found.ensures.trail c.in-None.ensures.found
    (marked_as c.deref-in-None.result.now core.graph.homes.items core.graph.nodes.items c.mark_all.new.ready ready.items trail.order.items c.deref-in-None.ensures.value is e.marked)
    (λ i was. subst (λ (xs : List Bool). is_set xs i ≡ true) (sym is) (e.tells.stays i (subst (λ (xs : List Bool). is_set xs i ≡ true) (sym c.deref_mut-in-None.ensures.value) was)))
    (λ i now. old c.deref_mut-in-None.result.now core.graph.ready.items c.deref-in-None.result.now core.graph.homes.items trail.order.items i c.deref_mut-in-None.ensures.value c.deref-in-None.ensures.value (e.only i (subst (λ (xs : List Bool). is_set xs i ≡ true) is now)))
    (subst (λ (xs : List ℕ). ArePassed core.graph xs) (sym passed) c.seek-found.ensures.cursors)
    c.clear-in-None.ensures.clear
    (record {
      links = s.sizes.links;
      nexts = s.sizes.nexts;
      heads = s.sizes.heads;
      cursors = ap length passed ∙ c.seek-found.auto.cursors ∙ ap length c.deref_mut.ensures.value ∙ s.sizes.cursors;
      seen = c.clear-in-None.ensures.sizes ∙ c.seek-found.ensures.more.groups ∙ c.come_to.ensures.sizes.0 ∙ s.sizes.seen;
      ready = ap length is ∙ c.mark_all.auto.ready ∙ ap length c.deref_mut-in-None.ensures.value ∙ s.sizes.ready;
      few = s.sizes.few;
      places_few = s.sizes.places_few;
    })
    (subst (λ (xs : List Bool). vec_len c.mark_all.new.told + unset xs ≤ vec_capacity c.mark_all.new.told) (sym is) e.room)

pub returns-in-None-clause-settled : goal.returns-in-None-clause-settled
returns-in-None-clause-settled c = λ i member.
    let core = c.args.core.now in
    let trail = c.seek-found.new.trail in
    let ready : Vec Bool Global = with_items core.graph.ready c.mark_all.new.ready in
    let is : ready.items ≡ c.mark_all.new.ready = with_items_is core.graph.ready c.mark_all.new.ready (c.mark_all.auto.ready ∙ c.deref_mut-in-None.ensures.len) in
    let first = first_kept c.come_to.new.trail.order.items trail.order.items c.seek-found.ensures.more.kept c.args.group (c.come_to.ensures.order ∙ ap (λ (o : List ℕ). o ++ c.args.group ∷ []) c.requires.sound.clear.empty) in
    inl (seen_marked core ready trail c.requires.sound c.seek-found.ensures.trail
    (marked_as c.deref-in-None.result.now core.graph.homes.items core.graph.nodes.items c.mark_all.new.ready ready.items trail.order.items c.deref-in-None.ensures.value is c.mark_all.ensures.marked)
    i c.args.group member (record { at = 0; is = first }))
