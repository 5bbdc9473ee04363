-- One group more is added.
use Rattle.std.proofs.Common.{◌≡◌, ◌∙◌, ◌<◌, ◌+◌, ◌-◌, ℕ, length, subst, sym, arith}
use Rattle.orc_ids.specs.declared.groups.Group.{Group}
use Rattle.dep_groups.specs.Added.{AreFresh}
use Rattle.dep_groups.specs.Adding.{AreAdded}
use Rattle.dep_groups.proofs.Addings.{RoomFor, still_fresh, added_next, held_added, unlinked_first, unlinked_more, added_none, room_first, room_one, room_split}
use Rattle.dep_groups.proofs.add.add_all.Goals as goal

pub add-requires-clause-members : goal.add-requires-clause-members
add-requires-clause-members c = λ m named.
    subst (λ n. m.0 < n) (sym c.loop-left.invariant.added.homes) (c.requires.members.members (c.loop-left.left - 1) c.group_at.result.now m c.group_at.ensures named)

pub add-requires-clause-deps : goal.add-requires-clause-deps
add-requires-clause-deps c = λ d named.
    subst (λ n. d.0 < n) (sym (c.loop-left.invariant.added.firsts ∙ c.requires.firsts)) (c.requires.members.deps (c.loop-left.left - 1) c.group_at.result.now d c.group_at.ensures named)

pub add-requires-clause-firsts : goal.add-requires-clause-firsts
add-requires-clause-firsts c = c.loop-left.invariant.added.firsts ∙ c.requires.firsts ∙ sym c.loop-left.invariant.added.homes

pub add-requires-clause-fresh : goal.add-requires-clause-fresh
add-requires-clause-fresh c =
    still_fresh c.args.core.now c.loop-left.core c.args.groups.now c.loop-left.left (c.loop-left.left - 1) c.group_at.result.now (omega (arith, c.loop-left-test.true)) c.group_at.ensures c.requires.fresh c.requires.apart c.loop-left.invariant.added

pub add-requires-clause-room : goal.add-requires-clause-room
add-requires-clause-room c =
    let k : ℕ = c.loop-left.left - 1 in
    let next : c.loop-left.left ≡ k + 1 = omega (arith, c.loop-left-test.true) in
    let group : Group = c.group_at.result.now in
    room_one c.loop-left.core k (length group.members) (length group.deps) _ _ (room_split c.loop-left.core c.args.groups.now k group c.group_at.ensures (subst (λ n. RoomFor c.loop-left.core c.args.groups.now n) next c.loop-left.invariant.room))

pub loop-left-preserved : goal.loop-left-preserved
loop-left-preserved c =
    let i = c.loop-left.invariant in
    let e = c.add.ensures in
    let mid = c.loop-left.core in
    let new = c.add.new.core in
    let start = c.args.core.now in
    let all = c.args.groups.now in
    let k : ℕ = c.loop-left.left - 1 in
    let next : c.loop-left.left ≡ k + 1 = omega (arith, c.loop-left-test.true) in
    let group : Group = c.group_at.result.now in
    let is = c.group_at.ensures in
    let fresh : AreFresh mid.graph group.members = still_fresh start mid all c.loop-left.left k group (omega (arith, next)) is c.requires.fresh c.requires.apart i.added in
    record {
      within = omega (arith, i.within);
      room = e.added.room k _ _ (room_split mid all k group is (subst (λ n. RoomFor mid all n) next i.room));
      sound = e.sound;
      indexed = e.indexed;
      held = held_added start mid new all k group is fresh i.sound e.added (length start.graph.nodes.items) i.added.longer i.held;
      unlinked = unlinked_more mid.links.items new.links.items (length start.graph.nodes.items) e.added.links i.unlinked;
      added = added_next start mid new all k group is fresh i.sound e.added (subst (λ (n : ℕ). AreAdded start mid all n) next i.added);
    }

pub loop-left-init : goal.loop-left-init
loop-left-init c =
    let core = c.args.core.now in
    let all = c.args.groups.now in
    record {
      within = omega arith;
      room = room_first core all c.requires.room;
      sound = c.requires.sound;
      indexed = c.requires.indexed;
      held = c.requires.held;
      unlinked = unlinked_first core c.requires.sound;
      added = added_none core all _ (omega arith);
    }
