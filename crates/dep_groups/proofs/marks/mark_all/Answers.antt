-- One group more is marked and told.
use Rattle.std.proofs.Common.{◌≡◌, ◌∙◌, ⊎_elim, inr, ℕ, Some, true, List, length, get_or, subst, sym, ap, arith, Contains}
use Rattle.std.specs.Prelude.{slice_get}
use Rattle.orc_ids.specs.declared.ids.InstId.{InstId}
use Rattle.std.proofs.lemmas.Option.{get_or_from_slice_get, slice_get_within, slice_get-get_or}
use Rattle.dep_groups.specs.Places.{place, is_set}
use Rattle.dep_groups.specs.Marks.{members_of}
use Rattle.dep_groups.proofs.Lists.{each_more, contains_at}
use Rattle.dep_groups.proofs.Told.{tells_then}
use Rattle.dep_groups.proofs.marks.mark_all.Goals as goal

pub loop-group-preserved : goal.loop-group-preserved
loop-group-preserved c =
    let i = c.loop-group.invariant in
    let e = c.mark_members.ensures in
    record {
      sizes = c.mark_members.auto.marks ∙ i.sizes;
      room = e.room;
      capacity = e.capacity ∙ i.capacity;
      tells = tells_then c.args.ready.now c.loop-group.ready c.mark_members.new.marks c.args.told.now.items c.loop-group.told.items c.mark_members.new.told.items i.tells e.tells;
      marked = λ k v m below is named member. each_more c.args.trail.now.order.items c.loop-group.group-index (λ (v : ℕ). (m : InstId) → Contains (members_of c.args.nodes.now.items v) m → place c.args.homes.now m.0 ≡ Some v → is_set c.mark_members.new.marks m.0 ≡ true)
          (λ k v below is m named member. e.tells.stays m.0 (i.marked k v m below is named member))
          (λ v is m named member.
          let group : get_or c.deref-group-items.result.now c.loop-group.group-index 0 ≡ v = get_or_from_slice_get c.deref-group-items.result.now c.loop-group.group-index v 0 (subst (λ (us : List ℕ). slice_get us c.loop-group.group-index ≡ Some v) (sym c.deref-group-items.ensures.value) is) in
          e.marked m (subst (λ (ms : List InstId). Contains ms m) (sym (c.members_of-members.ensures ∙ ap (members_of c.args.nodes.now.items) group)) named) (member ∙ ap Some (sym group))) k v below is m named member;
      only = λ n is. ⊎_elim (λ (was : is_set c.loop-group.ready n ≡ true). i.only n was) (λ (here : place c.args.homes.now n ≡ Some (get_or c.deref-group-items.result.now c.loop-group.group-index 0)). inr (record {
        at = c.loop-group.group-index;
        group = get_or c.deref-group-items.result.now c.loop-group.group-index 0;
        is = record { is = subst (λ (us : List ℕ). slice_get us c.loop-group.group-index ≡ Some (get_or c.deref-group-items.result.now c.loop-group.group-index 0)) c.deref-group-items.ensures.value (slice_get-get_or c.deref-group-items.result.now c.loop-group.group-index 0 c.loop-group-test.true) };
        member = here;
      })) (e.only n is);
    }

pub returns-clause-marked : goal.returns-clause-marked
returns-clause-marked c = record {
  marked = λ g m visited named member.
      let k = contains_at c.args.trail.now.order.items g visited in
      c.loop-group.invariant.marked k.0 g m (omega (arith, slice_get_within c.args.trail.now.order.items k.0 g k.1, ap length c.deref-group-items.ensures.value)) k.1 named member;
}
