-- One member more is marked and told.
use Rattle.std.proofs.Common.{◌≡◌, ◌∙◌, ⊎_elim, inr, Some, true, subst, arith}
use Rattle.orc_ids.specs.declared.ids.InstId.{InstId}
use Rattle.std.proofs.lemmas.Option.{get_or_from_slice_get, slice_get_within}
use Rattle.dep_groups.specs.Places.{place, is_set}
use Rattle.dep_groups.proofs.Lists.{each_more, contains_at}
use Rattle.dep_groups.proofs.Told.{tells_then}
use Rattle.dep_groups.proofs.marks.mark_members.Goals as goal

pub loop-member-preserved : goal.loop-member-preserved
loop-member-preserved c =
    let i = c.loop-member.invariant in
    let e = c.mark_member.ensures in
    record {
      sizes = omega (arith, c.mark_member.auto.marks, i.sizes);
      room = e.room;
      capacity = e.capacity ∙ i.capacity;
      tells = tells_then c.args.marks.now c.loop-member.marks c.mark_member.new.marks c.args.told.now.items c.loop-member.told.items c.mark_member.new.told.items i.tells e.tells;
      marked = each_more c.args.members.now c.loop-member.member-index (λ (m : InstId). place c.args.homes.now m.0 ≡ Some c.args.group → is_set c.mark_member.new.marks m.0 ≡ true)
          (λ k m below is member. e.tells.stays m.0 (i.marked k m below is member))
          (λ m is. subst (λ (y : InstId). place c.args.homes.now y.0 ≡ Some c.args.group → is_set c.mark_member.new.marks y.0 ≡ true) (get_or_from_slice_get c.args.members.now c.loop-member.member-index m (record { 0 = 0 }) is) e.marked);
      only = λ n is. ⊎_elim (λ (was : is_set c.loop-member.marks n ≡ true). i.only n was) (λ (here : place c.args.homes.now n ≡ Some c.args.group). inr here) (e.only n is);
    }

pub returns-clause-marked : goal.returns-clause-marked
returns-clause-marked c = λ m named member.
    let k = contains_at c.args.members.now m named in
    c.loop-member.invariant.marked k.0 m (omega (arith, slice_get_within c.args.members.now k.0 m k.1)) k.1 member
