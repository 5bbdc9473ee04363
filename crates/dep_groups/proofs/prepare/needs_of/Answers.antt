use Rattle.std.proofs.Common.{◌≡◌, ◌∙◌, ◌<◌, Some, Contains, subst, arith, length, ap}
use Rattle.std.specs.Prelude.{slice_get}
use Rattle.std.proofs.lemmas.Option.{get_or_from_slice_get, slice_get_within}
use Rattle.std.proofs.lemmas.List.Sums.{sum_by_more}
use Rattle.orc_ids.specs.declared.ids.InstId.{InstId}
use Rattle.orc_ids.specs.declared.groups.Group.{Group}
use Rattle.dep_groups.proofs.Lists.{each_more}
use Rattle.dep_groups.proofs.prepare.needs_of.Goals as goal

pub loop-group-preserved : goal.loop-group-preserved
loop-group-preserved c =
    let i = c.loop-group.invariant in
    let e = c.in_ok-needs.ensures in
    let group : Group = c.group-item.result in
    let all = c.args.groups.now in
    let k = c.loop-group.group-index in
    let new = c.in_ok-needs.needs in
    let same = λ (x : Group) (is : slice_get all k ≡ Some x). c.group-item.is ∙ get_or_from_slice_get all k x group is in
    record {
      places = omega (arith, i.places, e.more);
      members = each_more all k (λ (g : Group). (m : InstId) → Contains g.members m → m.0 < new.places)
          (λ k g below is m named. let less = i.members k g below is m named in omega (arith, less, e.more))
          (λ g is. subst (λ (x : Group). (m : InstId) → Contains x.members m → m.0 < new.places) (same g is) e.members);
      deps = each_more all k (λ (g : Group). (d : InstId) → Contains g.deps d → d.0 < new.places)
          (λ k g below is d named. let less = i.deps k g below is d named in omega (arith, less, e.more))
          (λ g is. subst (λ (x : Group). (d : InstId) → Contains x.deps d → d.0 < new.places) (same g is) e.deps);
      member_count = omega (arith, e.member_count, i.member_count, sum_by_more (λ (g : Group). length g.members) all k group c.loop-group-test.true, ap (λ (g : Group). length g.members) c.group-item.is);
      dep_count = omega (arith, e.dep_count, i.dep_count, sum_by_more (λ (g : Group). length g.deps) all k group c.loop-group-test.true, ap (λ (g : Group). length g.deps) c.group-item.is);
    }

pub returns-clause-below : goal.returns-clause-below
returns-clause-below c = record {
  members = λ k g m is named. c.loop-group.invariant.members k g (omega (arith, slice_get_within c.args.groups.now k g is, c.loop-group-test.false)) is m named;
  deps = λ k g d is named. c.loop-group.invariant.deps k g (omega (arith, slice_get_within c.args.groups.now k g is, c.loop-group-test.false)) is d named;
}
