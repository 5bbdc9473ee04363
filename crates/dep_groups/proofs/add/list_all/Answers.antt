use Rattle.std.proofs.Common.{◌≡◌, ◌∙◌, ◌<◌, ⊎_elim, inr, ℕ, Contains, subst, sym, get_or, arith}
use Rattle.std.proofs.lemmas.Option.{get_or_from_slice_get, slice_get_within, slice_get-get_or}
use Rattle.dep_groups.specs.Places.{place}
use Rattle.dep_groups.specs.Wake.{IsListed}
use Rattle.dep_groups.proofs.Lists.{each_more, contains_at, at_contains}
use Rattle.dep_groups.proofs.add.list_all.Goals as goal

pub list_one-requires-clause-within : goal.list_one-requires-clause-within
list_one-requires-clause-within c = subst (λ n. get_or c.args.deps.now c.loop-instance.instance-index 0 < n) (sym c.loop-instance.invariant.sizes) (c.requires.within (get_or c.args.deps.now c.loop-instance.instance-index 0) (at_contains c.args.deps.now c.loop-instance.instance-index (get_or c.args.deps.now c.loop-instance.instance-index 0) (slice_get-get_or c.args.deps.now c.loop-instance.instance-index 0 c.loop-instance-test.true)))

pub loop-instance-preserved : goal.loop-instance-preserved
loop-instance-preserved c =
    let i = c.loop-instance.invariant in
    let e = c.list_one.ensures in
    let here : Contains c.args.deps.now (get_or c.args.deps.now c.loop-instance.instance-index 0) = at_contains c.args.deps.now c.loop-instance.instance-index (get_or c.args.deps.now c.loop-instance.instance-index 0) (slice_get-get_or c.args.deps.now c.loop-instance.instance-index 0 c.loop-instance-test.true) in
    record {
      sizes = c.list_one.auto.firsts ∙ i.sizes;
      falls = e.falls;
      listed = each_more c.args.deps.now c.loop-instance.instance-index (λ (d : ℕ). IsListed c.list_one.new.edges.items (place c.list_one.new.firsts d) c.args.group)
          (λ k d below is. e.kept d c.args.group (i.listed k d below is))
          (λ d is. subst (λ (n : ℕ). IsListed c.list_one.new.edges.items (place c.list_one.new.firsts n) c.args.group) (get_or_from_slice_get c.args.deps.now c.loop-instance.instance-index d 0 is) e.listed);
      kept = λ d g was. e.kept d g (i.kept d g was);
      only = λ d g is. ⊎_elim (λ (was : IsListed c.loop-instance.edges.items (place c.loop-instance.firsts d) g). i.only d g was)
          (λ (x : (d ≡ get_or c.args.deps.now c.loop-instance.instance-index 0) × (g ≡ c.args.group)). inr (subst (λ (n : ℕ). Contains c.args.deps.now n) (sym x.0) here, x.1)) (e.only d g is);
      len = omega (arith, e.len, i.len);
      capacity = e.capacity ∙ i.capacity;
    }

pub returns-clause-listed : goal.returns-clause-listed
returns-clause-listed c = λ d named.
    let k = contains_at c.args.deps.now d named in
    c.loop-instance.invariant.listed k.0 d (omega (arith, slice_get_within c.args.deps.now k.0 d k.1)) k.1
