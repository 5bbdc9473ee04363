-- One root more is hit.
use Rattle.std.proofs.Common.{◌≡◌, ◌∙◌, ◌<◌, inr, ⊎_elim, ℕ, true, get_or, Contains, subst, sym, arith}
use Rattle.orc_ids.specs.declared.ids.InstId.{InstId}
use Rattle.std.proofs.lemmas.Option.{get_or_from_slice_get, slice_get_within, slice_get-get_or}
use Rattle.dep_groups.specs.Places.{is_set}
use Rattle.dep_groups.proofs.Lists.{each_more, contains_at, at_contains}
use Rattle.dep_groups.proofs.hits.hit_roots.Goals as goal

abbrev none : InstId
none = record { 0 = 0 }

pub hit_one-requires-clause-within : goal.hit_one-requires-clause-within
hit_one-requires-clause-within c =
    let m : InstId = get_or c.args.roots.now c.loop-root.root-index none in
    subst (λ (n : ℕ). m.0 < n) (sym c.loop-root.invariant.places)
    (c.requires.within m (at_contains c.args.roots.now c.loop-root.root-index m (slice_get-get_or c.args.roots.now c.loop-root.root-index none c.loop-root-test.true)))

pub loop-root-preserved : goal.loop-root-preserved
loop-root-preserved c =
    let i = c.loop-root.invariant in
    let e = c.hit_one.ensures in
    let m : InstId = get_or c.args.roots.now c.loop-root.root-index none in
    let here : Contains c.args.roots.now m = at_contains c.args.roots.now c.loop-root.root-index m (slice_get-get_or c.args.roots.now c.loop-root.root-index none c.loop-root-test.true) in
    record {
      places = e.places ∙ i.places;
      capacity = e.capacity ∙ i.capacity;
      noted = e.noted;
      hit = each_more c.args.roots.now c.loop-root.root-index (λ (x : InstId). is_set c.hit_one.new.hits.flags.items x.0 ≡ true)
          (λ k x below is. e.stays x.0 (i.hit k x below is))
          (λ x is. subst (λ (y : InstId). is_set c.hit_one.new.hits.flags.items y.0 ≡ true) (get_or_from_slice_get c.args.roots.now c.loop-root.root-index x none is) e.hit);
      only = λ n is. ⊎_elim (λ (was : is_set c.loop-root.hits.flags.items n ≡ true). i.only n was)
          (λ (same : m.0 ≡ n). inr (subst (λ (k : ℕ). Contains c.args.roots.now (record { 0 = k })) same here)) (e.only n is);
    }

pub returns-clause-hit : goal.returns-clause-hit
returns-clause-hit c = λ m named.
    let k = contains_at c.args.roots.now m named in
    c.loop-root.invariant.hit k.0 m (omega (arith, slice_get_within c.args.roots.now k.0 m k.1)) k.1
