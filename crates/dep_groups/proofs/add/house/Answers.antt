use Rattle.std.proofs.Common.{◌≡◌, Option, List, ◌∙◌, ◌<◌, ◌⊎◌, inl, inr, ⊎_elim, ℕ, Some, Contains, subst, sym, arith}
use Rattle.orc_ids.specs.declared.ids.InstId.{InstId}
use Rattle.std.proofs.lemmas.Option.{get_or_from_slice_get, slice_get_within, slice_get-get_or}
use Rattle.std.proofs.lemmas.Bool.{cases_eq}
use Rattle.std.proofs.Common.{get_or}
use Rattle.dep_groups.specs.Places.{place}
use Rattle.dep_groups.proofs.Lists.{each_more, contains_at, at_contains}
use Rattle.dep_groups.proofs.Ways.{written_here, written_other}
use Rattle.dep_groups.proofs.add.house.Goals as goal

abbrev none : InstId
none = record { 0 = 0 }

keep : (old new : ℕ → Option ℕ) (homes : List (Option ℕ)) (members : List InstId) (g n : ℕ) → new n ≡ old n → (old n ≡ place homes n) ⊎ (Contains members (record { 0 = n }) × (old n ≡ Some g)) → (new n ≡ place homes n) ⊎ (Contains members (record { 0 = n }) × (new n ≡ Some g))
keep old new homes members g n same (inl e) = inl (same ∙ e)
keep old new homes members g n same (inr e) = inr (e.0, same ∙ e.1)

pub put-requires-clause-within : goal.put-requires-clause-within
put-requires-clause-within c = subst (λ n. (get_or c.args.members.now c.loop-member.member-index none).0 < n) (sym c.loop-member.invariant.sizes) (c.requires.within (get_or c.args.members.now c.loop-member.member-index none) (at_contains c.args.members.now c.loop-member.member-index (get_or c.args.members.now c.loop-member.member-index none) (slice_get-get_or c.args.members.now c.loop-member.member-index none c.loop-member-test.true)))

pub loop-member-preserved : goal.loop-member-preserved
loop-member-preserved c =
    let i = c.loop-member.invariant in
    let m : InstId = get_or c.args.members.now c.loop-member.member-index none in
    let old = place c.loop-member.homes in
    let new = place c.put.new.places in
    let hit : new m.0 ≡ Some c.args.group = written_here old new m.0 (Some c.args.group) c.put.ensures in
    let named : Contains c.args.members.now m = at_contains c.args.members.now c.loop-member.member-index m (slice_get-get_or c.args.members.now c.loop-member.member-index none c.loop-member-test.true) in
    record {
      sizes = c.put.auto.places ∙ i.sizes;
      members = each_more c.args.members.now c.loop-member.member-index (λ (x : InstId). new x.0 ≡ Some c.args.group)
          (λ k x below is. ⊎_elim (λ (e : m.0 ≡ x.0). subst (λ n. new n ≡ Some c.args.group) e hit) (λ (e : m.0 ≡ x.0 → ⊥). written_other old new m.0 (Some c.args.group) c.put.ensures x.0 e ∙ i.members k x below is) (cases_eq m.0 x.0))
          (λ x is. subst (λ (y : InstId). new y.0 ≡ Some c.args.group) (get_or_from_slice_get c.args.members.now c.loop-member.member-index x none is) hit);
      others = λ n. ⊎_elim (λ (e : m.0 ≡ n). inr (subst (λ (k : ℕ). Contains c.args.members.now (record { 0 = k })) e named, subst (λ k. new k ≡ Some c.args.group) e hit))
          (λ (e : m.0 ≡ n → ⊥). keep old new c.args.homes.now c.args.members.now c.args.group n (written_other old new m.0 (Some c.args.group) c.put.ensures n e) (i.others n)) (cases_eq m.0 n);
    }

pub returns-clause-members : goal.returns-clause-members
returns-clause-members c = λ m named.
    let k = contains_at c.args.members.now m named in
    c.loop-member.invariant.members k.0 m (omega (arith, slice_get_within c.args.members.now k.0 m k.1)) k.1
