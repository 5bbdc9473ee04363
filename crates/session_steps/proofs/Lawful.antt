-- The units and generators of a session stay lawful.
use Rattle.std.proofs.Common.{◌≡◌, ℕ, ◌⊎◌, inl, inr, true, false, List, [], ◌∷◌, ◌++◌, length, map, slice_get, Option, Some, None, refl, ap, sym, subst, ◌∙◌}
use Rattle.std.specs.Bool.{if◌then◌else◌}
use Rattle.std.specs.Prelude.{◌==◌}
use Rattle.std.specs.Option.{option_map_or}
use Rattle.orc_ids.specs.declared.ids.InstId.{InstId}
use Rattle.session_model.specs.Lists.{changed_at, numbered}
use Rattle.session_model.specs.Meaning.{Meaning, IsLawful}
use Rattle.session_model.specs.Plain.{Plain, UnitRow, GenRow, is_unsearched}
use Rattle.session_model.specs.Change.{changed, settled, defined, spent, claimed, claimed_for, all_claimed, new_unit, without_replaced, spent_generator, removed_generator, moved_generator, resolved_unit, resolved_row}
use Rattle.session_model.specs.declared.change.Change.{Change}
use Rattle.session_model.specs.declared.change.Change.TheVariants as change
use Rattle.session_model.specs.declared.rows.InstRow.{InstRow}
use Rattle.session_model.specs.declared.rows.Verdict.{Verdict}
use Rattle.session_laws.proofs.Declared.{none_there, pushed_cases, changed_cases, mapped_parts, numbered_parts, chosen, settling_keeps}
use Rattle.closure_laws.proofs.Declared.{is_define, HasFields, IsNew, change_fields, settled_fields}
use Rattle.session_steps.specs.Rest.{AllLawful}
use Rattle.session_steps.specs.Moved.{HandsInLawful}

-- Generators

abbrev AllGood : List GenRow → Type 0
AllGood gs = (g : ℕ) (x : GenRow) → slice_get gs g ≡ Some x → IsLawful x.meaning

good_pushed : (gs : List GenRow) (y : GenRow) → AllGood gs → IsLawful y.meaning → AllGood (gs ++ y ∷ [])
good_pushed gs y a l g x t = split (pushed_cases gs y g x t)
  where
    split : (slice_get gs g ≡ Some x) ⊎ ((g ≡ length gs) × (x ≡ y)) → IsLawful x.meaning
    split (inl e) = a g x e
    split (inr e) = subst (λ (z : GenRow). IsLawful z.meaning) (sym e.1) l

good_spent : (gs : List GenRow) (k : ℕ) → AllGood gs → AllGood (changed_at k spent_generator gs)
good_spent gs k a g x t = split (changed_cases k spent_generator gs g x t)
  where
    split : ((g ≡ k) × ((y : GenRow) × (slice_get gs g ≡ Some y) × (x ≡ spent_generator y))) ⊎ ((g ≡ k → ⊥) × (slice_get gs g ≡ Some x)) → IsLawful x.meaning
    split (inl e) = subst (λ (z : GenRow). IsLawful z.meaning) (sym e.1.2) (a g e.1.0 e.1.1)
    split (inr e) = a g x e.1

good_mapped : (gs : List GenRow) (f : GenRow → GenRow) → ((x : GenRow) → (f x).meaning ≡ x.meaning) → AllGood gs → AllGood (map f gs)
good_mapped gs f same a g x t = let p = mapped_parts f gs g x t in subst IsLawful (sym (ap (λ (z : GenRow). z.meaning) p.2 ∙ same p.0)) (a g p.0 p.1)

claim_generators : (i : InstId) (m : Plain) → (claimed_for i m).generators ≡ m.generators
claim_generators i m = split (slice_get m.rows i.0)
  where
    split : (o : Option InstRow) → (option_map_or (λ (r : InstRow). if is_unsearched r.phase then claimed r.unit.0 m else m) o m).generators ≡ m.generators
    split None = refl
    split (Some r) = chosen (λ n. n.generators ≡ m.generators) (is_unsearched r.phase) (claimed r.unit.0 m) m (λ b. refl) (λ b. refl)

claims_generators : (os : List (Option InstId)) (m : Plain) → (all_claimed os m).generators ≡ m.generators
claims_generators [] m = refl
claims_generators (None ∷ os) m = claims_generators os m
claims_generators (Some i ∷ os) m = claims_generators os (claimed_for i m) ∙ claim_generators i m

generators_stay : (c : Change Meaning) (m : Plain) → HandsInLawful c → AllGood m.generators → AllGood (changed c m).generators
generators_stay change.Nothing m l a = a
generators_stay (change.MakeDylib name) m l a = a
generators_stay (change.MakeTracker d) m l a = a
generators_stay (change.SetOrder d order) m l a = a
generators_stay (change.Attach d t u) m l a = good_pushed m.generators (record { dylib = d.0; tracker = t.0; meaning = u; spent = false }) a l
generators_stay (change.Define d t u found) m l a = a
generators_stay (change.Generate g found) m l a = split (slice_get m.generators g.0)
  where
    split : (o : Option GenRow) → AllGood (option_map_or (λ x. spent g.0 (defined x.dylib x.tracker x.meaning found m)) o m).generators
    split None = a
    split (Some x) = good_spent m.generators g.0 a
generators_stay (change.Spend g) m l a = good_spent m.generators g.0 a
generators_stay (change.Ask found lev n) m l a = subst AllGood (sym (claims_generators found m)) a
generators_stay (change.Start s u) m l a = a
generators_stay (change.Finish s u how) m l a = a
generators_stay (change.Place u base) m l a = a
generators_stay (change.Resolve u) m l a = split (slice_get m.units u.0)
  where
    split : (o : Option UnitRow) → AllGood (option_map_or (λ x. record m { rows = map (resolved_row u.0 (resolved_unit x)) m.rows; units = changed_at u.0 resolved_unit m.units }) o m).generators
    split None = a
    split (Some x) = a
generators_stay (change.Link u found) m l a = subst AllGood (sym (claims_generators found m)) a
generators_stay (change.Emit u groups) m l a = a
generators_stay (change.Fail u) m l a = a
generators_stay (change.Move t to) m l a = chosen (λ n. AllGood n.generators) (t.0 == to.0) m (record m { units = map (Rattle.session_model.specs.Change.moved_unit t.0 to.0) m.units; generators = map (moved_generator t.0 to.0) m.generators; trackers = changed_at t.0 Rattle.session_model.specs.Change.gone_tracker m.trackers })
    (λ b. a) (λ b. good_mapped m.generators (moved_generator t.0 to.0) (λ x. refl) a)
generators_stay (change.Remove t) m l a = good_mapped m.generators (removed_generator t.0) (λ x. refl) a
generators_stay (change.LetGo s u) m l a = a

-- Units

-- one that a definition made
new_is_lawful : (m : Plain) (d t : ℕ) (v : Meaning) (vs : List Verdict) (u : ℕ) (y : UnitRow) → slice_get m.units u ≡ None → slice_get (defined d t v vs m).units u ≡ Some y → IsLawful v → IsLawful y.meaning
new_is_lawful m d t v vs u y none there l = split (pushed_cases (numbered (without_replaced m.rows vs) 0 m.units) (new_unit t v vs) u y there)
  where
    split : (slice_get (numbered (without_replaced m.rows vs) 0 m.units) u ≡ Some y) ⊎ ((u ≡ length (numbered (without_replaced m.rows vs) 0 m.units)) × (y ≡ new_unit t v vs)) → IsLawful y.meaning
    split (inl e) = let p = numbered_parts (without_replaced m.rows vs) m.units u y e in none_there (slice_get m.units u) p.0 none p.1
    split (inr e) = subst (λ (z : UnitRow). IsLawful z.meaning) (sym e.1) l

new_unit_lawful : (c : Change Meaning) (m : Plain) (u : ℕ) (y : UnitRow) → HandsInLawful c → AllGood m.generators → is_define c ≡ true → slice_get m.units u ≡ None → slice_get (changed c m).units u ≡ Some y → IsLawful y.meaning
new_unit_lawful (change.Define d t v found) m u y l a is none there = new_is_lawful m d.0 t.0 v found u y none there l
new_unit_lawful (change.Generate g found) m u y l a is none there = split (slice_get m.generators g.0) refl there
  where
    split : (o : Option GenRow) → slice_get m.generators g.0 ≡ o → slice_get (option_map_or (λ x. spent g.0 (defined x.dylib x.tracker x.meaning found m)) o m).units u ≡ Some y → IsLawful y.meaning
    split None e t = none_there (slice_get m.units u) y none t
    split (Some x) e t = new_is_lawful m x.dylib x.tracker x.meaning found u y none t (a g.0 x e)
new_unit_lawful change.Nothing m u y l a is none there = absurd cc
new_unit_lawful (change.MakeDylib name) m u y l a is none there = absurd cc
new_unit_lawful (change.MakeTracker d) m u y l a is none there = absurd cc
new_unit_lawful (change.SetOrder d order) m u y l a is none there = absurd cc
new_unit_lawful (change.Attach d t v) m u y l a is none there = absurd cc
new_unit_lawful (change.Spend g) m u y l a is none there = absurd cc
new_unit_lawful (change.Ask found lev n) m u y l a is none there = absurd cc
new_unit_lawful (change.Start s v) m u y l a is none there = absurd cc
new_unit_lawful (change.Finish s v how) m u y l a is none there = absurd cc
new_unit_lawful (change.Place v base) m u y l a is none there = absurd cc
new_unit_lawful (change.Resolve v) m u y l a is none there = absurd cc
new_unit_lawful (change.Link v found) m u y l a is none there = absurd cc
new_unit_lawful (change.Emit v groups) m u y l a is none there = absurd cc
new_unit_lawful (change.Fail v) m u y l a is none there = absurd cc
new_unit_lawful (change.Move t to) m u y l a is none there = absurd cc
new_unit_lawful (change.Remove t) m u y l a is none there = absurd cc
new_unit_lawful (change.LetGo s v) m u y l a is none there = absurd cc

pub lawful_changed : (c : Change Meaning) (m : Plain) → HandsInLawful c → AllLawful m → AllLawful (changed c m)
lawful_changed c m l a = record {
  units = λ u y t. split u y t (change_fields m c u y t);
  generators = generators_stay c m l a.generators;
}
  where
    split : (u : ℕ) (y : UnitRow) → slice_get (changed c m).units u ≡ Some y → ((x : UnitRow) × (slice_get m.units u ≡ Some x) × HasFields m c u x y) ⊎ IsNew m c u y → IsLawful y.meaning
    split u y t (inl p) = subst IsLawful (sym p.2.meaning) (a.units u p.0 p.1)
    split u y t (inr p) = new_unit_lawful c m u y l a.generators p.0 p.1 t

pub lawful_settled : (m : Plain) → AllLawful m → AllLawful (settled m)
lawful_settled m a = record {
  units = λ u y t. let x = settled_fields m u y t in subst IsLawful (sym x.2.meaning) (a.units u x.0 x.1);
  generators = subst AllGood (sym same) a.generators;
}
  where
    same : (settled m).generators ≡ m.generators
    same = settling_keeps (λ n. n.generators ≡ m.generators) (λ u k q n e w met its. e) 0 m.queries m refl
