-- A tracker is removed, with all that it owns.
use Rattle.std.proofs.Common.{◌≡◌, ℕ, ◌<◌, ◌≤◌, ◌⊎◌, inl, inr, Bool, true, false, ◌||◌, List, [], ◌∷◌, length, map, slice_get, Option, Some, None, option_map, refl, ap, sym, subst, ◌∙◌, arith, zero, suc}
use Rattle.std.specs.Bool.{if◌then◌else◌}
use Rattle.std.specs.Prelude.{◌==◌, set, is_none}
use Rattle.std.specs.Option.{option_map_or}
use Rattle.std.proofs.lemmas.Bool.{cases_eq, both_ways}
use Rattle.std.proofs.lemmas.Option.{none-some}
use Rattle.list_laws.proofs.Options.{not_there}
use Rattle.list_laws.proofs.Lists.{lengths_from}
use Rattle.orc_ids.specs.declared.ids.GenId.{GenId}
use Rattle.orc_ids.specs.declared.ids.TrackId.{TrackId}
use Rattle.orc_ids.specs.declared.ids.UnitId.{UnitId}
use Rattle.session_model.specs.Lists.{changed_at}
use Rattle.session_model.specs.Meaning.{Meaning}
use Rattle.session_model.specs.Plain.{UnitRow, GenRow}
use Rattle.session_model.specs.Change.{removed_unit, removed_generator, gone_tracker}
use Rattle.session_model.specs.declared.rows.Track.{Track}
use Rattle.session_model.specs.declared.rows.UnitPhase.TheVariants as stage
use Rattle.session_laws.proofs.Declared.{changed_length, changed_cases, mapped_at, mapped_length, mapped_parts, map_parts, none_past}
use Rattle.code_memory.specs.Places.{placement_of}
use Rattle.code_memory.specs.declared.placement.Placement.{Placement}
use Rattle.generators.specs.declared.generator.Generator.{Generator}
use Rattle.generators.specs.Rows.{gen_row}
use Rattle.mat_unit.specs.declared.unit.Unit.{Unit as OneUnit}
use Rattle.mat_unit.specs.Changes as one
use Rattle.mat_unit.specs.Rows.{unit_row}
use Rattle.tracker.specs.declared.owned.Owned.{Owned}
use Rattle.tracker.specs.Owners.{Owners, within, without}
use Rattle.session_parts.specs.Units.{tracker_at, dylib_at, IsReadied, AreUnits, IsOwned, AreOwners}
use Rattle.session_parts.specs.Stored.{IsStored, AreStored}
use Rattle.session_parts.specs.Tied.{AreGenerators, generator_tracker}
use Rattle.session_parts.specs.Removed.{goes, goes_too, AreRemoved, AreFreed, AreSpent}
use Rattle.session_parts.proofs.UnitChanges.{kept_by}
use Rattle.session_parts.proofs.Storing.{unbased}

-- what goes is what the tracker owned
abbrev pub GoesAs : (ℕ → Bool) → List UnitRow → ℕ → Type 0
GoesAs gone units t = (u : ℕ) → gone u ≡ option_map_or (λ (x : UnitRow). x.tracker == t) (slice_get units u) false

pub dylib_stays : (trackers : List Track) (t v : ℕ) → dylib_at (changed_at t gone_tracker trackers) v ≡ dylib_at trackers v
dylib_stays trackers t v = kept_by (λ (y : Track). y.dylib) 0 t gone_tracker trackers (λ x. refl) v

tracker_stays : (units : List UnitRow) (t u : ℕ) → tracker_at (map (removed_unit t) units) u ≡ tracker_at units u
tracker_stays units t u = ap (λ o. option_map_or (λ (x : UnitRow). x.tracker) o 0) (mapped_at (removed_unit t) units u) ∙ one (slice_get units u)
  where
    one : (o : Option UnitRow) → option_map_or (λ (x : UnitRow). x.tracker) (option_map (removed_unit t) o) 0 ≡ option_map_or (λ (x : UnitRow). x.tracker) o 0
    one None = refl
    one (Some x) = refl

-- a unit's row after the removal
removed_row_is : {U : Type 0} (means : U → Meaning) (t v : ℕ) (b : Bool) (x : OneUnit U) → (v == t) ≡ b → removed_unit t (unit_row means v x) ≡ unit_row means v (if b then one.removed x else x)
removed_row_is means t v true x e = ap (λ c. record (unit_row means v x) { phase = if c then stage.Defunct else x.phase; base = if c then None else x.base }) e
removed_row_is means t v false x e = ap (λ c. record (unit_row means v x) { phase = if c then stage.Defunct else x.phase; base = if c then None else x.base }) e

pub units_removed : {U : Type 0} (means : U → Meaning) (old new : List (OneUnit U)) (units : List UnitRow) (trackers : List Track) (t : ℕ) (gone : List UnitId) → GoesAs (goes gone) units t → AreRemoved gone old new → AreUnits means old units trackers →
    AreUnits means new (map (removed_unit t) units) (changed_at t gone_tracker trackers)
units_removed {U} means old new units trackers t gone its removed a = record {
  count = lengths_from old new (λ u x. if goes gone u then one.removed x else x) removed ∙ (a.count ∙ sym (mapped_length (removed_unit t) units));
  rows = λ u. rows u (slice_get old u) refl;
  tracked = λ u y e. let p = mapped_parts (removed_unit t) units u y e in subst (λ l. y.tracker < l) (sym (changed_length t gone_tracker trackers)) (subst (λ (z : UnitRow). z.tracker < length trackers) (sym p.2) (a.tracked u p.0 p.1));
  dylibs = λ u y e. let p = before u y e in
      dylib_same (goes gone u) p.0 y p.2 ∙ (a.dylibs u p.0 p.1 ∙ (ap (dylib_at trackers) (sym (tracker_stays units t u)) ∙ sym (dylib_stays trackers t (tracker_at (map (removed_unit t) units) u))));
  readied = λ u y e. let p = before u y e in subst (IsReadied means) (sym p.2) (still (goes gone u) p.0 (a.readied u p.0 p.1));
}
  where
    before : (u : ℕ) (y : OneUnit U) → slice_get new u ≡ Some y → (x : OneUnit U) × (slice_get old u ≡ Some x) × (y ≡ (if goes gone u then one.removed x else x))
    before u y e = map_parts (λ (x : OneUnit U). if goes gone u then one.removed x else x) (slice_get old u) y (sym (removed u) ∙ e)

    dylib_same : (b : Bool) (x y : OneUnit U) → y ≡ (if b then one.removed x else x) → y.dylib.0 ≡ x.dylib.0
    dylib_same true x y e = ap (λ (z : OneUnit U). z.dylib.0) e
    dylib_same false x y e = ap (λ (z : OneUnit U). z.dylib.0) e

    still : (b : Bool) (x : OneUnit U) → IsReadied means x → IsReadied means (if b then one.removed x else x)
    still true x r = record { flags = r.flags; starts = λ h. absurd cc; finishes = λ h. absurd (both_ways false refl h) }
    still false x r = r

    rows : (u : ℕ) (o : Option (OneUnit U)) → slice_get old u ≡ o → slice_get (map (removed_unit t) units) u ≡ option_map (unit_row means (tracker_at (map (removed_unit t) units) u)) (slice_get new u)
    rows u None e = mapped_at (removed_unit t) units u ∙ (ap (option_map (removed_unit t)) (a.rows u ∙ ap (option_map (unit_row means (tracker_at units u))) e) ∙ sym (ap (option_map (unit_row means (tracker_at (map (removed_unit t) units) u))) (removed u ∙ ap (option_map (λ (x : OneUnit U). if goes gone u then one.removed x else x)) e)))
    rows u (Some x) e = mapped_at (removed_unit t) units u ∙ (ap (option_map (removed_unit t)) there
        ∙ (ap Some (removed_row_is means t (tracker_at units u) (goes gone u) x (sym (its u ∙ ap (λ o. option_map_or (λ (y : UnitRow). y.tracker == t) o false) there)))
        ∙ (ap (λ v. Some (unit_row means v (if goes gone u then one.removed x else x))) (sym (tracker_stays units t u))
        ∙ sym (ap (option_map (unit_row means (tracker_at (map (removed_unit t) units) u))) (removed u ∙ ap (option_map (λ (x : OneUnit U). if goes gone u then one.removed x else x)) e)))))
      where
        there : slice_get units u ≡ Some (unit_row means (tracker_at units u) x)
        there = a.rows u ∙ ap (option_map (unit_row means (tracker_at units u))) e

generator_tracker_stays : (generators : List GenRow) (t g : ℕ) → generator_tracker (map (removed_generator t) generators) g ≡ generator_tracker generators g
generator_tracker_stays generators t g = ap (λ o. option_map_or (λ (x : GenRow). x.tracker) o 0) (mapped_at (removed_generator t) generators g) ∙ one (slice_get generators g)
  where
    one : (o : Option GenRow) → option_map_or (λ (x : GenRow). x.tracker) (option_map (removed_generator t) o) 0 ≡ option_map_or (λ (x : GenRow). x.tracker) o 0
    one None = refl
    one (Some x) = refl

spent_row_is : {U : Type 0} (means : U → Meaning) (t v : ℕ) (b : Bool) (x : Generator U) → (v == t) ≡ b → removed_generator t (gen_row means v x) ≡ gen_row means v (if b then record x { spent = true } else x)
spent_row_is means t v true x e = ap (λ c. record (gen_row means v x) { spent = x.spent || c }) e ∙ ap (λ c. record (gen_row means v x) { spent = c }) (or_true x.spent)
  where
    or_true : (b : Bool) → (b || true) ≡ true
    or_true true = refl
    or_true false = refl
spent_row_is means t v false x e = ap (λ c. record (gen_row means v x) { spent = x.spent || c }) e ∙ ap (λ c. record (gen_row means v x) { spent = c }) (or_false x.spent)
  where
    or_false : (b : Bool) → (b || false) ≡ b
    or_false true = refl
    or_false false = refl

pub generators_removed : {U : Type 0} (means : U → Meaning) (old new : List (Generator U)) (generators : List GenRow) (trackers : List Track) (t : ℕ) (gone : List GenId) →
    ((g : ℕ) → goes_too gone g ≡ option_map_or (λ (x : GenRow). x.tracker == t) (slice_get generators g) false) → AreSpent gone old new → AreGenerators means old generators trackers →
    AreGenerators means new (map (removed_generator t) generators) (changed_at t gone_tracker trackers)
generators_removed {U} means old new generators trackers t gone its spent a = record {
  count = lengths_from old new (λ g x. if goes_too gone g then record x { spent = true } else x) spent ∙ (a.count ∙ sym (mapped_length (removed_generator t) generators));
  rows = λ g. rows g (slice_get old g) refl;
  tracked = λ g y e. let p = mapped_parts (removed_generator t) generators g y e in subst (λ l. y.tracker < l) (sym (changed_length t gone_tracker trackers)) (subst (λ (z : GenRow). z.tracker < length trackers) (sym p.2) (a.tracked g p.0 p.1));
}
  where
    rows : (g : ℕ) (o : Option (Generator U)) → slice_get old g ≡ o → slice_get (map (removed_generator t) generators) g ≡ option_map (gen_row means (generator_tracker (map (removed_generator t) generators) g)) (slice_get new g)
    rows g None e = mapped_at (removed_generator t) generators g ∙ (ap (option_map (removed_generator t)) (a.rows g ∙ ap (option_map (gen_row means (generator_tracker generators g))) e) ∙ sym (ap (option_map (gen_row means (generator_tracker (map (removed_generator t) generators) g))) (spent g ∙ ap (option_map (λ (x : Generator U). if goes_too gone g then record x { spent = true } else x)) e)))
    rows g (Some x) e = mapped_at (removed_generator t) generators g ∙ (ap (option_map (removed_generator t)) there
        ∙ (ap Some (spent_row_is means t (generator_tracker generators g) (goes_too gone g) x (sym (its g ∙ ap (λ o. option_map_or (λ (y : GenRow). y.tracker == t) o false) there)))
        ∙ (ap (λ v. Some (gen_row means v (if goes_too gone g then record x { spent = true } else x))) (sym (generator_tracker_stays generators t g))
        ∙ sym (ap (option_map (gen_row means (generator_tracker (map (removed_generator t) generators) g))) (spent g ∙ ap (option_map (λ (x : Generator U). if goes_too gone g then record x { spent = true } else x)) e)))))
      where
        there : slice_get generators g ≡ Some (gen_row means (generator_tracker generators g) x)
        there = a.rows g ∙ ap (option_map (gen_row means (generator_tracker generators g))) e

-- Memory

pub memory_removed : (old new : List Placement) (units : List UnitRow) (t : ℕ) (gone : List UnitId) → GoesAs (goes gone) units t → AreFreed gone old new → AreStored units old → AreStored (map (removed_unit t) units) new
memory_removed old new units t gone its freed s = record { each = each; others = others }
  where
    each : (u : ℕ) (y : UnitRow) → slice_get (map (removed_unit t) units) u ≡ Some y → IsStored new u y
    each u y e = let p = mapped_parts (removed_unit t) units u y e in
        subst (IsStored new u) (sym p.2) (split p.0 (s.each u p.0 p.1) (p.0.tracker == t) refl (its u ∙ ap (λ o. option_map_or (λ (x : UnitRow). x.tracker == t) o false) p.1))
      where
        split : (x : UnitRow) → IsStored old u x → (b : Bool) → (x.tracker == t) ≡ b → goes gone u ≡ (x.tracker == t) → IsStored new u (removed_unit t x)
        split x before true c g = subst (λ b. IsStored new u (record x { phase = if b then stage.Defunct else x.phase; base = if b then None else x.base })) (sym c) (record {
          range = freed u ∙ (ap (λ b. if b then None else placement_of old (record { 0 = u })) (g ∙ c) ∙ sym (unbased u (record x { phase = stage.Defunct; base = None }) refl));
          based = λ a h. absurd (not_there {X = ℕ} None refl h);
          placed = λ h a. absurd (both_ways false refl h);
        })
        split x before false c g = subst (λ b. IsStored new u (record x { phase = if b then stage.Defunct else x.phase; base = if b then None else x.base })) (sym c) (record {
          range = freed u ∙ (ap (λ b. if b then None else placement_of old (record { 0 = u })) (g ∙ c) ∙ before.range);
          based = before.based;
          placed = before.placed;
        })

    others : (u : ℕ) → length (map (removed_unit t) units) ≤ u → placement_of new (record { 0 = u }) ≡ None
    others u b = freed u ∙ (ap (λ c. if c then None else placement_of old (record { 0 = u })) (its u ∙ ap (λ o. option_map_or (λ (x : UnitRow). x.tracker == t) o false) (none_past units u past)) ∙ s.others u past)
      where
        past : length units ≤ u
        past = subst (λ n. n ≤ u) (mapped_length (removed_unit t) units) b

-- Owners

set_there : {X : Type 0} (k : ℕ) (x : X) (xs : List X) → k < length xs → slice_get (set xs k x) k ≡ Some x
set_there k x [] b = absurd (omega (arith, b))
set_there zero x (y ∷ ys) b = refl
set_there (suc k) x (y ∷ ys) b = set_there k x ys (omega (arith, b))

set_elsewhere : {X : Type 0} (k : ℕ) (x : X) (xs : List X) (i : ℕ) → (i ≡ k → ⊥) → slice_get (set xs k x) i ≡ slice_get xs i
set_elsewhere k x [] i n = refl
set_elsewhere zero x (y ∷ ys) zero n = absurd (n refl)
set_elsewhere zero x (y ∷ ys) (suc i) n = refl
set_elsewhere (suc k) x (y ∷ ys) zero n = refl
set_elsewhere (suc k) x (y ∷ ys) (suc i) n = set_elsewhere k x ys i (λ e. n (ap suc e))

set_length : {X : Type 0} (k : ℕ) (x : X) (xs : List X) → length (set xs k x) ≡ length xs
set_length k x [] = refl
set_length zero x (y ∷ ys) = refl
set_length (suc k) x (y ∷ ys) = ap suc (set_length k x ys)

unit_test : (units : List UnitRow) (t u v : ℕ) → option_map_or (λ (x : UnitRow). x.tracker == v) (slice_get (map (removed_unit t) units) u) false ≡ option_map_or (λ (x : UnitRow). x.tracker == v) (slice_get units u) false
unit_test units t u v = ap (λ o. option_map_or (λ (x : UnitRow). x.tracker == v) o false) (mapped_at (removed_unit t) units u) ∙ one (slice_get units u)
  where
    one : (o : Option UnitRow) → option_map_or (λ (x : UnitRow). x.tracker == v) (option_map (removed_unit t) o) false ≡ option_map_or (λ (x : UnitRow). x.tracker == v) o false
    one None = refl
    one (Some x) = refl

generator_test : (generators : List GenRow) (t g v : ℕ) → option_map_or (λ (x : GenRow). x.tracker == v) (slice_get (map (removed_generator t) generators) g) false ≡ option_map_or (λ (x : GenRow). x.tracker == v) (slice_get generators g) false
generator_test generators t g v = ap (λ o. option_map_or (λ (x : GenRow). x.tracker == v) o false) (mapped_at (removed_generator t) generators g) ∙ one (slice_get generators g)
  where
    one : (o : Option GenRow) → option_map_or (λ (x : GenRow). x.tracker == v) (option_map (removed_generator t) o) false ≡ option_map_or (λ (x : GenRow). x.tracker == v) o false
    one None = refl
    one (Some x) = refl

pub owners_removed : (owners : Owners) (trackers : List Track) (units : List UnitRow) (generators : List GenRow) (t : TrackId) → t.0 < length trackers → AreOwners owners trackers units generators →
    AreOwners (without owners t) (changed_at t.0 gone_tracker trackers) (map (removed_unit t.0) units) (map (removed_generator t.0) generators)
owners_removed owners trackers units generators t b a = record {
  count = set_length t.0 None owners.tracks ∙ (a.count ∙ sym (changed_length t.0 gone_tracker trackers));
  gone = λ v y e. gone v y (changed_cases t.0 gone_tracker trackers v y e);
  dylibs = λ v y o e f. dylibs v y o (changed_cases t.0 gone_tracker trackers v y e) f;
  owned = λ v o f. owned v o (cases_eq v t.0) f;
}
  where
    there : within (slice_get (set owners.tracks t.0 None) t.0) ≡ None
    there = ap within (set_there t.0 None owners.tracks (omega (arith, b, a.count)))

    gone : (v : ℕ) (y : Track) → ((v ≡ t.0) × ((x : Track) × (slice_get trackers v ≡ Some x) × (y ≡ gone_tracker x))) ⊎ ((v ≡ t.0 → ⊥) × (slice_get trackers v ≡ Some y)) → is_none (within (slice_get (set owners.tracks t.0 None) v)) ≡ y.gone
    gone v y (inl e) = ap (λ n. is_none (within (slice_get (set owners.tracks t.0 None) n))) e.0 ∙ (ap is_none there ∙ sym (ap (λ (z : Track). z.gone) e.1.2))
    gone v y (inr e) = ap (λ o. is_none (within o)) (set_elsewhere t.0 None owners.tracks v e.0) ∙ a.gone v y e.1

    dylibs : (v : ℕ) (y : Track) (o : Owned) → ((v ≡ t.0) × ((x : Track) × (slice_get trackers v ≡ Some x) × (y ≡ gone_tracker x))) ⊎ ((v ≡ t.0 → ⊥) × (slice_get trackers v ≡ Some y)) → within (slice_get (set owners.tracks t.0 None) v) ≡ Some o → o.dylib.0 ≡ y.dylib
    dylibs v y o (inl e) f = absurd (none-some o (sym there ∙ (ap (λ n. within (slice_get (set owners.tracks t.0 None) n)) (sym e.0) ∙ f)))
    dylibs v y o (inr e) f = a.dylibs v y o e.1 (ap within (sym (set_elsewhere t.0 None owners.tracks v e.0)) ∙ f)

    owned : (v : ℕ) (o : Owned) → (v ≡ t.0) ⊎ (v ≡ t.0 → ⊥) → within (slice_get (set owners.tracks t.0 None) v) ≡ Some o → IsOwned (map (removed_unit t.0) units) (map (removed_generator t.0) generators) v o
    owned v o (inl e) f = absurd (none-some o (sym there ∙ (ap (λ n. within (slice_get (set owners.tracks t.0 None) n)) (sym e) ∙ f)))
    owned v o (inr n) f = let old = a.owned v o (ap within (sym (set_elsewhere t.0 None owners.tracks v n)) ∙ f) in record {
      units_are = λ w. old.units_are w ∙ sym (unit_test units t.0 w v);
      generators_are = λ w. old.generators_are w ∙ sym (generator_test generators t.0 w v);
    }
