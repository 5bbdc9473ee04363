-- One unit is changed.
use Rattle.std.proofs.Common.{◌≡◌, ℕ, ◌<◌, ◌⊎◌, inl, inr, false, List, length, slice_get, Option, Some, None, option_map, refl, ap, sym, subst, ◌∙◌}
use Rattle.std.specs.Prelude.{◌==◌}
use Rattle.std.specs.Option.{option_map_or}
use Rattle.std.proofs.lemmas.Bool.{cases_eq}
use Rattle.session_model.specs.Lists.{changed_at}
use Rattle.session_model.specs.Meaning.{Meaning}
use Rattle.session_model.specs.Plain.{UnitRow, GenRow}
use Rattle.session_model.specs.declared.rows.Track.{Track}
use Rattle.session_laws.proofs.Declared.{changed_there, changed_elsewhere, changed_length, changed_cases}
use Rattle.mat_unit.specs.declared.unit.Unit.{Unit as OneUnit}
use Rattle.mat_unit.specs.Rows.{unit_row}
use Rattle.tracker.specs.Owners.{Owners}
use Rattle.session_parts.specs.Units.{tracker_at, dylib_at, IsReadied, AreUnits, AreOwners}

-- what the change keeps of one keeps it of all
pub kept_by : {X Y : Type 0} (p : X → Y) (d : Y) (u : ℕ) (f : X → X) (xs : List X) → ((x : X) → p (f x) ≡ p x) → (v : ℕ) → option_map_or p (slice_get (changed_at u f xs) v) d ≡ option_map_or p (slice_get xs v) d
kept_by {X} {Y} p d u f xs h v = split (cases_eq v u)
  where
    one : (o : Option X) → option_map_or p (option_map f o) d ≡ option_map_or p o d
    one None = refl
    one (Some x) = h x

    split : (v ≡ u) ⊎ (v ≡ u → ⊥) → option_map_or p (slice_get (changed_at u f xs) v) d ≡ option_map_or p (slice_get xs v) d
    split (inl e) = subst (λ n. option_map_or p (slice_get (changed_at u f xs) n) d ≡ option_map_or p (slice_get xs n) d) (sym e) (ap (λ o. option_map_or p o d) (changed_there u f xs) ∙ one (slice_get xs u))
    split (inr n) = ap (λ o. option_map_or p o d) (changed_elsewhere u f xs v n)

-- how a change of a unit goes with one of its row
pub record GoesWith {U : Type 0} (means : U → Meaning) (f : OneUnit U → OneUnit U) (g : UnitRow → UnitRow) : Type 0 where
  pub row : (t : ℕ) (x : OneUnit U) → unit_row means t (f x) ≡ g (unit_row means t x)
  pub tracker : (x : UnitRow) → (g x).tracker ≡ x.tracker
  pub dylib : (x : OneUnit U) → (f x).dylib ≡ x.dylib

pub unit_changed : {U : Type 0} (means : U → Meaning) (kept : List (OneUnit U)) (units : List UnitRow) (trackers : List Track) (u : ℕ) (f : OneUnit U → OneUnit U) (g : UnitRow → UnitRow) → GoesWith means f g →
    ((x : OneUnit U) → slice_get kept u ≡ Some x → IsReadied means x → IsReadied means (f x)) → AreUnits means kept units trackers → AreUnits means (changed_at u f kept) (changed_at u g units) trackers
unit_changed {U} means kept units trackers u f g c readied a = record {
  count = changed_length u f kept ∙ (a.count ∙ sym (changed_length u g units));
  rows = λ v. rows v (cases_eq v u);
  tracked = λ v y t. tracked v y (changed_cases u g units v y t);
  dylibs = λ v y t. dylibs v y (changed_cases u f kept v y t);
  readied = λ v y t. still v y (changed_cases u f kept v y t);
}
  where
    trackers_stay : (v : ℕ) → tracker_at (changed_at u g units) v ≡ tracker_at units v
    trackers_stay v = kept_by (λ x. x.tracker) 0 u g units c.tracker v

    one : (t : ℕ) (o : Option (OneUnit U)) → option_map g (option_map (unit_row means t) o) ≡ option_map (unit_row means t) (option_map f o)
    one t None = refl
    one t (Some x) = ap Some (sym (c.row t x))

    rows : (v : ℕ) → (v ≡ u) ⊎ (v ≡ u → ⊥) → slice_get (changed_at u g units) v ≡ option_map (unit_row means (tracker_at (changed_at u g units) v)) (slice_get (changed_at u f kept) v)
    rows v (inl e) = subst (λ n. slice_get (changed_at u g units) n ≡ option_map (unit_row means (tracker_at (changed_at u g units) n)) (slice_get (changed_at u f kept) n)) (sym e)
        (changed_there u g units ∙ ap (option_map g) (a.rows u) ∙ one (tracker_at units u) (slice_get kept u)
        ∙ ap (λ t. option_map (unit_row means t) (option_map f (slice_get kept u))) (sym (trackers_stay u))
        ∙ ap (option_map (unit_row means (tracker_at (changed_at u g units) u))) (sym (changed_there u f kept)))
    rows v (inr n) = changed_elsewhere u g units v n ∙ a.rows v
        ∙ ap (λ t. option_map (unit_row means t) (slice_get kept v)) (sym (trackers_stay v))
        ∙ ap (option_map (unit_row means (tracker_at (changed_at u g units) v))) (sym (changed_elsewhere u f kept v n))

    tracked : (v : ℕ) (y : UnitRow) → ((v ≡ u) × ((x : UnitRow) × (slice_get units v ≡ Some x) × (y ≡ g x))) ⊎ ((v ≡ u → ⊥) × (slice_get units v ≡ Some y)) → y.tracker < length trackers
    tracked v y (inl e) = subst (λ n. n < length trackers) (sym (ap (λ (z : UnitRow). z.tracker) e.1.2 ∙ c.tracker e.1.0)) (a.tracked v e.1.0 e.1.1)
    tracked v y (inr e) = a.tracked v y e.1

    dylibs : (v : ℕ) (y : OneUnit U) → ((v ≡ u) × ((x : OneUnit U) × (slice_get kept v ≡ Some x) × (y ≡ f x))) ⊎ ((v ≡ u → ⊥) × (slice_get kept v ≡ Some y)) → y.dylib.0 ≡ dylib_at trackers (tracker_at (changed_at u g units) v)
    dylibs v y (inl e) = ap (λ (z : OneUnit U). z.dylib.0) e.1.2 ∙ (ap (λ d. d.0) (c.dylib e.1.0) ∙ (a.dylibs v e.1.0 e.1.1 ∙ ap (dylib_at trackers) (sym (trackers_stay v))))
    dylibs v y (inr e) = a.dylibs v y e.1 ∙ ap (dylib_at trackers) (sym (trackers_stay v))

    still : (v : ℕ) (y : OneUnit U) → ((v ≡ u) × ((x : OneUnit U) × (slice_get kept v ≡ Some x) × (y ≡ f x))) ⊎ ((v ≡ u → ⊥) × (slice_get kept v ≡ Some y)) → IsReadied means y
    still v y (inl e) = subst (IsReadied means) (sym e.1.2) (readied e.1.0 (ap (slice_get kept) (sym e.0) ∙ e.1.1) (a.readied v e.1.0 e.1.1))
    still v y (inr e) = a.readied v y e.1

-- each unit and each generator keeps its tracker
abbrev pub KeepTrackers : List UnitRow → List UnitRow → Type 0
KeepTrackers old new = (u t : ℕ) → option_map_or (λ x. x.tracker == t) (slice_get new u) false ≡ option_map_or (λ x. x.tracker == t) (slice_get old u) false

pub owners_stay : (owners : Owners) (trackers : List Track) (old new : List UnitRow) (generators : List GenRow) → KeepTrackers old new → AreOwners owners trackers old generators → AreOwners owners trackers new generators
owners_stay owners trackers old new generators keep a = record {
  count = a.count;
  gone = a.gone;
  dylibs = a.dylibs;
  owned = λ t o e. let p = a.owned t o e in record { units_are = λ u. p.units_are u ∙ sym (keep u t); generators_are = p.generators_are };
}

pub change_keeps : (u : ℕ) (g : UnitRow → UnitRow) (units : List UnitRow) → ((x : UnitRow) → (g x).tracker ≡ x.tracker) → KeepTrackers units (changed_at u g units)
change_keeps u g units h v t = kept_by (λ (x : UnitRow). x.tracker == t) false u g units (λ x. ap (λ n. n == t) (h x)) v
