-- Trackers that are made and moved, and what is added to one.
use Rattle.std.proofs.Common.{◌≡◌, ℕ, ◌+◌, ◌<◌, ◌≤◌, ◌⊎◌, inl, inr, false, List, [], ◌∷◌, ◌++◌, length, slice_get, Option, Some, None, option_map, refl, ap, sym, subst, ◌∙◌, arith}
use Rattle.std.specs.Prelude.{◌==◌, is_none}
use Rattle.std.specs.Option.{option_map_or}
use Rattle.std.proofs.lemmas.Bool.{cases_eq, cases_lt, ne_eqb}
use Rattle.std.proofs.lemmas.Option.{none-some, same_Some}
use Rattle.std.proofs.lemmas.List.{length-append}
use Rattle.orc_ids.specs.declared.ids.DylibId.{DylibId}
use Rattle.session_model.specs.Meaning.{Meaning}
use Rattle.session_model.specs.Plain.{UnitRow, GenRow}
use Rattle.session_model.specs.declared.rows.Track.{Track}
use Rattle.session_laws.proofs.Declared.{element_below, none_past, pushed_cases, appended_below, pushed_last}
use Rattle.generators.specs.declared.generator.Generator.{Generator}
use Rattle.mat_unit.specs.declared.unit.Unit.{Unit as OneUnit}
use Rattle.mat_unit.specs.Rows.{unit_row}
use Rattle.tracker.specs.declared.owned.Owned.{Owned}
use Rattle.tracker.specs.Owners.{Owners, within, with_tracker, empty}
use Rattle.session_parts.specs.Units.{tracker_at, AreUnits, IsOwned, AreOwners}
use Rattle.session_parts.specs.Tied.{AreGenerators}

-- Made

-- more trackers leave those that are there
abbrev pub GrowsBy : List Track → List Track → Type 0
GrowsBy old new = (length old ≤ length new) × ((t : ℕ) → t < length old → slice_get new t ≡ slice_get old t)

pub units_grow : {U : Type 0} (means : U → Meaning) (kept : List (OneUnit U)) (units : List UnitRow) (old new : List Track) → GrowsBy old new → AreUnits means kept units old → AreUnits means kept units new
units_grow {U} means kept units old new g a = record {
  count = a.count;
  rows = a.rows;
  tracked = λ u x t. omega (arith, g.0, a.tracked u x t);
  dylibs = λ u x t. a.dylibs u x t ∙ ap (λ (o : Option Track). option_map_or (λ (y : Track). y.dylib) o 0) (sym (g.1 (tracker_at units u) (below u x t)));
  readied = a.readied;
}
  where
    below : (u : ℕ) (x : OneUnit U) → slice_get kept u ≡ Some x → tracker_at units u < length old
    below u x t = let e = a.rows u ∙ ap (option_map (unit_row means (tracker_at units u))) t in
        a.tracked u (unit_row means (tracker_at units u) x) e

pub generators_grow : {U : Type 0} (means : U → Meaning) (kept : List (Generator U)) (generators : List GenRow) (old new : List Track) → length old ≤ length new → AreGenerators means kept generators old → AreGenerators means kept generators new
generators_grow means kept generators old new b a = record { count = a.count; rows = a.rows; tracked = λ g x t. omega (arith, b, a.tracked g x t) }

pub pushed_grows : (trackers : List Track) (x : Track) → GrowsBy trackers (trackers ++ x ∷ [])
pushed_grows trackers x = (omega (arith, length-append trackers (x ∷ [])), λ t b. appended_below trackers (x ∷ []) t b)

none_owned : {X : Type 0} (p : X → ℕ) (xs : List X) (t : ℕ) → ((i : ℕ) (x : X) → slice_get xs i ≡ Some x → p x < t) → (i : ℕ) → option_map_or (λ x. p x == t) (slice_get xs i) false ≡ false
none_owned {X} p xs t below i = split (slice_get xs i) refl
  where
    split : (o : Option X) → slice_get xs i ≡ o → option_map_or (λ x. p x == t) o false ≡ false
    split None e = refl
    split (Some x) e = ne_eqb (p x) t (λ s. absurd (omega (arith, s, below i x e)))

-- one more tracker owns nothing
pub owners_make : (owners : Owners) (trackers : List Track) (units : List UnitRow) (generators : List GenRow) (d : DylibId) → ((u : ℕ) (x : UnitRow) → slice_get units u ≡ Some x → x.tracker < length trackers) → ((g : ℕ) (x : GenRow) → slice_get generators g ≡ Some x → x.tracker < length trackers) →
    AreOwners owners trackers units generators → AreOwners (with_tracker owners d) (trackers ++ record { dylib = d.0; gone = false } ∷ []) units generators
owners_make owners trackers units generators d us gs a = record {
  count = length-append owners.tracks (Some (empty d) ∷ []) ∙ (ap (λ n. n + 1) a.count ∙ sym (length-append trackers (new ∷ [])));
  gone = λ t x e. gone t x (pushed_cases trackers new t x e);
  dylibs = λ t x o e f. dylibs t x o (pushed_cases trackers new t x e) f;
  owned = λ t o e. owned t o (cases_eq t (length trackers)) e;
}
  where
    new : Track
    new = record { dylib = d.0; gone = false }

    last : slice_get (owners.tracks ++ Some (empty d) ∷ []) (length trackers) ≡ Some (Some (empty d))
    last = subst (λ n. slice_get (owners.tracks ++ Some (empty d) ∷ []) n ≡ Some (Some (empty d))) a.count (pushed_last owners.tracks (Some (empty d)))

    front : (t : ℕ) → t < length trackers → slice_get (owners.tracks ++ Some (empty d) ∷ []) t ≡ slice_get owners.tracks t
    front t b = appended_below owners.tracks (Some (empty d) ∷ []) t (omega (arith, b, a.count))

    gone : (t : ℕ) (x : Track) → (slice_get trackers t ≡ Some x) ⊎ ((t ≡ length trackers) × (x ≡ new)) → is_none (within (slice_get (owners.tracks ++ Some (empty d) ∷ []) t)) ≡ x.gone
    gone t x (inl e) = ap (λ o. is_none (within o)) (front t (element_below trackers t x e)) ∙ a.gone t x e
    gone t x (inr e) = ap (λ n. is_none (within (slice_get (owners.tracks ++ Some (empty d) ∷ []) n))) e.0 ∙ (ap (λ o. is_none (within o)) last ∙ sym (ap (λ (y : Track). y.gone) e.1))

    dylibs : (t : ℕ) (x : Track) (o : Owned) → (slice_get trackers t ≡ Some x) ⊎ ((t ≡ length trackers) × (x ≡ new)) → within (slice_get (owners.tracks ++ Some (empty d) ∷ []) t) ≡ Some o → o.dylib.0 ≡ x.dylib
    dylibs t x o (inl e) f = a.dylibs t x o e (ap within (sym (front t (element_below trackers t x e))) ∙ f)
    dylibs t x o (inr e) f = ap (λ (y : Owned). y.dylib.0) (same_Some o (empty d) (sym f ∙ (ap (λ n. within (slice_get (owners.tracks ++ Some (empty d) ∷ []) n)) e.0 ∙ ap within last))) ∙ sym (ap (λ (y : Track). y.dylib) e.1)

    owned : (t : ℕ) (o : Owned) → (t ≡ length trackers) ⊎ (t ≡ length trackers → ⊥) → within (slice_get (owners.tracks ++ Some (empty d) ∷ []) t) ≡ Some o → IsOwned units generators t o
    owned t o (inl e) f = subst (IsOwned units generators t) (sym (same_Some o (empty d) (sym f ∙ (ap (λ n. within (slice_get (owners.tracks ++ Some (empty d) ∷ []) n)) e ∙ ap within last))))
        (record {
          units_are = λ u. sym (none_owned (λ (x : UnitRow). x.tracker) units t (λ i x s. omega (arith, e, us i x s)) u);
          generators_are = λ g. sym (none_owned (λ (x : GenRow). x.tracker) generators t (λ i x s. omega (arith, e, gs i x s)) g);
        })
    owned t o (inr n) f = a.owned t o (there (slice_get owners.tracks t) refl)
      where
        there : (p : Option (Option Owned)) → slice_get owners.tracks t ≡ p → within (slice_get owners.tracks t) ≡ Some o
        there (Some p) e = ap within (sym (appended_below owners.tracks (Some (empty d) ∷ []) t (element_below owners.tracks t p e))) ∙ f
        there None e = absurd (past (cases_lt t (length trackers)))
          where
            past : (t < length trackers) ⊎ (length trackers ≤ t) → ⊥
            past (inl b) = none-some o (sym (ap within e) ∙ (ap within (sym (front t b)) ∙ f))
            past (inr b) = none-some o (sym (ap within (none_past (owners.tracks ++ Some (empty d) ∷ []) t (omega (arith, a.count, b, n_ne, length-append owners.tracks (Some (empty d) ∷ []))))) ∙ f)
              where
                n_ne : length trackers < t
                n_ne = strict (cases_lt (length trackers) t)
                  where
                    strict : (length trackers < t) ⊎ (t ≤ length trackers) → length trackers < t
                    strict (inl c) = c
                    strict (inr c) = absurd (n (omega (arith, b, c)))
