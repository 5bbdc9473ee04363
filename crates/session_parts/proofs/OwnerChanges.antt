-- What a tracker gets, and what goes over from one to another.
use Rattle.std.proofs.Common.{◌≡◌, ℕ, zero, suc, ◌<◌, ◌≤◌, ◌⊎◌, inl, inr, Bool, true, false, ◌||◌, List, [], ◌∷◌, ◌++◌, length, map, slice_get, Option, Some, None, option_map, refl, ap, sym, subst, ◌∙◌, arith}
use Rattle.std.specs.Bool.{if◌then◌else◌}
use Rattle.std.specs.Prelude.{◌==◌, set, is_none}
use Rattle.std.specs.List.{list_any}
use Rattle.std.specs.Option.{option_map_or}
use Rattle.std.proofs.lemmas.Bool.{cases_eq, cases_lt, ne_eqb, eq-eqb}
use Rattle.std.proofs.lemmas.Option.{none-some}
use Rattle.std.proofs.lemmas.List.{length-append}
use Rattle.orc_ids.specs.declared.ids.GenId.{GenId}
use Rattle.orc_ids.specs.declared.ids.TrackId.{TrackId}
use Rattle.orc_ids.specs.declared.ids.UnitId.{UnitId}
use Rattle.session_model.specs.Lists.{changed_at}
use Rattle.session_model.specs.Meaning.{Meaning}
use Rattle.session_model.specs.Plain.{UnitRow, GenRow}
use Rattle.session_model.specs.Change.{gone_tracker, moved_unit, moved_generator}
use Rattle.session_model.specs.declared.rows.Track.{Track}
use Rattle.session_laws.proofs.Declared.{changed_length, changed_cases, mapped_at, mapped_length, mapped_parts, none_past, map_parts, appended_below, pushed_last}
use Rattle.generators.specs.declared.generator.Generator.{Generator}
use Rattle.generators.specs.Rows.{gen_row}
use Rattle.mat_unit.specs.declared.unit.Unit.{Unit as OneUnit}
use Rattle.mat_unit.specs.Rows.{unit_row}
use Rattle.tracker.specs.declared.owned.Owned.{Owned}
use Rattle.tracker.specs.Owners.{Owners, within, change_at, with_unit, with_generator, and_all_of}
use Rattle.session_parts.specs.Units.{tracker_at, dylib_at, AreUnits, IsOwned, AreOwners}
use Rattle.session_parts.specs.Tied.{AreGenerators, generator_tracker}
use Rattle.session_parts.proofs.Removed.{dylib_stays}

-- Lists of owners

pub any_append : {X : Type 0} (p : X → Bool) (xs ys : List X) → list_any p (xs ++ ys) ≡ (list_any p xs || list_any p ys)
any_append p [] ys = refl
any_append p (x ∷ xs) ys = ap (λ b. p x || b) (any_append p xs ys) ∙ assoc (p x) (list_any p xs) (list_any p ys)
  where
    assoc : (a b c : Bool) → (a || (b || c)) ≡ ((a || b) || c)
    assoc true b c = refl
    assoc false b c = refl

change_there : (k : ℕ) (f : Owned → Owned) (xs : List (Option Owned)) → within (slice_get (change_at k f xs) k) ≡ option_map f (within (slice_get xs k))
change_there k f [] = refl
change_there zero f (x ∷ xs) = refl
change_there (suc k) f (x ∷ xs) = change_there k f xs

change_elsewhere : (k : ℕ) (f : Owned → Owned) (xs : List (Option Owned)) (i : ℕ) → (i ≡ k → ⊥) → slice_get (change_at k f xs) i ≡ slice_get xs i
change_elsewhere k f [] i n = refl
change_elsewhere zero f (x ∷ xs) zero n = absurd (n refl)
change_elsewhere zero f (x ∷ xs) (suc i) n = refl
change_elsewhere (suc k) f (x ∷ xs) zero n = refl
change_elsewhere (suc k) f (x ∷ xs) (suc i) n = change_elsewhere k f xs i (λ e. n (ap suc e))

change_length : (k : ℕ) (f : Owned → Owned) (xs : List (Option Owned)) → length (change_at k f xs) ≡ length xs
change_length k f [] = refl
change_length zero f (x ∷ xs) = refl
change_length (suc k) f (x ∷ xs) = ap suc (change_length k f xs)

set_there : (k : ℕ) (x : Option Owned) (xs : List (Option Owned)) → k < length xs → slice_get (set xs k x) k ≡ Some x
set_there k x [] b = absurd (omega (arith, b))
set_there zero x (y ∷ ys) b = refl
set_there (suc k) x (y ∷ ys) b = set_there k x ys (omega (arith, b))

set_elsewhere : (k : ℕ) (x : Option Owned) (xs : List (Option Owned)) (i : ℕ) → (i ≡ k → ⊥) → slice_get (set xs k x) i ≡ slice_get xs i
set_elsewhere k x [] i n = refl
set_elsewhere zero x (y ∷ ys) zero n = absurd (n refl)
set_elsewhere zero x (y ∷ ys) (suc i) n = refl
set_elsewhere (suc k) x (y ∷ ys) zero n = refl
set_elsewhere (suc k) x (y ∷ ys) (suc i) n = set_elsewhere k x ys i (λ e. n (ap suc e))

set_length : (k : ℕ) (x : Option Owned) (xs : List (Option Owned)) → length (set xs k x) ≡ length xs
set_length k x [] = refl
set_length zero x (y ∷ ys) = refl
set_length (suc k) x (y ∷ ys) = ap suc (set_length k x ys)

none_mapped : (f : Owned → Owned) (o : Option Owned) → is_none (option_map f o) ≡ is_none o
none_mapped f None = refl
none_mapped f (Some x) = refl

-- One thing more

-- of the same tracker
own_added : {X : Type 0} (p : X → ℕ) (xs : List X) (x : X) (t : ℕ) (ids : ℕ → Bool) → ((i : ℕ) → ids i ≡ option_map_or (λ y. p y == t) (slice_get xs i) false) → p x ≡ t → (i : ℕ) → (ids i || (length xs == i)) ≡ option_map_or (λ y. p y == t) (slice_get (xs ++ x ∷ []) i) false
own_added {X} p xs x t ids h e i = split (cases_lt i (length xs))
  where
    or_false : (b : Bool) → (b || false) ≡ b
    or_false true = refl
    or_false false = refl

    split : (i < length xs) ⊎ (length xs ≤ i) → (ids i || (length xs == i)) ≡ option_map_or (λ y. p y == t) (slice_get (xs ++ x ∷ []) i) false
    split (inl b) = ap (λ c. ids i || c) (ne_eqb (length xs) i (λ s. absurd (omega (arith, s, b)))) ∙ or_false (ids i) ∙ h i ∙ ap (λ o. option_map_or (λ y. p y == t) o false) (sym (appended_below xs (x ∷ []) i b))
    split (inr b) = ap (λ c. c || (length xs == i)) (h i ∙ ap (λ o. option_map_or (λ y. p y == t) o false) (none_past xs i b)) ∙ past (cases_eq i (length xs))
      where
        past : (i ≡ length xs) ⊎ (i ≡ length xs → ⊥) → (length xs == i) ≡ option_map_or (λ y. p y == t) (slice_get (xs ++ x ∷ []) i) false
        past (inl s) = eq-eqb (length xs) i (sym s) ∙ sym (ap (λ n. option_map_or (λ y. p y == t) (slice_get (xs ++ x ∷ []) n) false) s ∙ (ap (λ o. option_map_or (λ y. p y == t) o false) (pushed_last xs x) ∙ eq-eqb (p x) t e))
        past (inr n) = ne_eqb (length xs) i (λ s. n (sym s)) ∙ sym (ap (λ o. option_map_or (λ y. p y == t) o false) (none_past (xs ++ x ∷ []) i (omega (arith, length-append xs (x ∷ []), after))))
          where
            after : length xs < i
            after = strict (cases_lt (length xs) i)
              where
                strict : (length xs < i) ⊎ (i ≤ length xs) → length xs < i
                strict (inl c) = c
                strict (inr c) = absurd (n (omega (arith, b, c)))

-- of another tracker
other_added : {X : Type 0} (p : X → ℕ) (xs : List X) (x : X) (t : ℕ) (ids : ℕ → Bool) → ((i : ℕ) → ids i ≡ option_map_or (λ y. p y == t) (slice_get xs i) false) → (p x ≡ t → ⊥) → (i : ℕ) → ids i ≡ option_map_or (λ y. p y == t) (slice_get (xs ++ x ∷ []) i) false
other_added {X} p xs x t ids h n i = split (cases_lt i (length xs))
  where
    split : (i < length xs) ⊎ (length xs ≤ i) → ids i ≡ option_map_or (λ y. p y == t) (slice_get (xs ++ x ∷ []) i) false
    split (inl b) = h i ∙ ap (λ o. option_map_or (λ y. p y == t) o false) (sym (appended_below xs (x ∷ []) i b))
    split (inr b) = h i ∙ ap (λ o. option_map_or (λ y. p y == t) o false) (none_past xs i b) ∙ sym (past (cases_eq i (length xs)))
      where
        past : (i ≡ length xs) ⊎ (i ≡ length xs → ⊥) → option_map_or (λ y. p y == t) (slice_get (xs ++ x ∷ []) i) false ≡ false
        past (inl s) = ap (λ n. option_map_or (λ y. p y == t) (slice_get (xs ++ x ∷ []) n) false) s ∙ (ap (λ o. option_map_or (λ y. p y == t) o false) (pushed_last xs x) ∙ ne_eqb (p x) t n)
        past (inr m) = ap (λ o. option_map_or (λ y. p y == t) o false) (none_past (xs ++ x ∷ []) i (omega (arith, length-append xs (x ∷ []), after)))
          where
            after : length xs < i
            after = strict (cases_lt (length xs) i)
              where
                strict : (length xs < i) ⊎ (i ≤ length xs) → length xs < i
                strict (inl c) = c
                strict (inr c) = absurd (m (omega (arith, b, c)))

or_false_end : (b c : Bool) → (b || (c || false)) ≡ (b || c)
or_false_end true c = refl
or_false_end false true = refl
or_false_end false false = refl

-- a unit that is added to its tracker
pub owners_with_unit : (owners : Owners) (trackers : List Track) (units : List UnitRow) (generators : List GenRow) (t : TrackId) (u : UnitId) (x : UnitRow) → u.0 ≡ length units → x.tracker ≡ t.0 → AreOwners owners trackers units generators → AreOwners (with_unit owners t u) trackers (units ++ x ∷ []) generators
owners_with_unit owners trackers units generators t u x at its a = record {
  count = change_length t.0 more owners.tracks ∙ a.count;
  gone = λ v y e. gone v (cases_eq v t.0) ∙ a.gone v y e;
  dylibs = λ v y o e f. dylibs v y o (cases_eq v t.0) e f;
  owned = λ v o f. owned v o (cases_eq v t.0) f;
}
  where
    more : Owned → Owned
    more o = record o { units = o.units ++ u ∷ [] }

    gone : (v : ℕ) → (v ≡ t.0) ⊎ (v ≡ t.0 → ⊥) → is_none (within (slice_get (change_at t.0 more owners.tracks) v)) ≡ is_none (within (slice_get owners.tracks v))
    gone v (inl e) = subst (λ n. is_none (within (slice_get (change_at t.0 more owners.tracks) n)) ≡ is_none (within (slice_get owners.tracks n))) (sym e) (ap is_none (change_there t.0 more owners.tracks) ∙ none_mapped more (within (slice_get owners.tracks t.0)))
    gone v (inr n) = ap (λ o. is_none (within o)) (change_elsewhere t.0 more owners.tracks v n)

    before : (o : Owned) → within (slice_get (change_at t.0 more owners.tracks) t.0) ≡ Some o → (p : Owned) × (within (slice_get owners.tracks t.0) ≡ Some p) × (o ≡ more p)
    before o f = map_parts more (within (slice_get owners.tracks t.0)) o (sym (change_there t.0 more owners.tracks) ∙ f)

    dylibs : (v : ℕ) (y : Track) (o : Owned) → (v ≡ t.0) ⊎ (v ≡ t.0 → ⊥) → slice_get trackers v ≡ Some y → within (slice_get (change_at t.0 more owners.tracks) v) ≡ Some o → o.dylib.0 ≡ y.dylib
    dylibs v y o (inl s) e f = let p = before o (ap (λ n. within (slice_get (change_at t.0 more owners.tracks) n)) (sym s) ∙ f) in
        ap (λ (q : Owned). q.dylib.0) p.2 ∙ a.dylibs t.0 y p.0 (ap (slice_get trackers) (sym s) ∙ e) p.1
    dylibs v y o (inr n) e f = a.dylibs v y o e (ap within (sym (change_elsewhere t.0 more owners.tracks v n)) ∙ f)

    owned : (v : ℕ) (o : Owned) → (v ≡ t.0) ⊎ (v ≡ t.0 → ⊥) → within (slice_get (change_at t.0 more owners.tracks) v) ≡ Some o → IsOwned (units ++ x ∷ []) generators v o
    owned v o (inl s) f = let p = before o (ap (λ n. within (slice_get (change_at t.0 more owners.tracks) n)) (sym s) ∙ f) in
        let old = a.owned t.0 p.0 p.1 in
        subst (λ n. IsOwned (units ++ x ∷ []) generators n o) (sym s) (subst (IsOwned (units ++ x ∷ []) generators t.0) (sym p.2) (record {
          units_are = λ w. any_append (λ (z : UnitId). z.0 == w) p.0.units (u ∷ []) ∙ (or_false_end (list_any (λ (z : UnitId). z.0 == w) p.0.units) (u.0 == w) ∙ (ap (λ n. list_any (λ (z : UnitId). z.0 == w) p.0.units || (n == w)) at
              ∙ own_added (λ (z : UnitRow). z.tracker) units x t.0 (λ i. list_any (λ (z : UnitId). z.0 == i) p.0.units) old.units_are its w));
          generators_are = old.generators_are;
        }))
    owned v o (inr n) f = let old = a.owned v o (ap within (sym (change_elsewhere t.0 more owners.tracks v n)) ∙ f) in record {
      units_are = other_added (λ (z : UnitRow). z.tracker) units x v (λ i. list_any (λ (z : UnitId). z.0 == i) o.units) old.units_are (λ e. n (sym e ∙ its));
      generators_are = old.generators_are;
    }

-- a generator that is added to its tracker
pub owners_with_generator : (owners : Owners) (trackers : List Track) (units : List UnitRow) (generators : List GenRow) (t : TrackId) (g : GenId) (x : GenRow) → g.0 ≡ length generators → x.tracker ≡ t.0 → AreOwners owners trackers units generators → AreOwners (with_generator owners t g) trackers units (generators ++ x ∷ [])
owners_with_generator owners trackers units generators t g x at its a = record {
  count = change_length t.0 more owners.tracks ∙ a.count;
  gone = λ v y e. gone v (cases_eq v t.0) ∙ a.gone v y e;
  dylibs = λ v y o e f. dylibs v y o (cases_eq v t.0) e f;
  owned = λ v o f. owned v o (cases_eq v t.0) f;
}
  where
    more : Owned → Owned
    more o = record o { generators = o.generators ++ g ∷ [] }

    gone : (v : ℕ) → (v ≡ t.0) ⊎ (v ≡ t.0 → ⊥) → is_none (within (slice_get (change_at t.0 more owners.tracks) v)) ≡ is_none (within (slice_get owners.tracks v))
    gone v (inl e) = subst (λ n. is_none (within (slice_get (change_at t.0 more owners.tracks) n)) ≡ is_none (within (slice_get owners.tracks n))) (sym e) (ap is_none (change_there t.0 more owners.tracks) ∙ none_mapped more (within (slice_get owners.tracks t.0)))
    gone v (inr n) = ap (λ o. is_none (within o)) (change_elsewhere t.0 more owners.tracks v n)

    before : (o : Owned) → within (slice_get (change_at t.0 more owners.tracks) t.0) ≡ Some o → (p : Owned) × (within (slice_get owners.tracks t.0) ≡ Some p) × (o ≡ more p)
    before o f = map_parts more (within (slice_get owners.tracks t.0)) o (sym (change_there t.0 more owners.tracks) ∙ f)

    dylibs : (v : ℕ) (y : Track) (o : Owned) → (v ≡ t.0) ⊎ (v ≡ t.0 → ⊥) → slice_get trackers v ≡ Some y → within (slice_get (change_at t.0 more owners.tracks) v) ≡ Some o → o.dylib.0 ≡ y.dylib
    dylibs v y o (inl s) e f = let p = before o (ap (λ n. within (slice_get (change_at t.0 more owners.tracks) n)) (sym s) ∙ f) in
        ap (λ (q : Owned). q.dylib.0) p.2 ∙ a.dylibs t.0 y p.0 (ap (slice_get trackers) (sym s) ∙ e) p.1
    dylibs v y o (inr n) e f = a.dylibs v y o e (ap within (sym (change_elsewhere t.0 more owners.tracks v n)) ∙ f)

    owned : (v : ℕ) (o : Owned) → (v ≡ t.0) ⊎ (v ≡ t.0 → ⊥) → within (slice_get (change_at t.0 more owners.tracks) v) ≡ Some o → IsOwned units (generators ++ x ∷ []) v o
    owned v o (inl s) f = let p = before o (ap (λ n. within (slice_get (change_at t.0 more owners.tracks) n)) (sym s) ∙ f) in
        let old = a.owned t.0 p.0 p.1 in
        subst (λ n. IsOwned units (generators ++ x ∷ []) n o) (sym s) (subst (IsOwned units (generators ++ x ∷ []) t.0) (sym p.2) (record {
          units_are = old.units_are;
          generators_are = λ w. any_append (λ (z : GenId). z.0 == w) p.0.generators (g ∷ []) ∙ (or_false_end (list_any (λ (z : GenId). z.0 == w) p.0.generators) (g.0 == w) ∙ (ap (λ n. list_any (λ (z : GenId). z.0 == w) p.0.generators || (n == w)) at
              ∙ own_added (λ (z : GenRow). z.tracker) generators x t.0 (λ i. list_any (λ (z : GenId). z.0 == i) p.0.generators) old.generators_are its w));
        }))
    owned v o (inr n) f = let old = a.owned v o (ap within (sym (change_elsewhere t.0 more owners.tracks v n)) ∙ f) in record {
      units_are = old.units_are;
      generators_are = other_added (λ (z : GenRow). z.tracker) generators x v (λ i. list_any (λ (z : GenId). z.0 == i) o.generators) old.generators_are (λ e. n (sym e ∙ its));
    }

-- Moves

moved_test : (a t to v : ℕ) → (t ≡ to → ⊥) → (v ≡ t → ⊥) → (v ≡ to → ⊥) → ((if a == t then to else a) == v) ≡ (a == v)
moved_test a t to v n vt vto = split (cases_eq a t)
  where
    split : (a ≡ t) ⊎ (a ≡ t → ⊥) → ((if a == t then to else a) == v) ≡ (a == v)
    split (inl e) = ap (λ b. (if b then to else a) == v) (eq-eqb a t e) ∙ (ne_eqb to v (λ s. vto (sym s)) ∙ sym (ne_eqb a v (λ s. vt (sym s ∙ e))))
    split (inr d) = ap (λ b. (if b then to else a) == v) (ne_eqb a t d)

moved_to_test : (a t to : ℕ) → ((if a == t then to else a) == to) ≡ ((a == to) || (a == t))
moved_to_test a t to = split (cases_eq a t)
  where
    or_true : (b : Bool) → (b || true) ≡ true
    or_true true = refl
    or_true false = refl

    or_false : (b : Bool) → (b || false) ≡ b
    or_false true = refl
    or_false false = refl

    split : (a ≡ t) ⊎ (a ≡ t → ⊥) → ((if a == t then to else a) == to) ≡ ((a == to) || (a == t))
    split (inl e) = ap (λ b. (if b then to else a) == to) (eq-eqb a t e) ∙ (eq-eqb to to refl ∙ sym (ap (λ b. (a == to) || b) (eq-eqb a t e) ∙ or_true (a == to)))
    split (inr d) = ap (λ b. (if b then to else a) == to) (ne_eqb a t d) ∙ sym (ap (λ b. (a == to) || b) (ne_eqb a t d) ∙ or_false (a == to))

-- the tracker of a thing that may go over
pub record Moves {X : Type 0} (tracker : X → ℕ) (f : X → X) (t to : ℕ) : Type 0 where
  pub moves : (x : X) → tracker (f x) ≡ (if tracker x == t then to else tracker x)

other_moved : {X : Type 0} (tracker : X → ℕ) (f : X → X) (t to v : ℕ) (xs : List X) → Moves tracker f t to → (t ≡ to → ⊥) → (v ≡ t → ⊥) → (v ≡ to → ⊥) → (i : ℕ) →
    option_map_or (λ x. tracker x == v) (slice_get xs i) false ≡ option_map_or (λ x. tracker x == v) (slice_get (map f xs) i) false
other_moved {X} tracker f t to v xs m n vt vto i = one (slice_get xs i) ∙ ap (λ o. option_map_or (λ x. tracker x == v) o false) (sym (mapped_at f xs i))
  where
    one : (o : Option X) → option_map_or (λ x. tracker x == v) o false ≡ option_map_or (λ x. tracker x == v) (option_map f o) false
    one None = refl
    one (Some x) = sym (ap (λ a. a == v) (m.moves x) ∙ moved_test (tracker x) t to v n vt vto)

both_moved : {X : Type 0} (tracker : X → ℕ) (f : X → X) (t to : ℕ) (xs : List X) → Moves tracker f t to → (i : ℕ) →
    (option_map_or (λ x. tracker x == to) (slice_get xs i) false || option_map_or (λ x. tracker x == t) (slice_get xs i) false) ≡ option_map_or (λ x. tracker x == to) (slice_get (map f xs) i) false
both_moved {X} tracker f t to xs m i = one (slice_get xs i) ∙ ap (λ o. option_map_or (λ x. tracker x == to) o false) (sym (mapped_at f xs i))
  where
    one : (o : Option X) → (option_map_or (λ x. tracker x == to) o false || option_map_or (λ x. tracker x == t) o false) ≡ option_map_or (λ x. tracker x == to) (option_map f o) false
    one None = refl
    one (Some x) = sym (ap (λ a. a == to) (m.moves x) ∙ moved_to_test (tracker x) t to)

pub unit_moves : (t to : ℕ) → Moves (λ (x : UnitRow). x.tracker) (moved_unit t to) t to
unit_moves t to = record { moves = λ x. refl }

pub generator_moves : (t to : ℕ) → Moves (λ (x : GenRow). x.tracker) (moved_generator t to) t to
generator_moves t to = record { moves = λ x. refl }

-- all that one tracker owned belongs to the other, and the one is gone
pub owners_moved : (owners : Owners) (trackers : List Track) (units : List UnitRow) (generators : List GenRow) (from to : TrackId) (more : Owned) → (from.0 ≡ to.0 → ⊥) → from.0 < length trackers → within (slice_get owners.tracks from.0) ≡ Some more → AreOwners owners trackers units generators →
    AreOwners (record { tracks = change_at to.0 (and_all_of more) (set owners.tracks from.0 None); room = None }) (changed_at from.0 gone_tracker trackers) (map (moved_unit from.0 to.0) units) (map (moved_generator from.0 to.0) generators)
owners_moved owners trackers units generators from to more n b its a = record {
  count = change_length to.0 (and_all_of more) emptied ∙ (set_length from.0 None owners.tracks ∙ (a.count ∙ sym (changed_length from.0 gone_tracker trackers)));
  gone = λ v y e. gone v y (changed_cases from.0 gone_tracker trackers v y e);
  dylibs = λ v y o e f. dylibs v y o (changed_cases from.0 gone_tracker trackers v y e) (cases_eq v to.0) f;
  owned = λ v o f. owned v o (cases_eq v from.0) (cases_eq v to.0) f;
}
  where
    emptied : List (Option Owned)
    emptied = set owners.tracks from.0 None

    at_from : within (slice_get (change_at to.0 (and_all_of more) emptied) from.0) ≡ None
    at_from = ap within (change_elsewhere to.0 (and_all_of more) emptied from.0 n ∙ set_there from.0 None owners.tracks (omega (arith, b, a.count)))

    at_to : within (slice_get (change_at to.0 (and_all_of more) emptied) to.0) ≡ option_map (and_all_of more) (within (slice_get owners.tracks to.0))
    at_to = change_there to.0 (and_all_of more) emptied ∙ ap (λ o. option_map (and_all_of more) (within o)) (set_elsewhere from.0 None owners.tracks to.0 (λ e. n (sym e)))

    elsewhere : (v : ℕ) → (v ≡ from.0 → ⊥) → (v ≡ to.0 → ⊥) → within (slice_get (change_at to.0 (and_all_of more) emptied) v) ≡ within (slice_get owners.tracks v)
    elsewhere v f t = ap within (change_elsewhere to.0 (and_all_of more) emptied v t ∙ set_elsewhere from.0 None owners.tracks v f)

    not_from : (v : ℕ) → (v ≡ from.0 → ⊥) → is_none (within (slice_get (change_at to.0 (and_all_of more) emptied) v)) ≡ is_none (within (slice_get owners.tracks v))
    not_from v f = split (cases_eq v to.0)
      where
        split : (v ≡ to.0) ⊎ (v ≡ to.0 → ⊥) → is_none (within (slice_get (change_at to.0 (and_all_of more) emptied) v)) ≡ is_none (within (slice_get owners.tracks v))
        split (inl e) = subst (λ m. is_none (within (slice_get (change_at to.0 (and_all_of more) emptied) m)) ≡ is_none (within (slice_get owners.tracks m))) (sym e) (ap is_none at_to ∙ none_mapped (and_all_of more) (within (slice_get owners.tracks to.0)))
        split (inr t) = ap is_none (elsewhere v f t)

    gone : (v : ℕ) (y : Track) → ((v ≡ from.0) × ((x : Track) × (slice_get trackers v ≡ Some x) × (y ≡ gone_tracker x))) ⊎ ((v ≡ from.0 → ⊥) × (slice_get trackers v ≡ Some y)) → is_none (within (slice_get (change_at to.0 (and_all_of more) emptied) v)) ≡ y.gone
    gone v y (inl e) = subst (λ m. is_none (within (slice_get (change_at to.0 (and_all_of more) emptied) m)) ≡ y.gone) (sym e.0) (ap is_none at_from ∙ sym (ap (λ (z : Track). z.gone) e.1.2))
    gone v y (inr e) = not_from v e.0 ∙ a.gone v y e.1

    from_to : (o : Owned) → within (slice_get (change_at to.0 (and_all_of more) emptied) to.0) ≡ Some o → (p : Owned) × (within (slice_get owners.tracks to.0) ≡ Some p) × (o ≡ and_all_of more p)
    from_to o f = map_parts (and_all_of more) (within (slice_get owners.tracks to.0)) o (sym at_to ∙ f)

    dylibs : (v : ℕ) (y : Track) (o : Owned) → ((v ≡ from.0) × ((x : Track) × (slice_get trackers v ≡ Some x) × (y ≡ gone_tracker x))) ⊎ ((v ≡ from.0 → ⊥) × (slice_get trackers v ≡ Some y)) → (v ≡ to.0) ⊎ (v ≡ to.0 → ⊥) →
        within (slice_get (change_at to.0 (and_all_of more) emptied) v) ≡ Some o → o.dylib.0 ≡ y.dylib
    dylibs v y o (inl e) t f = absurd (none-some o (sym at_from ∙ (ap (λ m. within (slice_get (change_at to.0 (and_all_of more) emptied) m)) (sym e.0) ∙ f)))
    dylibs v y o (inr e) (inl t) f = let p = from_to o (ap (λ m. within (slice_get (change_at to.0 (and_all_of more) emptied) m)) (sym t) ∙ f) in
        ap (λ (q : Owned). q.dylib.0) p.2 ∙ a.dylibs to.0 y p.0 (ap (slice_get trackers) (sym t) ∙ e.1) p.1
    dylibs v y o (inr e) (inr t) f = a.dylibs v y o e.1 (sym (elsewhere v e.0 t) ∙ f)

    owned : (v : ℕ) (o : Owned) → (v ≡ from.0) ⊎ (v ≡ from.0 → ⊥) → (v ≡ to.0) ⊎ (v ≡ to.0 → ⊥) → within (slice_get (change_at to.0 (and_all_of more) emptied) v) ≡ Some o → IsOwned (map (moved_unit from.0 to.0) units) (map (moved_generator from.0 to.0) generators) v o
    owned v o (inl e) t f = absurd (none-some o (sym at_from ∙ (ap (λ m. within (slice_get (change_at to.0 (and_all_of more) emptied) m)) (sym e) ∙ f)))
    owned v o (inr e) (inl t) f = let p = from_to o (ap (λ m. within (slice_get (change_at to.0 (and_all_of more) emptied) m)) (sym t) ∙ f) in
        let old = a.owned to.0 p.0 p.1 in
        let gone_over = a.owned from.0 more its in
        subst (λ m. IsOwned (map (moved_unit from.0 to.0) units) (map (moved_generator from.0 to.0) generators) m o) (sym t) (subst (IsOwned (map (moved_unit from.0 to.0) units) (map (moved_generator from.0 to.0) generators) to.0) (sym p.2) (record {
          units_are = λ w. any_append (λ (z : UnitId). z.0 == w) p.0.units more.units ∙ (ap (λ c. c || list_any (λ (z : UnitId). z.0 == w) more.units) (old.units_are w) ∙ (ap (λ c. option_map_or (λ (x : UnitRow). x.tracker == to.0) (slice_get units w) false || c) (gone_over.units_are w)
              ∙ both_moved (λ (x : UnitRow). x.tracker) (moved_unit from.0 to.0) from.0 to.0 units (unit_moves from.0 to.0) w));
          generators_are = λ w. any_append (λ (z : GenId). z.0 == w) p.0.generators more.generators ∙ (ap (λ c. c || list_any (λ (z : GenId). z.0 == w) more.generators) (old.generators_are w) ∙ (ap (λ c. option_map_or (λ (x : GenRow). x.tracker == to.0) (slice_get generators w) false || c) (gone_over.generators_are w)
              ∙ both_moved (λ (x : GenRow). x.tracker) (moved_generator from.0 to.0) from.0 to.0 generators (generator_moves from.0 to.0) w));
        }))
    owned v o (inr e) (inr t) f = let old = a.owned v o (sym (elsewhere v e t) ∙ f) in record {
      units_are = λ w. old.units_are w ∙ other_moved (λ (x : UnitRow). x.tracker) (moved_unit from.0 to.0) from.0 to.0 v units (unit_moves from.0 to.0) n e t w;
      generators_are = λ w. old.generators_are w ∙ other_moved (λ (x : GenRow). x.tracker) (moved_generator from.0 to.0) from.0 to.0 v generators (generator_moves from.0 to.0) n e t w;
    }

-- the rows of units and generators that went over

-- the tracker of one after a move
moved_tracker : {X : Type 0} (tracker : X → ℕ) (f : X → X) (t to : ℕ) (xs : List X) → Moves tracker f t to → (i : ℕ) (x : X) → slice_get xs i ≡ Some x → option_map_or tracker (slice_get (map f xs) i) 0 ≡ (if tracker x == t then to else tracker x)
moved_tracker tracker f t to xs m i x e = ap (λ o. option_map_or tracker o 0) (mapped_at f xs i ∙ ap (option_map f) e) ∙ m.moves x

pub units_moved : {U : Type 0} (means : U → Meaning) (kept : List (OneUnit U)) (units : List UnitRow) (trackers : List Track) (from to : ℕ) → to < length trackers → dylib_at trackers from ≡ dylib_at trackers to → AreUnits means kept units trackers →
    AreUnits means kept (map (moved_unit from to) units) (changed_at from gone_tracker trackers)
units_moved {U} means kept units trackers from to b same a = record {
  count = a.count ∙ sym (mapped_length (moved_unit from to) units);
  rows = λ u. rows u (slice_get kept u) refl;
  tracked = λ u y e. let p = mapped_parts (moved_unit from to) units u y e in subst (λ l. y.tracker < l) (sym (changed_length from gone_tracker trackers)) (subst (λ (z : UnitRow). z.tracker < length trackers) (sym p.2) (tracked p.0 (a.tracked u p.0 p.1)));
  dylibs = λ u x e. dylibs u x e;
  readied = a.readied;
}
  where
    tracked : (x : UnitRow) → x.tracker < length trackers → (if x.tracker == from then to else x.tracker) < length trackers
    tracked x h = split (x.tracker == from)
      where
        split : (c : Bool) → (if c then to else x.tracker) < length trackers
        split true = b
        split false = h

    row : (u : ℕ) (x : OneUnit U) → slice_get kept u ≡ Some x → slice_get units u ≡ Some (unit_row means (tracker_at units u) x)
    row u x e = a.rows u ∙ ap (option_map (unit_row means (tracker_at units u))) e

    tracker_is : (u : ℕ) (x : OneUnit U) → slice_get kept u ≡ Some x → tracker_at (map (moved_unit from to) units) u ≡ (if tracker_at units u == from then to else tracker_at units u)
    tracker_is u x e = moved_tracker (λ (y : UnitRow). y.tracker) (moved_unit from to) from to units (unit_moves from to) u (unit_row means (tracker_at units u) x) (row u x e)

    rows : (u : ℕ) (o : Option (OneUnit U)) → slice_get kept u ≡ o → slice_get (map (moved_unit from to) units) u ≡ option_map (unit_row means (tracker_at (map (moved_unit from to) units) u)) (slice_get kept u)
    rows u None e = mapped_at (moved_unit from to) units u ∙ (ap (option_map (moved_unit from to)) (a.rows u ∙ ap (option_map (unit_row means (tracker_at units u))) e) ∙ ap (option_map (unit_row means (tracker_at (map (moved_unit from to) units) u))) (sym e))
    rows u (Some x) e = mapped_at (moved_unit from to) units u ∙ (ap (option_map (moved_unit from to)) (row u x e) ∙ (ap (λ t. Some (unit_row means t x)) (sym (tracker_is u x e)) ∙ ap (option_map (unit_row means (tracker_at (map (moved_unit from to) units) u))) (sym e)))

    by_tracker : (t : ℕ) → dylib_at trackers (if t == from then to else t) ≡ dylib_at trackers t
    by_tracker t = split (cases_eq t from)
      where
        split : (t ≡ from) ⊎ (t ≡ from → ⊥) → dylib_at trackers (if t == from then to else t) ≡ dylib_at trackers t
        split (inl e) = ap (λ c. dylib_at trackers (if c then to else t)) (eq-eqb t from e) ∙ (sym same ∙ ap (dylib_at trackers) (sym e))
        split (inr n) = ap (λ c. dylib_at trackers (if c then to else t)) (ne_eqb t from n)

    dylibs : (u : ℕ) (x : OneUnit U) → slice_get kept u ≡ Some x → x.dylib.0 ≡ dylib_at (changed_at from gone_tracker trackers) (tracker_at (map (moved_unit from to) units) u)
    dylibs u x e = a.dylibs u x e ∙ (sym (by_tracker (tracker_at units u)) ∙ (ap (dylib_at trackers) (sym (tracker_is u x e)) ∙ sym (dylib_stays trackers from (tracker_at (map (moved_unit from to) units) u))))

pub generators_moved : {U : Type 0} (means : U → Meaning) (kept : List (Generator U)) (generators : List GenRow) (trackers : List Track) (from to : ℕ) → to < length trackers → AreGenerators means kept generators trackers → AreGenerators means kept (map (moved_generator from to) generators) (changed_at from gone_tracker trackers)
generators_moved {U} means kept generators trackers from to b a = record {
  count = a.count ∙ sym (mapped_length (moved_generator from to) generators);
  rows = λ g. rows g (slice_get kept g) refl;
  tracked = λ g y e. let p = mapped_parts (moved_generator from to) generators g y e in subst (λ l. y.tracker < l) (sym (changed_length from gone_tracker trackers)) (subst (λ (z : GenRow). z.tracker < length trackers) (sym p.2) (tracked p.0 (a.tracked g p.0 p.1)));
}
  where
    tracked : (x : GenRow) → x.tracker < length trackers → (if x.tracker == from then to else x.tracker) < length trackers
    tracked x h = split (x.tracker == from)
      where
        split : (c : Bool) → (if c then to else x.tracker) < length trackers
        split true = b
        split false = h

    row : (g : ℕ) (x : Generator U) → slice_get kept g ≡ Some x → slice_get generators g ≡ Some (gen_row means (generator_tracker generators g) x)
    row g x e = a.rows g ∙ ap (option_map (gen_row means (generator_tracker generators g))) e

    tracker_is : (g : ℕ) (x : Generator U) → slice_get kept g ≡ Some x → generator_tracker (map (moved_generator from to) generators) g ≡ (if generator_tracker generators g == from then to else generator_tracker generators g)
    tracker_is g x e = moved_tracker (λ (y : GenRow). y.tracker) (moved_generator from to) from to generators (generator_moves from to) g (gen_row means (generator_tracker generators g) x) (row g x e)

    rows : (g : ℕ) (o : Option (Generator U)) → slice_get kept g ≡ o → slice_get (map (moved_generator from to) generators) g ≡ option_map (gen_row means (generator_tracker (map (moved_generator from to) generators) g)) (slice_get kept g)
    rows g None e = mapped_at (moved_generator from to) generators g ∙ (ap (option_map (moved_generator from to)) (a.rows g ∙ ap (option_map (gen_row means (generator_tracker generators g))) e) ∙ ap (option_map (gen_row means (generator_tracker (map (moved_generator from to) generators) g))) (sym e))
    rows g (Some x) e = mapped_at (moved_generator from to) generators g ∙ (ap (option_map (moved_generator from to)) (row g x e) ∙ (ap (λ t. Some (gen_row means t x)) (sym (tracker_is g x e)) ∙ ap (option_map (gen_row means (generator_tracker (map (moved_generator from to) generators) g))) (sym e)))
