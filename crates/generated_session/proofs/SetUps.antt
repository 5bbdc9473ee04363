-- The set-up can be called.
use Rattle.std.proofs.Common.{◌≡◌, ◌≤◌, ℕ, zero, suc, ◌+◌, List, [], ◌∷◌, length, map, take, None, Some, refl, sym, ◌∙◌, ap, subst, arith}
use Rattle.std.specs.Prelude.{⊤, slice_get}
use Rattle.std.specs.List.{AllByRecursion}
use Rattle.std.proofs.lemmas.List.Elements.{All-cons, All-nil}
use Rattle.std.proofs.lemmas.Option.{same_Some}
use Rattle.orc_ids.specs.declared.limits.TheConstants.{ORDER_LIMIT}
use Rattle.script_model.specs.Dylibs.{DifferentNames, dylib_names}
use Rattle.script_model.specs.Plans.{CanSetUp, CanSetUpAll, event_of}
use Rattle.script_model.specs.declared.calls.SetUpCall.{SetUpCall}
use Rattle.script_model.specs.declared.calls.SetUpCall.TheVariants as set_up
use Rattle.session_model.specs.Meaning.{Meaning}
use Rattle.session_model.specs.declared.entry.Event.{Event}
use Rattle.session_model.specs.declared.entry.Event.TheVariants as event
use Rattle.generated_session.specs.Runs.{AreUnits, IsUnit}
use Rattle.generated_session.specs.Scripts.{definitions, set_up_events}
use Rattle.generated_session.specs.Plans.{IsSetUp}

-- an event that can be called whatever came before it
abbrev IsFree : Event Meaning → Type 0
IsFree (event.SetOrder d order) = length order ≤ ORDER_LIMIT
IsFree (event.Define d t unit) = unit.source ≡ None
IsFree (event.Attach d t unit) = unit.source ≡ None
IsFree _ = ⊤

three_are_few : 3 ≤ ORDER_LIMIT
three_are_few = omega arith

-- ---- the events

each_one : {X : Type 0} (P : X → Type 0) (xs : List X) → ((k : ℕ) (x : X) → slice_get xs k ≡ Some x → P x) → AllByRecursion P xs
each_one P [] each = tt
each_one P (x ∷ xs) each = (each 0 x refl, each_one P xs (λ k y. each (suc k) y))

no_alias : (n k : ℕ) (unit : Meaning) → IsUnit n k unit → unit.source ≡ None
no_alias n k unit is = ap (λ (m : Meaning). m.source) is.2

definitions_free : (k : ℕ) (units : List Meaning) → AllByRecursion (λ (u : Meaning). u.source ≡ None) units → AllByRecursion IsFree (definitions k units)
definitions_free k [] none = tt
definitions_free k (u ∷ us) none = (tt, (none.0, definitions_free (k + 1) us none.1))

all_free : (n : ℕ) (units : List Meaning) → AreUnits n n units → AllByRecursion IsFree (set_up_events units)
all_free n units are =
    let rest = definitions_free 0 units (each_one (λ (u : Meaning). u.source ≡ None) units (λ k u at. no_alias n k u (are.each k u at))) in
    (tt, (tt, (tt, (tt, (three_are_few, (three_are_few, (three_are_few, (three_are_few, rest))))))))

-- the dylibs

definitions_unnamed : (k : ℕ) (units : List Meaning) → dylib_names (definitions k units) ≡ []
definitions_unnamed k [] = refl
definitions_unnamed k (u ∷ us) = definitions_unnamed (k + 1) us

four_named : (units : List Meaning) → dylib_names (set_up_events units) ≡ 0 ∷ 1 ∷ 2 ∷ 3 ∷ []
four_named units = ap (λ (ns : List ℕ). 0 ∷ 1 ∷ 2 ∷ 3 ∷ ns) (definitions_unnamed 0 units)

four_differ : DifferentNames (0 ∷ 1 ∷ 2 ∷ 3 ∷ [])
four_differ = (
  All-cons (λ m. 0 ≡ m → ⊥) 1 (2 ∷ 3 ∷ []) (λ e. omega (arith, e)) (All-cons (λ m. 0 ≡ m → ⊥) 2 (3 ∷ []) (λ e. omega (arith, e)) (All-cons (λ m. 0 ≡ m → ⊥) 3 [] (λ e. omega (arith, e)) (All-nil (λ m. 0 ≡ m → ⊥)))),
  (
    All-cons (λ m. 1 ≡ m → ⊥) 2 (3 ∷ []) (λ e. omega (arith, e)) (All-cons (λ m. 1 ≡ m → ⊥) 3 [] (λ e. omega (arith, e)) (All-nil (λ m. 1 ≡ m → ⊥))),
    (
      All-cons (λ m. 2 ≡ m → ⊥) 3 [] (λ e. omega (arith, e)) (All-nil (λ m. 2 ≡ m → ⊥)),
      (
        All-nil (λ m. 3 ≡ m → ⊥),
        tt,
      ),
    ),
  ),
)

-- ---- the calls

module _ {U : Type 0} (means : U → Meaning) where
  can_set_up : (made : ℕ) (call : SetUpCall U) → IsFree (event_of means call) → CanSetUp means made call
  can_set_up made (set_up.Dylib name) free = tt
  can_set_up made (set_up.Order d order) free = free
  can_set_up made (set_up.Tracker d) free = tt
  can_set_up made (set_up.Define d t unit) free = rw free tt
  can_set_up made (set_up.Attach d t unit) free = rw free tt

  each_free : (calls : List (SetUpCall U)) → AllByRecursion IsFree (map (event_of means) calls) → (k : ℕ) (call : SetUpCall U) → slice_get calls k ≡ Some call → IsFree (event_of means call)
  each_free [] all k call at = absurd cc
  each_free (c ∷ calls) all zero call at = subst (λ x. IsFree (event_of means x)) (same_Some c call at) all.0
  each_free (c ∷ calls) all (suc k) call at = each_free calls all.1 k call at

  pub can_set_up_all : (n : ℕ) (calls : List (SetUpCall U)) → IsSetUp n (map (event_of means) calls) → CanSetUpAll means calls
  can_set_up_all n calls is =
      let names : dylib_names (map (event_of means) calls) ≡ 0 ∷ 1 ∷ 2 ∷ 3 ∷ [] = ap dylib_names is.2 ∙ four_named is.0 in
      let free : AllByRecursion IsFree (map (event_of means) calls) = subst (AllByRecursion IsFree) (sym is.2) (all_free n is.0 is.1) in
      record {
        differ = subst DifferentNames (sym names) four_differ;
        few = let four : length (dylib_names (map (event_of means) calls)) ≡ 4 = ap length names in omega (arith, four);
        each = λ k call at. can_set_up (length (dylib_names (map (event_of means) (take k calls)))) call (each_free calls free k call at);
      }
