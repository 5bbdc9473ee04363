-- What came back has heard what it says, and where all came back, each stands in its place.
use Rattle.std.proofs.Common.{arith, ◌≡◌, ◌≤◌, ◌⊎◌, ℕ, zero, suc, inl, inr, List, [], ◌∷◌, ◌++◌, set, replicate, length, slice_get, All, Option, Some, None, IfSome, Result, Ok, Err, IfOk, refl, sym, ap, subst, ◌∙◌}
use Rattle.std.specs.List.{flat_map}
use Rattle.std.specs.Option.{option_to_list}
use Rattle.std.proofs.lemmas.List.Elements.{All-cons, All-head, All-tail}
use Rattle.std.proofs.lemmas.Option.{none-some, same_Some}
use Rattle.notifiers.specs.Heard.{AreInOrder, ArePlaced, object}
use Rattle.notifiers.specs.declared.notes.Noted.{Noted}

module _ {X : Type 0} (P : X → Type 0) where
  one_back : (o : Option X) (xs : List X) → IfSome o P → All P xs → All P (option_to_list o ++ xs)
  one_back (Some x) xs one all = All-cons P x xs one all
  one_back None xs one all = all

  pub all_back : (places : List (Option X)) → All (λ o. IfSome o P) places → All P (flat_map option_to_list places)
  all_back [] all = λ k d within. absurd (omega (arith, within))
  all_back (o ∷ places) all = one_back o (flat_map option_to_list places) (All-head (λ o. IfSome o P) o places all) (all_back places (All-tail (λ o. IfSome o P) o places all))

-- what stands in a list after a place was written
pub set_cases : {X : Type 0} (xs : List X) (i k : ℕ) (y x : X) → slice_get (set xs i y) k ≡ Some x → ((k ≡ i) × (x ≡ y)) ⊎ (slice_get xs k ≡ Some x)
set_cases [] i k y x there = absurd (none-some x there)
set_cases (z ∷ zs) zero zero y x there = inl (refl, sym (same_Some y x there))
set_cases (z ∷ zs) zero (suc k) y x there = inr there
set_cases (z ∷ zs) (suc i) zero y x there = inr there
set_cases (z ∷ zs) (suc i) (suc k) y x there = further (set_cases zs i k y x there)
  where
    further : ((k ≡ i) × (x ≡ y)) ⊎ (slice_get zs k ≡ Some x) → ((suc k ≡ suc i) × (x ≡ y)) ⊎ (slice_get zs k ≡ Some x)
    further (inl p) = inl (ap suc p.0, p.1)
    further (inr t) = inr t

-- of places those that are taken; where all are, they are the places
few_taken : {X : Type 0} (places : List (Option X)) → length (flat_map option_to_list places) ≤ length places
few_taken [] = omega arith
few_taken (None ∷ places) = omega (arith, few_taken places)
few_taken (Some x ∷ places) = omega (arith, few_taken places)

pub all_taken : {X : Type 0} (places : List (Option X)) → length (flat_map option_to_list places) ≡ length places → (k : ℕ) (x : X) → slice_get (flat_map option_to_list places) k ≡ Some x → slice_get places k ≡ Some (Some x)
all_taken [] all k x there = absurd (none-some x there)
all_taken (None ∷ places) all k x there = absurd (omega (arith, all, few_taken places))
all_taken (Some y ∷ places) all zero x there = ap Some there
all_taken (Some y ∷ places) all (suc k) x there = all_taken places (omega (arith, all)) k x there

-- no place is taken
none_there : {X : Type 0} (count k : ℕ) (x : X) → slice_get (replicate count None) k ≡ Some (Some x) → ⊥
none_there zero k x there = none-some (Some x) there
none_there (suc n) zero x there = none-some x (same_Some None (Some x) there)
none_there (suc n) (suc k) x there = none_there n k x there

module _ {N : Type 0} (number : N → ℕ) where
  pub none_placed : (count : ℕ) → ArePlaced number (replicate count None)
  none_placed count k noted there = absurd (none_there count k noted there)

  -- one more was put in its place
  pub put_placed : (places : List (Option (Noted N))) (i : ℕ) (n : Noted N) → number (object n) ≡ i → ArePlaced number places → ArePlaced number (set places i (Some n))
  put_placed places i n is placed k noted there = by (set_cases places i k (Some n) (Some noted) there)
    where
      by : ((k ≡ i) × (Some noted ≡ Some n)) ⊎ (slice_get places k ≡ Some (Some noted)) → number (object noted) ≡ k
      by (inl p) = ap (λ x. number (object x)) (same_Some noted n p.1) ∙ (is ∙ sym p.0)
      by (inr t) = placed k noted t

  pub back_in_order : (places : List (Option (Noted N))) (back : List (Noted N)) → ArePlaced number places → back ≡ flat_map option_to_list places → length back ≡ length places → AreInOrder number back
  back_in_order places back placed is all k noted there =
      placed k noted (all_taken places (ap length (sym is) ∙ all) k noted (subst (λ l. slice_get l k ≡ Some noted) is there))
