-- A set of instances, one more or none, and its flags.
use Rattle.std.proofs.Common.{◌≡◌, ◌≢◌, ℕ, zero, suc, ◌+◌, ◌<◌, ◌≤◌, Bool, true, false, ◌&&◌, ◌||◌, ◌==◌, not, cond, List, [], ◌∷◌, ◌++◌, length, slice_get, set, unwrap_or, ◌⊎◌, inl, inr, ⊎_elim, refl, ap, ap₂, sym, subst, ◌∙◌, arith, add-one, length-append, length-set}
use Rattle.std.specs.Prelude.{nat_lt, nat_le}
use Rattle.std.specs.Option.{option_map_or}
use Rattle.std.proofs.lemmas.Bool.{both_ways, lt-ltb, le-ltb, not-true}
use Rattle.std.proofs.lemmas.Bool.Decides.{eqb_tells, nat_tests}
use Rattle.std.proofs.lemmas.List.Folds.{list_any-append}
use Rattle.list_laws.proofs.Lists.{set_there, set_elsewhere}
use Rattle.orc_ids.specs.declared.ids.InstId.{InstId}
use Rattle.instances.specs.Table.{is_among}
use Rattle.instances.specs.Sets.{is_set, unset, AreFlagged}

-- Flags

pub flag_written : (xs : List Bool) (k n : ℕ) (x : Bool) → k < length xs → is_set (set xs k x) n ≡ cond (k == n) x (is_set xs n)
flag_written xs k n x h =
    ⊎_elim (λ (e : ((k == n) ≡ true) × (k ≡ n)). subst (λ m. is_set (set xs k x) m ≡ x) e.1 (ap (λ o. unwrap_or o false) (set_there xs k x h)) ∙ sym (ap (λ b. cond b x (is_set xs n)) e.0))
    (λ (e : ((k == n) ≡ false) × (k ≢ n)). ap (λ o. unwrap_or o false) (set_elsewhere xs k n x (λ is. e.1 (sym is))) ∙ sym (ap (λ b. cond b x (is_set xs n)) e.0))
    (eqb_tells k n)

pub flag_past : (xs : List Bool) (k : ℕ) → length xs ≤ k → is_set xs k ≡ false
flag_past [] k h = refl
flag_past (x ∷ xs) zero h = absurd (omega (arith, h))
flag_past (x ∷ xs) (suc k) h = flag_past xs k (omega (arith, h))

-- an open flag is there, and isn't set
pub open_within : (xs : List Bool) (k : ℕ) → option_map_or not (slice_get xs k) false ≡ true → k < length xs
open_within [] k e = absurd (both_ways false refl e)
open_within (x ∷ xs) zero e = omega arith
open_within (x ∷ xs) (suc k) e = let b = open_within xs k e in omega (arith, b)

pub open_unset : (xs : List Bool) (k : ℕ) → option_map_or not (slice_get xs k) false ≡ true → is_set xs k ≡ false
open_unset [] k e = refl
open_unset (x ∷ xs) zero e = not-true x e
open_unset (x ∷ xs) (suc k) e = open_unset xs k e

-- any other one is past the end, or set
pub shut : (xs : List Bool) (k : ℕ) → option_map_or not (slice_get xs k) false ≡ false → (length xs ≤ k) ⊎ (is_set xs k ≡ true)
shut [] k e = inl (omega arith)
shut (true ∷ xs) zero e = inr refl
shut (false ∷ xs) zero e = absurd (both_ways true e refl)
shut (x ∷ xs) (suc k) e = later (shut xs k e)
  where
    later : (length xs ≤ k) ⊎ (is_set xs k ≡ true) → (length (x ∷ xs) ≤ suc k) ⊎ (is_set (x ∷ xs) (suc k) ≡ true)
    later (inl a) = inl (omega (arith, a))
    later (inr b) = inr b

pub unset_raised : (xs : List Bool) (k : ℕ) → option_map_or not (slice_get xs k) false ≡ true → unset (set xs k true) + 1 ≡ unset xs
unset_raised [] k e = absurd (both_ways false refl e)
unset_raised (x ∷ xs) zero e = add-one (unset xs) ∙ sym (ap (λ b. cond b (unset xs) (suc (unset xs))) (not-true x e))
unset_raised (x ∷ xs) (suc k) e = step x (unset_raised xs k e)
  where
    step : (b : Bool) → unset (set xs k true) + 1 ≡ unset xs → cond b (unset (set xs k true)) (suc (unset (set xs k true))) + 1 ≡ cond b (unset xs) (suc (unset xs))
    step true h = h
    step false h = omega (arith, h)

pub unset_few : (xs : List Bool) → unset xs ≤ length xs
unset_few [] = omega arith
unset_few (true ∷ xs) = omega (arith, unset_few xs)
unset_few (false ∷ xs) = omega (arith, unset_few xs)

pub unset_grown : (xs : List Bool) → unset (xs ++ false ∷ []) ≡ unset xs + 1
unset_grown [] = refl
unset_grown (true ∷ xs) = unset_grown xs
unset_grown (false ∷ xs) = omega (arith, unset_grown xs)

-- One more instance

pub among_push : (items : List InstId) (i : InstId) (k : ℕ) → is_among (items ++ i ∷ []) k ≡ (is_among items k || i.0 == k)
among_push items i k = list_any-append (λ (j : InstId). j.0 == k) items (i ∷ []) ∙ ap (λ b. is_among items k || b) (or_false (i.0 == k))
  where
    or_false : (b : Bool) → (b || false) ≡ b
    or_false true = refl
    or_false false = refl

-- where there is room for the instance
pub and_room : (i k n : ℕ) → i < n → (i == k) ≡ (i == k && nat_lt k n)
and_room i k n h = ⊎_elim (λ (e : ((i == k) ≡ true) × (i ≡ k)). e.0 ∙ sym (ap₂ (λ a b. a && b) e.0 (lt-ltb k n (subst (λ m. m < n) e.1 h))))
    (λ (e : ((i == k) ≡ false) × (i ≢ k)). e.0 ∙ sym (ap (λ a. a && nat_lt k n) e.0)) (eqb_tells i k)

pub added : (items : List InstId) (flags : List Bool) (i : InstId) (k : ℕ) → i.0 < length flags → is_among (items ++ i ∷ []) k ≡ (is_among items k || (i.0 == k && nat_lt k (length flags)))
added items flags i k h = among_push items i k ∙ ap (λ b. is_among items k || b) (and_room i.0 k (length flags) h)

-- where it is in, or there is no room
pub passed : (items : List InstId) (flags : List Bool) (i : InstId) (k : ℕ) → ((n : ℕ) → is_set flags n ≡ is_among items n) → (length flags ≤ i.0) ⊎ (is_set flags i.0 ≡ true) → is_among items k ≡ (is_among items k || (i.0 == k && nat_lt k (length flags)))
passed items flags i k flagged h = ⊎_elim (λ (e : ((i.0 == k) ≡ true) × (i.0 ≡ k)). here e.0 e.1 h)
    (λ (e : ((i.0 == k) ≡ false) × (i.0 ≢ k)). same (is_among items k) ∙ sym (ap (λ b. is_among items k || (b && nat_lt k (length flags))) e.0)) (eqb_tells i.0 k)
  where
    same : (b : Bool) → b ≡ (b || false)
    same true = refl
    same false = refl

    here : (i.0 == k) ≡ true → i.0 ≡ k → (length flags ≤ i.0) ⊎ (is_set flags i.0 ≡ true) → is_among items k ≡ (is_among items k || (i.0 == k && nat_lt k (length flags)))
    here e is (inl past) = same (is_among items k) ∙ sym (ap₂ (λ a b. is_among items k || (a && b)) e (le-ltb k (length flags) (subst (λ m. length flags ≤ m) is past)))
    here e is (inr in_it) = let t : is_among items k ≡ true = sym (flagged k) ∙ subst (λ m. is_set flags m ≡ true) is in_it in t ∙ sym (ap (λ b. b || (i.0 == k && nat_lt k (length flags))) t)

pub flagged_push : (items : List InstId) (flags : List Bool) (i : InstId) (room : ℕ) → AreFlagged items flags room → option_map_or not (slice_get flags i.0) false ≡ true → AreFlagged (items ++ i ∷ []) (set flags i.0 true) room
flagged_push items flags i room f e = record {
  flagged = λ k. flag_written flags i.0 k true (open_within flags i.0 e) ∙ turned (i.0 == k) (is_set flags k) (is_among items k) (f.flagged k) ∙ sym (among_push items i k);
  once = let a = f.once in let u = unset_raised flags i.0 e in omega (arith, a, u, length-append items (i ∷ []), length-set flags i.0 true);
  fits = let a = f.fits in omega (arith, a, length-set flags i.0 true);
}
  where
    turned : (b x y : Bool) → x ≡ y → cond b true x ≡ (y || b)
    turned true x true h = refl
    turned true x false h = refl
    turned false x true h = h
    turned false x false h = h

pub fits_one : (items : List InstId) (flags : List Bool) (i room : ℕ) → AreFlagged items flags room → option_map_or not (slice_get flags i) false ≡ true → length items < room
fits_one items flags i room f e = let a = f.once in let b = f.fits in let u = unset_raised flags i e in omega (arith, a, b, u)

-- no instance is left when the flags of all were taken back
pub none_flagged : (flags new : List Bool) (items : List InstId) (room : ℕ) → AreFlagged items flags room → length new ≡ length flags → ((k : ℕ) → is_set new k ≡ (is_set flags k && not (is_among items k))) → AreFlagged [] new room
none_flagged flags new items room f long lowered = record {
  flagged = λ k. lowered k ∙ ap (λ b. b && not (is_among items k)) (f.flagged k) ∙ never (is_among items k);
  once = let u = unset_few new in omega (arith, u);
  fits = let a = f.fits in omega (arith, a, long);
}
  where
    never : (b : Bool) → (b && not b) ≡ false
    never true = refl
    never false = refl

-- one flag is taken back
pub lowered_there : (flags : List Bool) (i k : ℕ) → i < length flags → is_set (set flags i false) k ≡ (is_set flags k && not (i == k))
lowered_there flags i k h = flag_written flags i k false h ∙ turned (i == k) (is_set flags k)
  where
    turned : (b x : Bool) → cond b false x ≡ (x && not b)
    turned true true = refl
    turned true false = refl
    turned false true = refl
    turned false false = refl

pub lowered_past : (flags : List Bool) (i k : ℕ) → length flags ≤ i → is_set flags k ≡ (is_set flags k && not (i == k))
lowered_past flags i k h = ⊎_elim (λ (e : ((i == k) ≡ true) × (i ≡ k)). let f = flag_past flags k (subst (λ m. length flags ≤ m) e.1 h) in f ∙ sym (ap (λ b. b && not (i == k)) f))
    (λ (e : ((i == k) ≡ false) × (i ≢ k)). same (is_set flags k) ∙ sym (ap (λ b. is_set flags k && not b) e.0)) (eqb_tells i k)
  where
    same : (b : Bool) → b ≡ (b && true)
    same true = refl
    same false = refl

-- a span, so far
pub spanned_none : (items : List InstId) (first k n : ℕ) → is_among items k ≡ (is_among items k || (nat_le first k && nat_lt k first && nat_lt k n))
spanned_none items first k n = same (is_among items k) ∙ sym (ap (λ b. is_among items k || (b && nat_lt k n)) none)
  where
    same : (b : Bool) → b ≡ (b || false)
    same true = refl
    same false = refl

    none : (nat_le first k && nat_lt k first) ≡ false
    none = grind (arith, nat_tests)

pub spanned_more : (x y : Bool) (first i k n : ℕ) → first ≤ i → y ≡ (x || (nat_le first k && nat_lt k i && nat_lt k n)) → (y || (i == k && nat_lt k n)) ≡ (x || (nat_le first k && nat_lt k (i + 1) && nat_lt k n))
spanned_more x y first i k n h e = grind (arith, nat_tests)

-- there are more flags, and none of them is set
pub grown : (items : List InstId) (flags new : List Bool) (room more : ℕ) → AreFlagged items flags room → ((k : ℕ) → is_set new k ≡ is_set flags k) → unset new + length flags ≡ unset flags + length new → length new ≤ more → AreFlagged items new more
grown items flags new room more f same count fits = record {
  flagged = λ k. same k ∙ f.flagged k;
  once = let a = f.once in omega (arith, a, count);
  fits = fits;
}

-- a list, so far
pub more_added : (start now new before here after : Bool) (k n m : ℕ) → n ≡ m → new ≡ (now || (here && nat_lt k n)) → now ≡ (start || (before && nat_lt k m)) → after ≡ (before || here) → new ≡ (start || (after && nat_lt k m))
more_added start now new before here after k n m same e f g =
    e ∙ ap (λ j. now || (here && nat_lt k j)) same ∙ ap (λ b. b || (here && nat_lt k m)) f ∙ both start before here (nat_lt k m) ∙ ap (λ b. start || (b && nat_lt k m)) (sym g)
  where
    both : (s b h r : Bool) → ((s || (b && r)) || (h && r)) ≡ (s || ((b || h) && r))
    both true b h r = refl
    both false true true true = refl
    both false true true false = refl
    both false true false true = refl
    both false true false false = refl
    both false false h r = refl
