-- One more call of a set-up, and what a whole set-up meets.
use Rattle.std.proofs.Common.{◌≡◌, ℕ, zero, suc, ◌+◌, ◌<◌, ◌⊎◌, inl, inr, List, [], ◌∷◌, ◌++◌, length, map, take, Some, refl, sym, subst, ap, ◌∙◌, arith, append-nil, zero-add}
use Rattle.std.specs.Prelude.{All, slice_get}
use Rattle.std.specs.List.{range_with_len}
use Rattle.std.proofs.Math.Seq.{take-append_seam}
use Rattle.std.proofs.lemmas.List.{map-append, take-append-le}
use Rattle.std.proofs.lemmas.List.FromFn.{length-range_with_len, get_or-range_with_len}
use Rattle.std.proofs.lemmas.Option.{same_Some}
use Rattle.orc_ids.specs.declared.ids.NameId.{NameId}
use Rattle.orc_ids.specs.declared.limits.TheConstants.{DYLIB_LIMIT}
use Rattle.script_model.specs.Dylibs.{DifferentNames, dylib_names}
use Rattle.script_model.specs.Plans.{CanSetUp, CanSetUpAll, event_of}
use Rattle.script_model.specs.declared.calls.SetUpCall.{SetUpCall}
use Rattle.script_model.specs.declared.calls.SetUpCall.TheVariants as set_up
use Rattle.script_model.proofs.Made.{names_append}
use Rattle.script_lab.specs.SettingUp.{CanAdd, IsSetUp, names_of}
use Rattle.script_lab.specs.Units.{lab_meaning}
use Rattle.script_lab.specs.declared.unit.LabUnit.{LabUnit}

-- an element of a list with one more is one of the list, or the last
added : {X : Type 0} (xs : List X) (x y : X) (k : ℕ) → slice_get (xs ++ x ∷ []) k ≡ Some y → ((k < length xs) × (slice_get xs k ≡ Some y)) ⊎ ((k ≡ length xs) × (x ≡ y))
added [] x y zero at = inr (refl, same_Some x y at)
added [] x y (suc k) at = cc
added (z ∷ zs) x y zero at = inl ((omega arith), at)
added {X} (z ∷ zs) x y (suc k) at = behind (added zs x y k at)
  where
    behind : ((k < length zs) × (slice_get zs k ≡ Some y)) ⊎ ((k ≡ length zs) × (x ≡ y)) → ((suc k < length (z ∷ zs)) × (slice_get zs k ≡ Some y)) ⊎ ((suc k ≡ length (z ∷ zs)) × (x ≡ y))
    behind (inl p) = let below = p.0 in inl ((omega (arith, below)), p.1)
    behind (inr p) = inr (ap suc p.0, p.1)

names_more : (calls : List (SetUpCall LabUnit)) (call : SetUpCall LabUnit) → names_of (calls ++ call ∷ []) ≡ names_of calls ++ names_of (call ∷ [])
names_more calls call = ap dylib_names (map-append (event_of lab_meaning) calls (call ∷ [])) ∙ names_append (map (event_of lab_meaning) calls) (event_of lab_meaning call ∷ [])

-- each call can be made after those before it, the new one too
each_more : (dylibs : ℕ) (calls : List (SetUpCall LabUnit)) (call : SetUpCall LabUnit) → IsSetUp dylibs calls → CanSetUp lab_meaning dylibs call →
    (k : ℕ) (other : SetUpCall LabUnit) → slice_get (calls ++ call ∷ []) k ≡ Some other → CanSetUp lab_meaning (length (names_of (take k (calls ++ call ∷ [])))) other
each_more dylibs calls call s can k other at = split (added calls call other k at)
  where
    split : ((k < length calls) × (slice_get calls k ≡ Some other)) ⊎ ((k ≡ length calls) × (call ≡ other)) → CanSetUp lab_meaning (length (names_of (take k (calls ++ call ∷ [])))) other
    split (inl p) =
        let below = p.0 in
        let same : take k (calls ++ call ∷ []) ≡ take k calls = take-append-le k calls (call ∷ []) (omega (arith, below)) in
        subst (λ cs. CanSetUp lab_meaning (length (names_of cs)) other) (sym same) (s.each k other p.1)
    split (inr p) =
        let same : take k (calls ++ call ∷ []) ≡ calls = ap (λ n. take n (calls ++ call ∷ [])) p.0 ∙ take-append_seam calls (call ∷ []) in
        let count : length (names_of (take k (calls ++ call ∷ []))) ≡ dylibs = ap (λ cs. length (names_of cs)) same ∙ ap length s.named ∙ length-range_with_len 0 dylibs in
        subst (λ n. CanSetUp lab_meaning n other) (sym count) (subst (CanSetUp lab_meaning dylibs) p.1 can)

-- one more call that makes no dylib
pub call_added : (dylibs : ℕ) (calls : List (SetUpCall LabUnit)) (call : SetUpCall LabUnit) → IsSetUp dylibs calls → CanAdd dylibs call → IsSetUp dylibs (calls ++ call ∷ [])
call_added dylibs calls call s c = record {
  named = names_more calls call ∙ ap (λ ns. names_of calls ++ ns) c.none ∙ append-nil (names_of calls) ∙ s.named;
  few = s.few;
  each = each_more dylibs calls call s c.can;
}

counted : (a n j : ℕ) → a + n ≡ j → range_with_len a (suc n) ≡ range_with_len a n ++ j ∷ []
counted a zero j e = let same : a ≡ j = omega arith in ap (λ m. m ∷ []) same
counted a (suc n) j e = ap (λ ns. a ∷ ns) (counted (a + 1) n j (omega (arith, e)))

-- one more dylib, whose name is its number
pub dylib_added : (dylibs : ℕ) (calls : List (SetUpCall LabUnit)) (name : NameId) → name.0 ≡ dylibs → dylibs < DYLIB_LIMIT → IsSetUp dylibs calls → IsSetUp (dylibs + 1) (calls ++ set_up.Dylib name ∷ [])
dylib_added dylibs calls name is few s =
    let more : dylibs + 1 ≡ suc dylibs = omega arith in
    let named : names_of (calls ++ set_up.Dylib name ∷ []) ≡ range_with_len 0 (suc dylibs) =
    names_more calls (set_up.Dylib name) ∙ ap (λ ns. ns ++ name.0 ∷ []) s.named ∙ ap (λ n. range_with_len 0 dylibs ++ n ∷ []) is ∙ sym (counted 0 dylibs dylibs (zero-add dylibs)) in
    record {
      named = named ∙ ap (range_with_len 0) (sym more);
      few = omega (arith, few);
      each = each_more dylibs calls (set_up.Dylib name) s tt;
    }

pub nothing_set_up : IsSetUp 0 []
nothing_set_up = record {
  named = refl;
  few = omega arith;
  each = λ k call at. absurd cc;
}

differ : (a n : ℕ) → DifferentNames (range_with_len a n)
differ a zero = tt
differ a (suc n) = (above, differ (a + 1) n)
  where
    above : All (λ m. a ≡ m → ⊥) (range_with_len (a + 1) n)
    above j d below same =
        let within : j < n = subst (λ (l : ℕ). j < l) (length-range_with_len (a + 1) n) below in
        let is = get_or-range_with_len (a + 1) n j d within in
        omega (arith, same, is)

pub can_set_up_all : (dylibs : ℕ) (calls : List (SetUpCall LabUnit)) → IsSetUp dylibs calls → CanSetUpAll lab_meaning calls
can_set_up_all dylibs calls s =
    let few = s.few in
    let count : length (names_of calls) ≡ dylibs = ap length s.named ∙ length-range_with_len 0 dylibs in
    record {
      differ = subst DifferentNames (sym s.named) (differ 0 dylibs);
      few = omega (arith, few, count);
      each = s.each;
    }
