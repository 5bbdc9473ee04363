-- A unit that is given by lists is lawful.
use Rattle.std.proofs.Common.{◌≡◌, ℕ, zero, suc, ◌+◌, ◌*◌, ◌/◌, ◌^◌, ◌<◌, ◌≤◌, max, true, false, List, [], ◌∷◌, slice_get, Option, Some, None, IfSome, IsTrue, ◌↔◌, ◌⊎◌, inl, inr, subst, sym, refl, ap, ◌∙◌, arith}
use Rattle.std.specs.Prelude.{not, ◌%◌, nat_eq, Contains, is_some, if◌then◌else◌}
use Rattle.std.specs.List.{list_any, All}
use Rattle.std.specs.Int.{IsPowerOfTwo}
use Rattle.std.specs.List.Sorted.{IsPermutation}
use Rattle.std.proofs.lemmas.Bool.{and_parts, both_ways, eq-eqb, eqb-true, false≢true, not-true, cases_lt}
use Rattle.std.proofs.lemmas.List.{append-nil, length-replicate}
use Rattle.std.proofs.lemmas.List.Elements.{All-contains_itself}
use Rattle.std.proofs.lemmas.List.Sorted.{IsPermutation-refl}
use Rattle.std.proofs.Math.Nat.{pow-suc}
use Rattle.std.proofs.Math.Pow.{pow-lt, pow_mono}
use Rattle.std.proofs.lemmas.Nat.{pow_pos}
use Rattle.std.proofs.lemmas.Option.{same_Some}
use Rattle.orc_ids.specs.declared.flags.SymFlags.{SymFlags}
use Rattle.orc_ids.specs.declared.ids.DylibId.{DylibId}
use Rattle.orc_ids.specs.declared.ids.InstId.{InstId}
use Rattle.orc_ids.specs.declared.ids.NameId.{NameId}
use Rattle.session_model.specs.Meaning.{IsLawful, IsAlias, bound_instances}
use Rattle.session_check.specs.Known.{Known, IsKnown, IsKnownAlias, is_of_name, known_meaning, names_differ}

-- an element with the name is found
named : (name : NameId) (offers : List (NameId × SymFlags)) (k : ℕ) (b : NameId × SymFlags) → slice_get offers k ≡ Some b → name ≡ b.0 → list_any (is_of_name name) offers ≡ true
named name [] k b t e = cc
named name (offer ∷ offers) zero b t e =
    let same : offer.0.0 ≡ name.0 = ap (λ (p : NameId × SymFlags). p.0.0) (same_Some offer b t) ∙ ap (λ (n : NameId). n.0) (sym e) in
    grind (arith, same)
named name (offer ∷ offers) (suc k) b t e = let more : list_any (is_of_name name) offers ≡ true = named name offers k b t e in grind (arith, more)

differ : (offers : List (NameId × SymFlags)) → names_differ offers ≡ true → (j k : ℕ) (a b : NameId × SymFlags) → slice_get offers j ≡ Some a → slice_get offers k ≡ Some b → a.0 ≡ b.0 → j ≡ k
differ [] d j k a b s t e = cc
differ (o ∷ os) d zero zero a b s t e = refl
differ (o ∷ os) d zero (suc k) a b s t e =
    let p = and_parts (not (list_any (is_of_name o.0) os)) (names_differ os) d in
    absurd (both_ways (list_any (is_of_name o.0) os) (not-true (list_any (is_of_name o.0) os) p.0) (named o.0 os k b t (ap (λ (x : NameId × SymFlags). x.0) (same_Some o a s) ∙ e)))
differ (o ∷ os) d (suc j) zero a b s t e =
    let p = and_parts (not (list_any (is_of_name o.0) os)) (names_differ os) d in
    absurd (both_ways (list_any (is_of_name o.0) os) (not-true (list_any (is_of_name o.0) os) p.0) (named o.0 os j a s (ap (λ (x : NameId × SymFlags). x.0) (same_Some o b t) ∙ sym e)))
differ (o ∷ os) d (suc j) (suc k) a b s t e =
    let p = and_parts (not (list_any (is_of_name o.0) os)) (names_differ os) d in
    ap suc (differ os p.1 j k a b s t e)

-- one that names a source is an alias
alias_lawful : (u : Known) (o : Option DylibId) → u.source ≡ o → IfSome o (λ d. IsKnownAlias u) → IfSome o (λ d. IsAlias (known_meaning u))
alias_lawful u None e a = tt
alias_lawful u (Some d) e a = record {
  name = a.name;
  offers = a.offers;
  target = a.target;
  externals = λ live. a.externals;
  shape = λ live. a.shape;
  address = λ base. ap (λ (s : Option DylibId). if is_some s then base else (base + 8 * 0) % 2 ^ 64) e;
  refusal = λ live base bound. a.refusal;
  groups = λ live base bound own. refl;
}

pub known_lawful : (u : Known) → IsKnown u → IsLawful (known_meaning u)
known_lawful u k = record {
  differ = differ u.offers k.differ;
  members = λ live base bound own fits. subst (λ (xs : List InstId). IsPermutation xs own) (sym (append-nil own)) (IsPermutation-refl own);
  deps = λ live base bound own fits. subst (λ (xs : List InstId). All (Contains (bound_instances bound)) xs) (sym (append-nil (bound_instances bound))) (All-contains_itself (bound_instances bound));
  shape = λ live. k.shape;
  image = λ live base bound. length-replicate _ 0;
  alias = alias_lawful u u.source refl k.alias;
}

-- the least power of two that is no less is the number itself, where that is a power of two
pub least_power : (i j n : ℕ) → n ≡ 2 ^ i → 2 ^ j / 2 < max 1 n → n ≤ 2 ^ j → 2 ^ j ≡ n
least_power i j n a b c = at (cases_lt j i) (cases_lt i j)
  where
    at : (j < i) ⊎ (i ≤ j) → (i < j) ⊎ (j ≤ i) → 2 ^ j ≡ n
    at (inl d) e = let p : 2 ^ j < 2 ^ i = pow-lt d in absurd (omega (arith, a, c, p))
    at (inr d) (inl e) =
        let p : 2 ^ suc i ≤ 2 ^ j = pow_mono {i = suc i} {j = j} (omega (arith, e)) in
        let q : 2 ^ suc i ≡ 2 ^ i * 2 = pow-suc 2 i in
        let r : 0 < 2 ^ i = pow_pos i in
        absurd (omega (arith, a, b, p, q, r))
    at (inr d) (inr e) = let same : j ≡ i = omega (arith, d, e) in ap (λ k. 2 ^ k) same ∙ sym a

-- what the test of a power of two tells
pub power_test : (align next : ℕ) → IsPowerOfTwo next → align ≤ next → next / 2 < max 1 align → IsTrue (nat_eq next align) ↔ ((k : ℕ) × (align ≡ 2 ^ k))
power_test align next p a b = (λ t. (p.0, sym (eqb-true next align t) ∙ p.1), λ q. eq-eqb next align (p.1 ∙ least_power q.0 p.0 align q.1 (subst (λ n. n / 2 < max 1 align) p.1 b) (subst (λ n. align ≤ n) p.1 a)))

-- and none is above the highest
pub high_power : (align : ℕ) → 2 ^ 63 < align → align < 2 ^ 64 → IsTrue false ↔ ((k : ℕ) × (align ≡ 2 ^ k))
high_power align a b = (λ t. absurd (false≢true t), λ p. absurd (at p.0 p.1 (cases_lt p.0 64)))
  where
    at : (k : ℕ) → align ≡ 2 ^ k → (k < 64) ⊎ (64 ≤ k) → ⊥
    at k e (inl c) = let p : 2 ^ k ≤ 2 ^ 63 = pow_mono {i = k} {j = 63} (omega (arith, c)) in omega (arith, e, p, a)
    at k e (inr c) = let p : 2 ^ 64 ≤ 2 ^ k = pow_mono {i = 64} {j = k} c in omega (arith, e, p, b)
