-- Telling what becomes ready.
use Rattle.std.proofs.Common.{◌≡◌, ℕ, Bool, true, false, Some, ◌⊎◌, inl, inr, ⊎_elim, ◌<◌, ◌≤◌, ◌==◌, if◌then◌else◌, List, [], ◌∷◌, ◌++◌, length, ap, sym, subst, ◌∙◌, arith, length-append, get_or}
use Rattle.std.specs.Prelude.{slice_get}
use Rattle.std.proofs.lemmas.Option.{slice_get_within, slice_get-get_or}
use Rattle.std.proofs.lemmas.Bool.{both_ways, cases_lt, false_from_ne_true}
use Rattle.orc_ids.specs.declared.ids.InstId.{InstId}
use Rattle.dep_groups.specs.Places.{is_set}
use Rattle.dep_groups.specs.Marks.{IsTold, Tells}
use Rattle.dep_groups.proofs.Lists.{get_kept, get_last, get_push}
use Rattle.dep_groups.proofs.Trails.{raised_here, raised_kept, raised_cases}

pub tells_none : (xs : List Bool) (told : List InstId) → Tells xs xs told told
tells_none xs told = record {
  stays = λ i e. e;
  front = λ k m e. e;
  longer = omega arith;
  all = λ i e. inl e;
  only = λ k m past is. absurd (omega (arith, past, slice_get_within told k m is));
  once = λ j k m past after a b. absurd (omega (arith, past, slice_get_within told j m a));
}

pub tells_then : (a b c : List Bool) (p q r : List InstId) → Tells a b p q → Tells b c q r → Tells a c p r
tells_then a b c p q r x y = record {
  stays = λ i e. y.stays i (x.stays i e);
  front = λ k m e. y.front k m (x.front k m e);
  longer = omega (arith, x.longer, y.longer);
  all = λ i e. ⊎_elim (λ (was : is_set b i ≡ true). sort_all i (x.all i was)) (λ (t : IsTold r (length q) (record { 0 = i })). inr (record { at = t.at; after = omega (arith, t.after, x.longer); is = t.is })) (y.all i e);
  only = λ k m past is. ⊎_elim (λ (below : k < length q). sort_only k m past below is) (λ (above : length q ≤ k). let o = y.only k m above is in (not_set m.0 o.0, o.1)) (cases_lt k (length q));
  once = λ j k m past after is too. sort_once j k m past after is too (cases_lt j (length q)) (cases_lt k (length q));
}
  where
    sort_all : (i : ℕ) → (is_set a i ≡ true) ⊎ IsTold q (length p) (record { 0 = i }) → (is_set a i ≡ true) ⊎ IsTold r (length p) (record { 0 = i })
    sort_all i (inl e) = inl e
    sort_all i (inr t) = inr (record { at = t.at; after = t.after; is = y.front t.at (record { 0 = i }) t.is })

    back : (k : ℕ) (m : InstId) → k < length q → slice_get r k ≡ Some m → slice_get q k ≡ Some m
    back k m below is =
        let here : slice_get q k ≡ Some (get_or q k m) = slice_get-get_or q k m below in
        here ∙ sym (y.front k (get_or q k m) here) ∙ is

    sort_only : (k : ℕ) (m : InstId) → length p ≤ k → k < length q → slice_get r k ≡ Some m → (is_set a m.0 ≡ false) × (is_set c m.0 ≡ true)
    sort_only k m past below is = let o = x.only k m past (back k m below is) in (o.0, y.stays m.0 o.1)

    not_set : (i : ℕ) → is_set b i ≡ false → is_set a i ≡ false
    not_set i low = false_from_ne_true (is_set a i) (λ high. both_ways (is_set b i) low (x.stays i high))

    sort_once : (j k : ℕ) (m : InstId) → length p ≤ j → length p ≤ k → slice_get r j ≡ Some m → slice_get r k ≡ Some m → (j < length q) ⊎ (length q ≤ j) → (k < length q) ⊎ (length q ≤ k) → j ≡ k
    sort_once j k m past after is too (inl f) (inl g) = x.once j k m past after (back j m f is) (back k m g too)
    sort_once j k m past after is too (inl f) (inr g) = absurd (both_ways (is_set b m.0) ((y.only k m g too).0) ((x.only j m past (back j m f is)).1))
    sort_once j k m past after is too (inr f) (inl g) = absurd (both_ways (is_set b m.0) ((y.only j m f is).0) ((x.only k m after (back k m g too)).1))
    sort_once j k m past after is too (inr f) (inr g) = y.once j k m f g is too

pub tells_one : (old new : List Bool) (told : List InstId) (m : InstId) → is_set old m.0 ≡ false → ((n : ℕ) → is_set new n ≡ (if m.0 == n then true else is_set old n)) → Tells old new told (told ++ m ∷ [])
tells_one old new told m low says = record {
  stays = raised_kept (is_set old) (is_set new) m.0 says;
  front = λ k x e. get_kept told (m ∷ []) k x e;
  longer = omega (arith, length-append told (m ∷ []));
  all = λ i e. ⊎_elim (λ (was : is_set old i ≡ true). inl was) (λ (here : m.0 ≡ i). inr (record { at = length told; after = omega arith; is = get_last told m ∙ ap (λ n. Some (record { 0 = n })) here })) (raised_cases (is_set old) (is_set new) m.0 says i e);
  only = λ k x past is. sort_only k x past (get_push told m k x is);
  once = λ j k x past after a b. sort_once j k x past after (get_push told m j x a) (get_push told m k x b);
}
  where
    sort_only : (k : ℕ) (x : InstId) → length told ≤ k → (slice_get told k ≡ Some x) ⊎ ((k ≡ length told) × (m ≡ x)) → (is_set old x.0 ≡ false) × (is_set new x.0 ≡ true)
    sort_only k x past (inl e) = absurd (omega (arith, past, slice_get_within told k x e))
    sort_only k x past (inr e) = subst (λ (y : InstId). (is_set old y.0 ≡ false) × (is_set new y.0 ≡ true)) e.1 (low, raised_here (is_set old) (is_set new) m.0 says)

    sort_once : (j k : ℕ) (x : InstId) → length told ≤ j → length told ≤ k → (slice_get told j ≡ Some x) ⊎ ((j ≡ length told) × (m ≡ x)) → (slice_get told k ≡ Some x) ⊎ ((k ≡ length told) × (m ≡ x)) → j ≡ k
    sort_once j k x past after (inl e) f = absurd (omega (arith, past, slice_get_within told j x e))
    sort_once j k x past after (inr e) (inl f) = absurd (omega (arith, after, slice_get_within told k x f))
    sort_once j k x past after (inr e) (inr f) = e.0 ∙ sym f.0

-- what was told is ready, and what is told more
pub told_ready : (old new : List Bool) (was told : List InstId) → Tells old new was told → ((k : ℕ) (m : InstId) → slice_get was k ≡ Some m → is_set old m.0 ≡ true) → (k : ℕ) (m : InstId) → slice_get told k ≡ Some m → is_set new m.0 ≡ true
told_ready old new was told t before k m is = ⊎_elim
    (λ (b : k < length was).
    let here : slice_get was k ≡ Some (get_or was k m) = slice_get-get_or was k m b in
    t.stays m.0 (before k m (here ∙ sym (t.front k (get_or was k m) here) ∙ is)))
    (λ (b : length was ≤ k). (t.only k m b is).1) (cases_lt k (length was))
