-- Kinds of what is placed, and small powers of two.
use Rattle.std.proofs.Common.{◌≡◌, ℕ, ◌<◌, ◌^◌, true, false, ◌||◌, ◌==◌, nat_lt, List, [], ◌∷◌, refl, sym, ap, ◌∙◌, inl, inr, arith}
use Rattle.std.specs.List.{list_any, list_all}
use Rattle.std.proofs.lemmas.Bool.{or_cases, and_parts, eqb-true, ltb-true, ne_eqb, false≢true}
use Rattle.elf_read.specs.Sections.{is_placed_kind, is_small_power}

-- ---- kinds of what is placed

pub not_placed : (kind x : ℕ) → is_placed_kind kind ≡ true → is_placed_kind x ≡ false → (kind == x) ≡ false
not_placed kind x placed not_ = ne_eqb kind x (λ e. false≢true (sym not_ ∙ ap is_placed_kind (sym e) ∙ placed))

pub placed_small : (kind : ℕ) → is_placed_kind kind ≡ true → kind < 2 ^ 32
placed_small kind h = elim (or_cases ((((kind == 1 || kind == 7) || kind == 8) || kind == 14) || kind == 15) (kind == 16) h) [
  | inr e ↦ omega (arith, eqb-true kind 16 e)
  | inl h1 ↦ elim (or_cases (((kind == 1 || kind == 7) || kind == 8) || kind == 14) (kind == 15) h1) [
    | inr e ↦ omega (arith, eqb-true kind 15 e)
    | inl h2 ↦ elim (or_cases ((kind == 1 || kind == 7) || kind == 8) (kind == 14) h2) [
      | inr e ↦ omega (arith, eqb-true kind 14 e)
      | inl h3 ↦ elim (or_cases (kind == 1 || kind == 7) (kind == 8) h3) [
        | inr e ↦ omega (arith, eqb-true kind 8 e)
        | inl h4 ↦ elim (or_cases (kind == 1) (kind == 7) h4) [
          | inr e ↦ omega (arith, eqb-true kind 7 e)
          | inl e ↦ omega (arith, eqb-true kind 1 e)
        ]
      ]
    ]
  ]
]

-- ---- small powers of two

power_small : (n : ℕ) (ks : List ℕ) → list_all (λ k. nat_lt (2 ^ k) (2 ^ 64)) ks ≡ true → list_any (λ k. n == 2 ^ k) ks ≡ true → n < 2 ^ 64
power_small n [] small h = absurd (false≢true h)
power_small n (k ∷ ks) small h =
    let parts = and_parts (nat_lt (2 ^ k) (2 ^ 64)) (list_all (λ j. nat_lt (2 ^ j) (2 ^ 64)) ks) small in
    elim (or_cases (n == 2 ^ k) (list_any (λ j. n == 2 ^ j) ks) h) [
      | inl e ↦ omega (arith, eqb-true n (2 ^ k) e, ltb-true (2 ^ k) (2 ^ 64) parts.0)
      | inr rest ↦ power_small n ks parts.1 rest
    ]

pub small_power-lt : (n : ℕ) → is_small_power n ≡ true → n < 2 ^ 64
unfolding is_small_power
small_power-lt n h = power_small n (0 ∷ 1 ∷ 2 ∷ 3 ∷ 4 ∷ 5 ∷ 6 ∷ 7 ∷ 8 ∷ 9 ∷ 10 ∷ 11 ∷ 12 ∷ []) refl h

zero_no_power : is_small_power 0 ≡ false
unfolding is_small_power
zero_no_power = refl

pub small_power-positive : (n : ℕ) → is_small_power n ≡ true → (n == 0) ≡ false
small_power-positive n h = ne_eqb n 0 (λ e. false≢true (sym zero_no_power ∙ ap is_small_power (sym e) ∙ h))
