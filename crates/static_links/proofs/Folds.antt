-- Folds of writes. A write changes only the bytes at its place, by what stood there, so two folds agree on an area where
-- the one has, besides the writes of the other, only writes that lie off the area.
use Rattle.std.proofs.Common.{◌≡◌, ℕ, zero, suc, ◌+◌, ◌-◌, ◌*◌, ◌^◌, ◌<◌, ◌≤◌, Bool, true, false, ◌&&◌, cond, nat_le, nat_lt, ℤ, List, [], ◌∷◌, map, filter, All, Option, Some, None, refl, ap, ap₂, subst, ◌∙◌, arith}
use Rattle.std.specs.Option.{option_map_or}
use Rattle.std.proofs.lemmas.Bool.{cond_both, and_parts, leb-true, ltb-true}
use Rattle.std.proofs.lemmas.List.Elements.{All-head, All-tail}
use Rattle.orc_words.specs.Numbers.{number_at, with_number, byte_of}
use Rattle.link_model.specs.Kinds.{row_of, rule_of, known, edited, edited_number, new_number}
use Rattle.link_model.specs.Image.{Write, written, all_written}
use Rattle.link_model.specs.declared.kinds.Rule.{Rule}

-- two images agree on an area
abbrev pub Agree : (ℕ → Type 0) → (ℕ → ℕ) → (ℕ → ℕ) → Type 0
Agree area f h = (place : ℕ) → area place → f place ≡ h place

-- the places of so many bytes
abbrev pub Among : ℕ → ℕ → ℕ → Type 0
Among at width place = (at ≤ place) × (place < at + width)

-- the places of a write
abbrev pub Touches : Write → ℕ → Type 0
Touches w = Among w.at (rule_of w.kind).width

abbrev pub LiesIn : (ℕ → Type 0) → Write → Type 0
LiesIn area w = (place : ℕ) → Touches w place → area place

abbrev pub LiesOff : (ℕ → Type 0) → Write → Type 0
LiesOff area w = (place : ℕ) → Touches w place → area place → ⊥

-- ---- one write

number_same : (width at : ℕ) (f h : ℕ → ℕ) → Agree (Among at width) f h → number_at width f at ≡ number_at width h at
unfolding number_at
number_same zero at f h same = refl
number_same (suc w) at f h same =
    ap₂ (λ (a b : ℕ). a + b * 2 ^ (8 * w))
    (number_same w at f h (λ place in'. same place (in'.0, omega (arith, in'.1))))
    (same (at + w) (omega arith, omega arith))

with_same : (width at n n' : ℕ) (f h : ℕ → ℕ) (place : ℕ) → n ≡ n' → f place ≡ h place → with_number width at n f place ≡ with_number width at n' h place
unfolding with_number
with_same width at n n' f h place e same =
    ap₂ (λ (m x : ℕ). cond (nat_le at place && nat_lt place (at + width)) (byte_of m (place - at)) x) e same

with_off : (width at n : ℕ) (f : ℕ → ℕ) (place : ℕ) → (Among at width place → ⊥) → with_number width at n f place ≡ f place
unfolding with_number
with_off width at n f place off =
    let test : Bool = nat_le at place && nat_lt place (at + width) in
    cond_both test (byte_of n (place - at)) (f place) (λ (x : ℕ). x ≡ f place)
    (λ yes.
    let both = and_parts (nat_le at place) (nat_lt place (at + width)) yes in
    absurd (off (leb-true at place both.0, ltb-true place (at + width) both.1)))
    (λ no. refl)

edited_same : (rule : Rule) (at : ℕ) (v : ℤ) (f h : ℕ → ℕ) (place : ℕ) → Agree (Among at rule.width) f h → f place ≡ h place → edited rule at v f place ≡ edited rule at v h place
unfolding edited
edited_same rule at v f h place same here =
    with_same rule.width at (edited_number rule f at v) (edited_number rule h at v) f h place
    (ap (λ (n : ℕ). new_number rule.form (8 * rule.width) n v) (number_same rule.width at f h same)) here

edited_off : (rule : Rule) (at : ℕ) (v : ℤ) (f : ℕ → ℕ) (place : ℕ) → (Among at rule.width place → ⊥) → edited rule at v f place ≡ f place
unfolding edited
edited_off rule at v f place off = with_off rule.width at (edited_number rule f at v) f place off

-- what a kind writes, by its row
ruled_same : (row : Option Rule) (at : ℕ) (v : ℤ) (f h : ℕ → ℕ) (place : ℕ) → Agree (Among at (known row).width) f h → f place ≡ h place → option_map_or (λ rule. edited rule at v f) row f place ≡ option_map_or (λ rule. edited rule at v h) row h place
ruled_same (Some rule) at v f h place same here = edited_same rule at v f h place same here
ruled_same None at v f h place same here = here

ruled_off : (row : Option Rule) (at : ℕ) (v : ℤ) (f : ℕ → ℕ) (place : ℕ) → (Among at (known row).width place → ⊥) → option_map_or (λ rule. edited rule at v f) row f place ≡ f place
ruled_off (Some rule) at v f place off = edited_off rule at v f place off
ruled_off None at v f place off = refl

written_in : (area : ℕ → Type 0) (w : Write) (f h : ℕ → ℕ) → LiesIn area w → Agree area f h → Agree area (written w f) (written w h)
written_in area w f h lies same place here =
    ruled_same (row_of w.kind) w.at w.value f h place (λ k in'. same k (lies k in')) (same place here)

written_off : (area : ℕ → Type 0) (w : Write) (f h : ℕ → ℕ) → LiesOff area w → Agree area f h → Agree area (written w f) h
written_off area w f h off same place here =
    ruled_off (row_of w.kind) w.at w.value f place (λ in'. off place in' here) ∙ same place here

-- ---- many writes

-- an element is kept with the same write in the area, or left out with a write off it
pub record IsKept {X : Type 0} (area : ℕ → Type 0) (write write' : X → Write) (keep : X → Bool) (x : X) : Type 0 where
  pub same : keep x ≡ true → write x ≡ write' x
  pub inside : keep x ≡ true → LiesIn area (write x)
  pub off : keep x ≡ false → LiesOff area (write x)

pub kept_agree : {X : Type 0} (area : ℕ → Type 0) (write write' : X → Write) (keep : X → Bool) (xs : List X) (f h : ℕ → ℕ) → All (IsKept area write write' keep) xs → Agree area f h → Agree area (all_written (map write xs) f) (all_written (map write' (filter keep xs)) h)
kept_agree area write write' keep [] f h all same = same
kept_agree {X} area write write' keep (x ∷ xs) f h all same =
    let first : IsKept area write write' keep x = All-head (IsKept area write write' keep) x xs all in
    let rest : All (IsKept area write write' keep) xs = All-tail (IsKept area write write' keep) x xs all in
    cond_both (keep x) (x ∷ filter keep xs) (filter keep xs) (λ (ys : List X). Agree area (all_written (map write xs) (written (write x) f)) (all_written (map write' ys) h))
    (λ yes.
    kept_agree area write write' keep xs (written (write x) f) (written (write' x) h) rest
    (subst (λ (w : Write). Agree area (written (write x) f) (written w h)) (first.same yes) (written_in area (write x) f h (first.inside yes) same)))
    (λ no. kept_agree area write write' keep xs (written (write x) f) h rest (written_off area (write x) f h (first.off no) same))
