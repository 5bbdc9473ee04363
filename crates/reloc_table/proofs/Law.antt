-- The law of the formats: what a write leaves is read back, and the bits outside the format stay.
use Rattle.std.proofs.Common.{◌≡◌, ℕ, ◌+◌, ◌-◌, ◌*◌, ◌/◌, ◌%◌, ◌^◌, ◌<◌, ◌≤◌, ◌⊎◌, inl, inr, ℤ, pos, negsuc, ◌+ℤ◌, ◌-ℤ◌, true, ◌==◌, refl, sym, ap, subst, ◌∙◌, arith}
use Rattle.std.proofs.Math.Nat.{mod-eq_of_lt, add_comm}
use Rattle.std.proofs.lemmas.Nat.{shr-shr}
use Rattle.std.proofs.lemmas.Nat.Bits.{bit_at_cat_low, bit_at_cat_high, bit_at_above}
use Rattle.std.proofs.lemmas.Bool.{and_parts, eqb-true, cases_lt}
use Rattle.std.specs.Int.{bit_at}
use mathlib.Core.Path.{fun_ext}
use Rattle.orc_words.specs.Bits.{bits_at, with_bits, low_of, fits_bits}
use Rattle.orc_words.specs.Immediates.{with_i, with_s, with_b, with_u, with_j, i_immediate, u_bits}
use Rattle.orc_words.specs.Numbers.{number_at, byte_of, with_number}
use Rattle.orc_words.proofs.Fields.{bits_at-lt, bits_at-lowest, bits_at-low_of, bit_at-part, with_bits-lt, bit_at-with_other}
use Rattle.orc_words.proofs.Complement.{signed_of-low_of}
use Rattle.orc_words.proofs.Numbers.{number_at-with_number, with_number-inside, with_number-outside}
use Rattle.orc_words.proofs.Writers.{i_immediate-with_i, s_immediate-with_s, b_immediate-with_b, j_immediate-with_j, u_bits-with_u, with_i-others, with_s-others, with_b-others, with_u-others, with_j-others}
use Rattle.link_model.specs.declared.kinds.Form.{Form}
use Rattle.link_model.specs.declared.kinds.Form.TheVariants.{Unwritten, Number, Sum, Difference, LowSix, LowSixDifference, FormatB, FormatJ, FormatU, FormatI, FormatS, Call}
use Rattle.link_model.specs.declared.kinds.Span.{Span}
use Rattle.link_model.specs.declared.kinds.Span.TheVariants.{Branch, Jump}
use Rattle.link_model.specs.declared.kinds.Rule.{Rule}
use Rattle.link_model.specs.Kinds.{up_of, in_span, new_number, edited_number, edited, ReadsBack, Outside}
use Rattle.reloc_table.specs.Rows.{IsWidth, HasWidth, HasReach}
use Rattle.reloc_table.proofs.Low.{low_of-lt}

-- ---- a written number stays within its bytes
with_i-lt : (n word part : ℕ) → 32 ≤ n → word < 2 ^ n → with_i word part < 2 ^ n
unfolding with_i
with_i-lt n word part h below = with_bits-lt n 20 12 word (bits_at 0 12 part) h below (bits_at-lt 0 12 part)

with_u-lt : (n word part : ℕ) → 32 ≤ n → word < 2 ^ n → with_u word part < 2 ^ n
unfolding with_u
with_u-lt n word part h below = with_bits-lt n 12 20 word (bits_at 0 20 part) h below (bits_at-lt 0 20 part)

with_s-lt : (n word part : ℕ) → 32 ≤ n → word < 2 ^ n → with_s word part < 2 ^ n
unfolding with_s
with_s-lt n word part h below =
    let first = with_bits-lt n 7 5 word (bits_at 0 5 part) (omega arith) below (bits_at-lt 0 5 part) in
    with_bits-lt n 25 7 (with_bits 7 5 word (bits_at 0 5 part)) (bits_at 5 7 part) h first (bits_at-lt 5 7 part)

with_b-lt : (n word part : ℕ) → 32 ≤ n → word < 2 ^ n → with_b word part < 2 ^ n
unfolding with_b
with_b-lt n word part h below =
    let w1 : ℕ = with_bits 7 1 word (bits_at 11 1 part) in
    let w2 : ℕ = with_bits 8 4 w1 (bits_at 1 4 part) in
    let w3 : ℕ = with_bits 25 6 w2 (bits_at 5 6 part) in
    let e1 = with_bits-lt n 7 1 word (bits_at 11 1 part) (omega arith) below (bits_at-lt 11 1 part) in
    let e2 = with_bits-lt n 8 4 w1 (bits_at 1 4 part) (omega arith) e1 (bits_at-lt 1 4 part) in
    let e3 = with_bits-lt n 25 6 w2 (bits_at 5 6 part) (omega arith) e2 (bits_at-lt 5 6 part) in
    with_bits-lt n 31 1 w3 (bits_at 12 1 part) h e3 (bits_at-lt 12 1 part)

with_j-lt : (n word part : ℕ) → 32 ≤ n → word < 2 ^ n → with_j word part < 2 ^ n
unfolding with_j
with_j-lt n word part h below =
    let w1 : ℕ = with_bits 12 8 word (bits_at 12 8 part) in
    let w2 : ℕ = with_bits 20 1 w1 (bits_at 11 1 part) in
    let w3 : ℕ = with_bits 21 10 w2 (bits_at 1 10 part) in
    let e1 = with_bits-lt n 12 8 word (bits_at 12 8 part) (omega arith) below (bits_at-lt 12 8 part) in
    let e2 = with_bits-lt n 20 1 w1 (bits_at 11 1 part) (omega arith) e1 (bits_at-lt 11 1 part) in
    let e3 = with_bits-lt n 21 10 w2 (bits_at 1 10 part) (omega arith) e2 (bits_at-lt 1 10 part) in
    with_bits-lt n 31 1 w3 (bits_at 20 1 part) h e3 (bits_at-lt 20 1 part)

call-lt : (old : ℕ) (v : ℤ) → new_number Call 64 old v < 2 ^ 64
call-lt old v =
    let first : with_u (bits_at 0 32 old) (up_of v) < 2 ^ 32 = with_u-lt 32 (bits_at 0 32 old) (up_of v) (omega arith) (bits_at-lt 0 32 old) in
    let second : with_i (bits_at 32 32 old) (low_of 12 v) < 2 ^ 32 = with_i-lt 32 (bits_at 32 32 old) (low_of 12 v) (omega arith) (bits_at-lt 32 32 old) in
    omega (arith, first, second)

pub new_number-lt : (form : Form) (w old : ℕ) (v : ℤ) → HasWidth form w → old < 2 ^ (8 * w) → new_number form (8 * w) old v < 2 ^ (8 * w)
new_number-lt Unwritten w old v width below = below
new_number-lt Number w old v width below = low_of-lt (8 * w) v
new_number-lt Sum w old v width below = low_of-lt (8 * w) (pos old +ℤ v)
new_number-lt Difference w old v width below = low_of-lt (8 * w) (pos old -ℤ v)
new_number-lt LowSix w old v width below = with_bits-lt (8 * w) 0 6 old (low_of 6 v) (omega arith) below (low_of-lt 6 v)
new_number-lt LowSixDifference w old v width below =
    with_bits-lt (8 * w) 0 6 old (low_of 6 (pos old -ℤ v)) (omega arith) below (low_of-lt 6 (pos old -ℤ v))
new_number-lt FormatB w old v width below = with_b-lt (8 * w) old (low_of 13 v) (omega arith) below
new_number-lt FormatJ w old v width below = with_j-lt (8 * w) old (low_of 21 v) (omega arith) below
new_number-lt FormatU w old v width below = with_u-lt (8 * w) old (up_of v) (omega arith) below
new_number-lt FormatI w old v width below = with_i-lt (8 * w) old (low_of 12 v) (omega arith) below
new_number-lt FormatS w old v width below = with_s-lt (8 * w) old (low_of 12 v) (omega arith) below
new_number-lt Call w old v width below = subst (λ (x : ℕ). new_number Call 64 old v < 2 ^ (8 * x)) (sym width) (call-lt old v)

-- ---- what is read back
up_of-lt : (v : ℤ) → up_of v < 2 ^ 20
unfolding up_of
up_of-lt v = bits_at-lt 12 20 (low_of 32 (v +ℤ pos 0x800))

up_of-whole : (v : ℤ) → bits_at 0 20 (up_of v) ≡ up_of v
up_of-whole v = bits_at-lowest 20 (up_of v) ∙ mod-eq_of_lt (up_of-lt v)

-- an even value has even low bits
even_bits : (v : ℤ) → low_of 1 v ≡ 0 → (low_of 13 v % 2 ≡ 0) × (low_of 21 v % 2 ≡ 0)
even_bits (pos k) e = (omega arith, omega arith)
even_bits (negsuc k) e = (omega arith, omega arith)

-- the two words of a call
call_first : (old : ℕ) (v : ℤ) → bits_at 0 32 (new_number Call 64 old v) ≡ with_u (bits_at 0 32 old) (up_of v)
call_first old v =
    let first : with_u (bits_at 0 32 old) (up_of v) < 2 ^ 32 = with_u-lt 32 (bits_at 0 32 old) (up_of v) (omega arith) (bits_at-lt 0 32 old) in
    bits_at-lowest 32 (new_number Call 64 old v) ∙ omega (arith, first)

call_second : (old : ℕ) (v : ℤ) → bits_at 32 32 (new_number Call 64 old v) ≡ with_i (bits_at 32 32 old) (low_of 12 v)
unfolding bits_at
call_second old v =
    let first : with_u (bits_at 0 32 old) (up_of v) < 2 ^ 32 = with_u-lt 32 (bits_at 0 32 old) (up_of v) (omega arith) (bits_at-lt 0 32 old) in
    let second : with_i (bits_at 32 32 old) (low_of 12 v) < 2 ^ 32 = with_i-lt 32 (bits_at 32 32 old) (low_of 12 v) (omega arith) (bits_at-lt 32 32 old) in
    omega (arith, first, second)

branch_reads : (old : ℕ) (v : ℤ) → in_span Branch v ≡ true → ReadsBack FormatB (with_b old (low_of 13 v)) v
branch_reads old v inside =
    let parts = and_parts (fits_bits 13 v) (low_of 1 v == 0) inside in
    b_immediate-with_b old (low_of 13 v) (even_bits v (eqb-true (low_of 1 v) 0 parts.1)).0
    ∙ signed_of-low_of 13 v (omega arith) parts.0

jump_reads : (old : ℕ) (v : ℤ) → in_span Jump v ≡ true → ReadsBack FormatJ (with_j old (low_of 21 v)) v
jump_reads old v inside =
    let parts = and_parts (fits_bits 21 v) (low_of 1 v == 0) inside in
    j_immediate-with_j old (low_of 21 v) (even_bits v (eqb-true (low_of 1 v) 0 parts.1)).1
    ∙ signed_of-low_of 21 v (omega arith) parts.0

pub reads_back : (form : Form) (span : Span) (w old : ℕ) (v : ℤ) → HasWidth form w → HasReach form span → in_span span v ≡ true → ReadsBack form (new_number form (8 * w) old v) v
reads_back Unwritten span w old v width reach inside = tt
reads_back Number span w old v width reach inside = tt
reads_back Sum span w old v width reach inside = tt
reads_back Difference span w old v width reach inside = tt
reads_back LowSix span w old v width reach inside = tt
reads_back LowSixDifference span w old v width reach inside = tt
reads_back FormatB span w old v width reach inside = branch_reads old v (subst (λ (s : Span). in_span s v ≡ true) reach inside)
reads_back FormatJ span w old v width reach inside = jump_reads old v (subst (λ (s : Span). in_span s v ≡ true) reach inside)
reads_back FormatU span w old v width reach inside = u_bits-with_u old (up_of v) ∙ up_of-whole v
reads_back FormatI span w old v width reach inside = i_immediate-with_i old (low_of 12 v)
reads_back FormatS span w old v width reach inside = s_immediate-with_s old (low_of 12 v)
reads_back Call span w old v width reach inside = (
  ap u_bits (call_first old v) ∙ u_bits-with_u (bits_at 0 32 old) (up_of v) ∙ up_of-whole v,
  ap i_immediate (call_second old v) ∙ i_immediate-with_i (bits_at 32 32 old) (low_of 12 v),
)

-- ---- the bits that stay
low_bit : (old i : ℕ) → i + 1 ≤ 32 → bit_at (bits_at 0 32 old) i ≡ bit_at old i
low_bit old i h =
    ap (λ (x : ℕ). bit_at x i) (bits_at-lowest 32 old) ∙ bit_at-part (old % 2 ^ 32) i
    ∙ bits_at-low_of i 1 32 old h ∙ sym (bit_at-part old i)

high_bit : (old i : ℕ) → old < 2 ^ 64 → 32 ≤ i → bit_at (bits_at 32 32 old) (i - 32) ≡ bit_at old i
unfolding bits_at
high_bit old i below h =
    let word : old / 2 ^ 32 % 2 ^ 32 ≡ old / 2 ^ 32 = omega arith in
    let place : 32 + (i - 32) ≡ i = omega arith in
    ap (λ (x : ℕ). x / 2 ^ (i - 32) % 2) word
    ∙ ap (λ (x : ℕ). x % 2) (shr-shr old 32 (i - 32))
    ∙ ap (λ (x : ℕ). old / 2 ^ x % 2) place

call_others : (old i : ℕ) (v : ℤ) → old < 2 ^ 64 → Outside Call i → bit_at (new_number Call 64 old v) i ≡ bit_at old i
call_others old i v below (inl low) =
    let first : ℕ = with_u (bits_at 0 32 old) (up_of v) in
    let second : ℕ = with_i (bits_at 32 32 old) (low_of 12 v) in
    ap (λ (x : ℕ). bit_at x i) (add_comm first (second * 2 ^ 32))
    ∙ bit_at_cat_low second 32 first i (omega arith)
    ∙ with_u-others (bits_at 0 32 old) (up_of v) i (inl low)
    ∙ low_bit old i (omega arith)
call_others old i v below (inr (inl (low, high))) =
    let first : ℕ = with_u (bits_at 0 32 old) (up_of v) in
    let second : ℕ = with_i (bits_at 32 32 old) (low_of 12 v) in
    ap (λ (x : ℕ). bit_at x i) (add_comm first (second * 2 ^ 32))
    ∙ bit_at_cat_high second 32 first i (with_u-lt 32 (bits_at 0 32 old) (up_of v) (omega arith) (bits_at-lt 0 32 old)) low
    ∙ with_i-others (bits_at 32 32 old) (low_of 12 v) (i - 32) (inl (omega arith))
    ∙ high_bit old i below low
call_others old i v below (inr (inr high)) = bit_at_above (new_number Call 64 old v) 64 i (call-lt old v) high ∙ sym (bit_at_above old 64 i below high)

pub others : (form : Form) (w old : ℕ) (v : ℤ) (i : ℕ) → HasWidth form w → old < 2 ^ (8 * w) → Outside form i → bit_at (new_number form (8 * w) old v) i ≡ bit_at old i
others Unwritten w old v i width below outside = refl
others Number w old v i width below outside = absurd outside
others Sum w old v i width below outside = absurd outside
others Difference w old v i width below outside = absurd outside
others LowSix w old v i width below outside = bit_at-with_other 0 6 old (low_of 6 v) i (low_of-lt 6 v) (inr outside)
others LowSixDifference w old v i width below outside =
    bit_at-with_other 0 6 old (low_of 6 (pos old -ℤ v)) i (low_of-lt 6 (pos old -ℤ v)) (inr outside)
others FormatB w old v i width below outside = with_b-others old (low_of 13 v) i outside
others FormatJ w old v i width below outside = with_j-others old (low_of 21 v) i outside
others FormatU w old v i width below outside = with_u-others old (up_of v) i outside
others FormatI w old v i width below outside = with_i-others old (low_of 12 v) i outside
others FormatS w old v i width below outside = with_s-others old (low_of 12 v) i outside
others Call w old v i width below outside = call_others old i v (subst (λ (x : ℕ). old < 2 ^ (8 * x)) width below) outside

-- ---- the bytes
-- only the low bytes of a number are written
with_number-low : (w at n : ℕ) (bytes : ℕ → ℕ) (place : ℕ) → with_number w at n bytes place ≡ with_number w at (n % 2 ^ (8 * w)) bytes place
unfolding byte_of
with_number-low w at n bytes place =
    elim (cases_lt place at) [
      | inl before ↦
          with_number-outside w at n bytes place (inl before)
          ∙ sym (with_number-outside w at (n % 2 ^ (8 * w)) bytes place (inl before))
      | inr from ↦
          elim (cases_lt place (at + w)) [
            | inl below ↦
                with_number-inside w at n bytes place from below
                ∙ sym (bits_at-low_of (8 * (place - at)) 8 (8 * w) n (omega arith))
                ∙ sym (with_number-inside w at (n % 2 ^ (8 * w)) bytes place from below)
            | inr after ↦
                with_number-outside w at n bytes place (inr after)
                ∙ sym (with_number-outside w at (n % 2 ^ (8 * w)) bytes place (inr after))
          ]
    ]

-- nothing is written to no bytes
pub with_number-nothing : (w at n : ℕ) (bytes : ℕ → ℕ) → w ≡ 0 → bytes ≡ with_number w at n bytes
with_number-nothing w at n bytes none = fun_ext (λ (place : ℕ). sym (with_number-outside w at n bytes place (outside place)))
  where
    outside : (place : ℕ) → (place < at) ⊎ (at + w ≤ place)
    outside place = elim (cases_lt place at) [ inl before ↦ inl before | inr from ↦ inr (omega arith) ]

-- the number in no bytes
pub number_at-nothing : (w at : ℕ) (bytes : ℕ → ℕ) → w ≡ 0 → 0 ≡ number_at w bytes at
unfolding number_at
number_at-nothing w at bytes none = ap (λ (x : ℕ). number_at x bytes at) (sym none)

-- the bytes of a form
pub width_of : (form : Form) (w : ℕ) → HasWidth form w → (w ≡ 0) ⊎ IsWidth w
width_of Unwritten w h = inl h
width_of Number w h = inr h
width_of Sum w h = inr h
width_of Difference w h = inr h
width_of LowSix w h = grind arith
width_of LowSixDifference w h = grind arith
width_of FormatB w h = grind arith
width_of FormatJ w h = grind arith
width_of FormatU w h = grind arith
width_of FormatI w h = grind arith
width_of FormatS w h = grind arith
width_of Call w h = grind arith

-- a number that ends in the new bits is written as they are
pub edited-written : (rule : Rule) (at n : ℕ) (v : ℤ) (bytes : ℕ → ℕ) → n % 2 ^ (8 * rule.width) ≡ edited_number rule bytes at v → with_number rule.width at n bytes ≡ edited rule at v bytes
unfolding edited
edited-written rule at n v bytes e =
    fun_ext (λ (place : ℕ). with_number-low rule.width at n bytes place ∙ ap (λ (x : ℕ). with_number rule.width at x bytes place) e)

-- the number that stands there afterwards
number_after : (rule : Rule) (at : ℕ) (v : ℤ) (bytes new : ℕ → ℕ) → HasWidth rule.form rule.width → number_at rule.width bytes at < 2 ^ (8 * rule.width) → new ≡ edited rule at v bytes → number_at rule.width new at ≡ edited_number rule bytes at v
unfolding edited
number_after rule at v bytes new width below written =
    ap (λ (f : ℕ → ℕ). number_at rule.width f at) written
    ∙ number_at-with_number rule.width at (edited_number rule bytes at v) bytes
    ∙ mod-eq_of_lt (new_number-lt rule.form rule.width (number_at rule.width bytes at) v width below)

pub reads_back-after : (rule : Rule) (at : ℕ) (v : ℤ) (bytes new : ℕ → ℕ) → HasWidth rule.form rule.width → HasReach rule.form rule.span → in_span rule.span v ≡ true → number_at rule.width bytes at < 2 ^ (8 * rule.width) → new ≡ edited rule at v bytes → ReadsBack rule.form (number_at rule.width new at) v
reads_back-after rule at v bytes new width reach inside below written =
    subst (λ (n : ℕ). ReadsBack rule.form n v) (sym (number_after rule at v bytes new width below written))
    (reads_back rule.form rule.span rule.width (number_at rule.width bytes at) v width reach inside)

pub others-after : (rule : Rule) (at : ℕ) (v : ℤ) (bytes new : ℕ → ℕ) → HasWidth rule.form rule.width → number_at rule.width bytes at < 2 ^ (8 * rule.width) → new ≡ edited rule at v bytes → (i : ℕ) → Outside rule.form i → bit_at (number_at rule.width new at) i ≡ bit_at (number_at rule.width bytes at) i
others-after rule at v bytes new width below written i outside =
    ap (λ (x : ℕ). bit_at x i) (number_after rule at v bytes new width below written)
    ∙ others rule.form rule.width (number_at rule.width bytes at) v i width below outside

-- ---- for one rule and another name of it
pub reads_back-of : (rule same : Rule) (at : ℕ) (v : ℤ) (new : ℕ → ℕ) → rule ≡ same → ReadsBack rule.form (number_at rule.width new at) v → ReadsBack same.form (number_at same.width new at) v
reads_back-of rule same at v new e = subst (λ (r : Rule). ReadsBack r.form (number_at r.width new at) v) e

pub others-of : (rule same : Rule) (at : ℕ) (bytes new : ℕ → ℕ) → rule ≡ same → ((i : ℕ) → Outside rule.form i → bit_at (number_at rule.width new at) i ≡ bit_at (number_at rule.width bytes at) i) → (i : ℕ) → Outside same.form i → bit_at (number_at same.width new at) i ≡ bit_at (number_at same.width bytes at) i
others-of rule same at bytes new e =
    subst (λ (r : Rule). (i : ℕ) → Outside r.form i → bit_at (number_at r.width new at) i ≡ bit_at (number_at r.width bytes at) i) e

-- ---- the low six bits
-- a byte with its low six bits replaced is the new number
pub low_six-written : (form : Form) (w old byte bits : ℕ) (v : ℤ) → form ≡ LowSix → HasWidth form w → byte ≡ with_bits 0 6 old (bits % 2 ^ 6) → byte < 2 ^ 8 → bits % 2 ^ 6 ≡ low_of 6 v → byte % 2 ^ (8 * w) ≡ new_number form (8 * w) old v
low_six-written form w old byte bits v is width e small same =
    let one : w ≡ 1 = rw is at width in
    rw (is, one) (mod-eq_of_lt small ∙ e ∙ ap (with_bits 0 6 old) same)

pub low_six-subtracted : (form : Form) (w old byte bits : ℕ) (v : ℤ) → form ≡ LowSixDifference → HasWidth form w → byte ≡ with_bits 0 6 old (bits % 2 ^ 6) → byte < 2 ^ 8 → bits % 2 ^ 6 ≡ low_of 6 (pos old -ℤ v) → byte % 2 ^ (8 * w) ≡ new_number form (8 * w) old v
low_six-subtracted form w old byte bits v is width e small same =
    let one : w ≡ 1 = rw is at width in
    rw (is, one) (mod-eq_of_lt small ∙ e ∙ ap (with_bits 0 6 old) same)
