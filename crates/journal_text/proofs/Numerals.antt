-- Numerals are made of digits, and read by their value.
use Rattle.std.proofs.Common.{◌≡◌, ℕ, suc, ◌-◌, ◌<◌, ◌≤◌, ◌⊎◌, inl, inr, Bool, true, false, cond, not, ◌&&◌, ◌||◌, ◌==◌, nat_lt, List, [], ◌∷◌, ℤ, pos, negsuc, refl, ap, ◌∙◌, subst, arith, if◌then◌else◌, ⊎_elim, decimal, bytes_eq, nat_eq, codes}
use Rattle.std.specs.Char.{digit_value}
use Rattle.std.specs.Fmt.{signed_decimal}
use Rattle.std.specs.Str.Parse.{AllDigits, digits_value}
use Rattle.std.proofs.lemmas.Bool.{and_left, both_ways, and_parts, and_from, or_cases, or_left, or_right, lt-ltb, le-ltb, ltb-true, ne_eqb, cases_lt, not_from_false}
use Rattle.std.proofs.lemmas.Str.Parse.{digit_from_value}
use Rattle.std.proofs.lemmas.Fmt.{decimal_is_IsNumeral, digits_is_IsNumeral}
use Rattle.text_parts.specs.Hexadecimal.{hex}
use Rattle.journal_text.specs.Readable.{IsNumber, IsSigned}
use Rattle.journal_text.proofs.Cuts.{every, every_so, solid}

-- digits and letters
abbrev pub glyph : ℕ → Bool
glyph b = nat_lt 47 b && (nat_lt b 58 || nat_lt 64 b)

glyph_parts : (b : ℕ) → glyph b ≡ true → (47 < b) × ((b < 58) ⊎ (64 < b))
glyph_parts b e =
    let p = and_parts (nat_lt 47 b) (nat_lt b 58 || nat_lt 64 b) e in
    (ltb-true 47 b p.0, ⊎_elim (λ s. inl (ltb-true b 58 s)) (λ s. inr (ltb-true 64 b s)) (or_cases (nat_lt b 58) (nat_lt 64 b) p.1))

digit_glyph : (c : ℕ) → digit_value c < 16 → glyph c ≡ true
digit_glyph c small = ⊎_elim low high (cases_lt c 48)
  where
    low : c < 48 → glyph c ≡ true
    low l =
        let e : digit_value c ≡ 36 = ap (λ (t : Bool). cond t 36 (cond (nat_lt c 58) (c - 48) (cond (nat_lt c 65) 36 (cond (nat_lt c 91) (c - 55) (cond (nat_lt c 97) 36 (cond (nat_lt c 123) (c - 87) 36)))))) (lt-ltb c 48 l) in
        absurd (omega arith)

    middle : 48 ≤ c → 58 ≤ c → c < 65 → ⊥
    middle a b l =
        let p = le-ltb c 48 a in
        let q = le-ltb c 58 b in
        let r = lt-ltb c 65 l in
        let e : digit_value c ≡ 36 = λ i. cond (p i) 36 (cond (q i) (c - 48) (cond (r i) 36 (cond (nat_lt c 91) (c - 55) (cond (nat_lt c 97) 36 (cond (nat_lt c 123) (c - 87) 36))))) in
        omega arith

    high : 48 ≤ c → glyph c ≡ true
    high a = and_from (nat_lt 47 c) (nat_lt c 58 || nat_lt 64 c) (lt-ltb 47 c (omega arith))
        (⊎_elim (λ l. or_left (nat_lt c 58) (nat_lt 64 c) (lt-ltb c 58 l))
        (λ b. ⊎_elim (λ l. absurd (middle a b l)) (λ g. or_right (nat_lt c 58) (nat_lt 64 c) (lt-ltb 64 c (omega arith))) (cases_lt c 65))
        (cases_lt c 58))

pub digits_glyphs : (base : ℕ) → base ≤ 16 → (ds : List ℕ) → AllDigits base ds → every glyph ds ≡ true
digits_glyphs base most [] d = refl
digits_glyphs base most (c ∷ cs) d = and_from (glyph c) (every glyph cs) (digit_glyph c (omega (arith, d.0))) (digits_glyphs base most cs d.1)

-- what a numeral counts
abbrev pub value : List ℕ → ℕ
value w = digits_value 10 w

pub value-decimal : (n : ℕ) → IsNumber n → value (decimal n) ≡ n
value-decimal n small = (decimal_is_IsNumeral n small).1

pub decimal_glyphs : (n : ℕ) → IsNumber n → every glyph (decimal n) ≡ true
decimal_glyphs n small = digits_glyphs 10 (omega arith) (decimal n) (decimal_is_IsNumeral n small).0.1

abbrev pub hex_value : List ℕ → ℕ
hex_value w = digits_value 16 w

hex_numeral : (n : ℕ) → IsNumber n → AllDigits 16 (hex n) × (hex_value (hex n) ≡ n)
hex_numeral n small = let p = digits_is_IsNumeral 16 false (omega arith) (omega arith) n (omega arith) in (p.0.1, p.1)

pub value-hex : (n : ℕ) → IsNumber n → hex_value (hex n) ≡ n
value-hex n small = (hex_numeral n small).1

pub hex_glyphs : (n : ℕ) → IsNumber n → every glyph (hex n) ≡ true
hex_glyphs n small = digits_glyphs 16 (omega arith) (hex n) (hex_numeral n small).0

-- the test passes digits and letters
abbrev pub Passes : (ℕ → Bool) → Type 0
Passes test = (b : ℕ) → glyph b ≡ true → test b ≡ true

-- they are no blanks, and none of the marks of lists
pub solid_passes : Passes (nat_lt 32)
solid_passes b e = lt-ltb 32 b (omega (arith, glyph_parts b e))

pub free_passes : (mark : ℕ) → glyph mark ≡ false → Passes (λ b. not (b == mark))
free_passes mark other b e = not_from_false (b == mark) (ne_eqb b mark (λ same. both_ways (glyph mark) other (subst (λ m. glyph m ≡ true) same e)))

pub decimal_passes : (test : ℕ → Bool) → Passes test → (n : ℕ) → IsNumber n → every test (decimal n) ≡ true
decimal_passes test passes n small = every_so glyph test passes (decimal n) (decimal_glyphs n small)

pub hex_passes : (test : ℕ → Bool) → Passes test → (n : ℕ) → IsNumber n → every test (hex n) ≡ true
hex_passes test passes n small = every_so glyph test passes (hex n) (hex_glyphs n small)

pub decimal_solid : (n : ℕ) → IsNumber n → solid (decimal n) ≡ true
decimal_solid n small = decimal_passes (nat_lt 32) solid_passes n small

-- Signed numbers

abbrev pub signed_value : List ℕ → ℤ
signed_value [] = pos 0
signed_value (b ∷ bs) = if b == 45 then negsuc (value bs - 1) else pos (value (b ∷ bs))

unsigned_value : (w : List ℕ) → every glyph w ≡ true → signed_value w ≡ pos (value w)
unsigned_value [] g = refl
unsigned_value (b ∷ bs) g =
    let p = glyph_parts b (and_parts (glyph b) (every glyph bs) g).0 in
    ap (λ t. if t then negsuc (value bs - 1) else pos (value (b ∷ bs))) (ne_eqb b 45 (λ e. omega (arith, p.0, e)))

pub signed_read : (z : ℤ) → IsSigned z → signed_value (signed_decimal z) ≡ z
signed_read (pos n) small = unsigned_value (decimal n) (decimal_glyphs n (omega arith)) ∙ ap pos (value-decimal n (omega arith))
signed_read (negsuc n) small = ap (λ m. negsuc (m - 1)) (value-decimal (suc n) (omega arith)) ∙ ap negsuc (omega arith)

pub signed_solid : (z : ℤ) → IsSigned z → solid (signed_decimal z) ≡ true
signed_solid (pos n) small = decimal_solid n (omega arith)
signed_solid (negsuc n) small = decimal_solid (suc n) (omega arith)

-- A numeral is no equals sign, and none begins a reply

abbrev pub is_equals : List ℕ → Bool
is_equals w = bytes_eq w (codes "=")

glyphs_no_equals : (w : List ℕ) → every glyph w ≡ true → is_equals w ≡ false
glyphs_no_equals [] g = refl
glyphs_no_equals (b ∷ bs) g = and_left (nat_eq b 61) (bytes_eq bs []) (ne_eqb b 61 (λ e. omega (arith, e, glyph_parts b (and_parts (glyph b) (every glyph bs) g).0)))

pub decimal_no_equals : (n : ℕ) → IsNumber n → is_equals (decimal n) ≡ false
decimal_no_equals n small = glyphs_no_equals (decimal n) (decimal_glyphs n small)

-- the second byte is a letter, as in the first word of each reply
abbrev pub is_reply_word : List ℕ → Bool
is_reply_word [] = false
is_reply_word (b ∷ []) = false
is_reply_word (b ∷ c ∷ cs) = nat_lt 96 c

digits_no_reply : (b : ℕ) (w : List ℕ) → AllDigits 10 w → is_reply_word (b ∷ w) ≡ false
digits_no_reply b [] d = refl
digits_no_reply b (c ∷ cs) d = le-ltb 96 c (omega (arith, digit_from_value c d.0))

pub id_no_reply : (b n : ℕ) → IsNumber n → is_reply_word (b ∷ decimal n) ≡ false
id_no_reply b n small = digits_no_reply b (decimal n) (decimal_is_IsNumeral n small).0.1
