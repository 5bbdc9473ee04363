-- The first line of bytes, where a newline cuts them.
use Rattle.std.proofs.Common.{◌≡◌, ℕ, suc, ◌+◌, false, List, [], ◌∷◌, length, take, drop, inl, inr, refl, sym, ◌∙◌, ap, arith}
use Rattle.std.specs.List.{position_or_len}
use Rattle.std.proofs.lemmas.Bool.{cases_Bool}
use Rattle.session_script.specs.Words.{is_byte, newline, before, after, lines_of, text_of_line}

-- the line that bytes begin with, beside what a cut at the first newline gives
pub record IsFirstLine (bytes line : List ℕ) : Type 0 where
  pub lines : lines_of bytes ≡ line ∷ lines_of (after newline bytes)
  pub text : text_of_line line ≡ before newline bytes
  pub size : length line + length (after newline bytes) ≡ length bytes

later_place : (b : ℕ) (bytes : List ℕ) → is_byte newline b ≡ false → position_or_len (is_byte newline) (b ∷ bytes) ≡ suc (position_or_len (is_byte newline) bytes)
later_place b bytes other = rw other (omega arith)

before_later : (b : ℕ) (bytes : List ℕ) → is_byte newline b ≡ false → before newline (b ∷ bytes) ≡ b ∷ before newline bytes
before_later b bytes other = ap (λ n. take n (b ∷ bytes)) (later_place b bytes other)

after_later : (b : ℕ) (bytes : List ℕ) → is_byte newline b ≡ false → after newline (b ∷ bytes) ≡ after newline bytes
after_later b bytes other =
    let place : position_or_len (is_byte newline) (b ∷ bytes) + 1 ≡ suc (position_or_len (is_byte newline) bytes + 1) = omega (arith, later_place b bytes other) in
    ap (λ n. drop n (b ∷ bytes)) place

-- a byte that is no newline stands before the first line of what follows
longer_line : (b c : ℕ) (bytes line : List ℕ) → is_byte newline b ≡ false → IsFirstLine (c ∷ bytes) line → IsFirstLine (b ∷ c ∷ bytes) (b ∷ line)
longer_line b c bytes line other first = record {
  lines = rw (after_later b (c ∷ bytes) other) (rw (other, first.lines) refl);
  text = before_later b line other ∙ ap (λ text. b ∷ text) first.text ∙ sym (before_later b (c ∷ bytes) other);
  size = rw (after_later b (c ∷ bytes) other) (omega (arith, first.size));
}

pub first_line : (b : ℕ) (bytes : List ℕ) → (line : List ℕ) × IsFirstLine (b ∷ bytes) line
first_line b [] = elim (cases_Bool (is_byte newline b)) [
  | inl t ↦ (b ∷ [], record { lines = rw t refl; text = rw t refl; size = rw t refl })
  | inr f ↦ (b ∷ [], record { lines = rw f refl; text = refl; size = rw f refl })
]
first_line b (c ∷ bytes) = elim (cases_Bool (is_byte newline b)) [
  | inl t ↦ (b ∷ [], record { lines = rw t refl; text = rw t refl; size = rw t (omega arith) })
  | inr f ↦ let later = first_line c bytes in (b ∷ later.0, longer_line b c bytes later.0 f later.1)
]
