-- What is written to cells and stubs.
use Rattle.std.proofs.Common.{◌≡◌, ℕ, ◌-◌, ◌<◌, ◌^◌, ◌%◌, true, [], ◌∷◌, ℤ, pos, refl, sym, ap, ◌∙◌, arith}
use Rattle.std.specs.Prelude.{◌-ℤ◌, IsSome}
use Rattle.orc_words.specs.Numbers.{with_number}
use Rattle.link_model.specs.Kinds.{row_of, rule_of, in_span, edited}
use Rattle.link_model.specs.Image.{written, stub_bytes, KIND_64, KIND_CALL}

small_mod : (a : ℕ) → a < 2 ^ 64 → a % 2 ^ 64 ≡ a
small_mod a h = omega (arith, h)

-- an address is a number of eight bytes
pub cell_written : (at a : ℕ) (bytes new : ℕ → ℕ) → a < 2 ^ 64 → new ≡ with_number 8 at a bytes → new ≡ written (record { at = at; kind = KIND_64; value = pos a }) bytes
unfolding row_of edited
cell_written at a bytes new small e = e ∙ ap (λ (n : ℕ). with_number 8 at n bytes) (sym (small_mod a small))

-- a cell is within reach of its stub
pub within_reach : (cell at : ℕ) → cell < 2 ^ 27 → at < 2 ^ 27 → in_span (rule_of KIND_CALL).span (pos cell -ℤ pos at) ≡ true
unfolding row_of
within_reach cell at c a = grind arith

pub call_known : IsSome (row_of KIND_CALL)
unfolding row_of
call_known = refl

pub call_width : (rule_of KIND_CALL).width ≡ 8
unfolding row_of
call_width = refl

pub stub_written : (at : ℕ) (v w : ℤ) (bytes new : ℕ → ℕ) → v ≡ w → new ≡ edited (rule_of KIND_CALL) at v bytes → new ≡ written (record { at = at; kind = KIND_CALL; value = w }) bytes
unfolding row_of
stub_written at v w bytes new same e = e ∙ ap (λ (z : ℤ). edited (rule_of KIND_CALL) at z bytes) same

-- the words of a stub, as the program has them
pub stub_words : stub_bytes ≡ 0x17 ∷ 0x0e ∷ 0 ∷ 0 ∷ 0x03 ∷ 0x3e ∷ 0x0e ∷ 0 ∷ 0x67 ∷ 0x03 ∷ 0x0e ∷ 0 ∷ 0x13 ∷ 0 ∷ 0 ∷ 0 ∷ []
stub_words = refl
