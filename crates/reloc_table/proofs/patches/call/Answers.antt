use Rattle.std.proofs.Common.{◌≡◌, ℕ, ◌<◌, ◌/◌, ◌^◌, to_z, of_z, w64, sym, ap, ◌∙◌, arith}
use Rattle.std.proofs.lemmas.Nat.{and_mask}
use Rattle.std.proofs.lemmas.Int.{to_z-of_z}
use Rattle.orc_words.specs.Bits.{bits_at, low_of}
use Rattle.orc_words.specs.Immediates.{with_u, with_i}
use Rattle.orc_words.proofs.Fields.{bits_at-lowest}
use Rattle.link_model.specs.Kinds.{up_of}
use Rattle.reloc_table.proofs.patches.call.Goals as goal

second_word : (old : ℕ) → old < 2 ^ 64 → old / 4294967296 ≡ bits_at 32 32 old
unfolding bits_at
second_word old h = omega arith

pub returns : goal.returns
returns c =
    let same : to_z w64 (of_z w64 c.args.v) ≡ c.args.v = to_z-of_z w64 c.args.v c.ranges.v in
    let first = and_mask c.args.old 32 ∙ sym (bits_at-lowest 32 c.args.old) in
    let second = second_word c.args.old c.ranges.old.fits in
    let upper : c.with_u-first.result ≡ with_u (bits_at 0 32 c.args.old) (up_of c.args.v) =
    c.with_u-first.ensures.exact ∙ ap (λ (x : ℕ). with_u x c.upper_part.result) first
    ∙ ap (with_u (bits_at 0 32 c.args.old)) (c.upper_part.ensures.exact ∙ ap up_of same) in
    let lower : c.with_i-second.result ≡ with_i (bits_at 32 32 c.args.old) (low_of 12 c.args.v) =
    c.with_i-second.ensures.exact ∙ ap (λ (x : ℕ). with_i x c.low_bits.result) second
    ∙ ap (with_i (bits_at 32 32 c.args.old)) (c.low_bits.ensures.exact ∙ ap (low_of 12) same) in
    omega (arith, upper, lower)
