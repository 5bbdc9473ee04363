-- One more byte, entry or part.
use Rattle.std.proofs.Common.{◌≡◌, ℕ, suc, ◌+◌, ◌-◌, ◌/◌, ◌%◌, List, [], ◌∷◌, ◌++◌, refl, sym, ap, ◌∙◌, append_assoc}
use Rattle.std.proofs.lemmas.List.{append-nil}
use Rattle.elf_write.specs.Bytes.{number_bytes}
use Rattle.elf_write.specs.Parts.{Part}
use Rattle.elf_write.specs.Files.{Written, with_part, with_parts}

-- the lowest byte of what is left is written
pub next_byte : (out new whole : List ℕ) (left fewer rest : ℕ) → left ≡ suc fewer → out ++ number_bytes left rest ≡ whole → new ≡ out ++ rest % 256 ∷ [] → new ++ number_bytes fewer (rest / 256) ≡ whole
unfolding number_bytes
next_byte out new whole left fewer rest more so_far next =
    let parts : out ++ rest % 256 ∷ number_bytes fewer (rest / 256) ≡ whole = ap (λ k. out ++ number_bytes k rest) (sym more) ∙ so_far in
    rw next (append_assoc out (rest % 256 ∷ []) (number_bytes fewer (rest / 256)) ∙ parts)

pub parts_together : (ps qs : List Part) (w : Written) → with_parts (ps ++ qs) w ≡ with_parts qs (with_parts ps w)
parts_together [] qs w = refl
parts_together (p ∷ ps) qs w = parts_together ps qs (with_part p w)

-- no byte is left
pub all_bytes : (out whole : List ℕ) (left rest : ℕ) → left ≡ 0 → out ++ number_bytes left rest ≡ whole → out ≡ whole
unfolding number_bytes
all_bytes out whole left rest none so_far =
    let done : out ++ [] ≡ whole = ap (λ k. out ++ number_bytes k rest) (sym none) ∙ so_far in
    sym (append-nil out) ∙ done
