-- What zeros leave of a section.
use Rattle.std.proofs.Common.{◌≡◌, ℕ, ◌+◌, refl, ap, inl, inr}
use Rattle.std.proofs.lemmas.Bool.{cases_Bool}
use Rattle.std.proofs.lemmas.List.{length-replicate}
use Rattle.asm_state.specs.Sections.{Made, is_bss, with_zeros}

pub zeros_size : (n : ℕ) (m : Made) → (with_zeros n m).size ≡ m.size + n
zeros_size n m = elim (cases_Bool (is_bss m.kind)) [
  | inl t ↦ rw t refl
  | inr f ↦ rw f (ap (λ k. m.size + k) (length-replicate n 0))
]

pub zeros_kind : (n : ℕ) (m : Made) → (with_zeros n m).kind ≡ m.kind
zeros_kind n m = elim (cases_Bool (is_bss m.kind)) [
  | inl t ↦ rw t refl
  | inr f ↦ rw f refl
]
