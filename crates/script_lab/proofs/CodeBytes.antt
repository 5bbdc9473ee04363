-- One more byte of the code.
use Rattle.std.proofs.Common.{◌≡◌, ℕ, ◌+◌, List, [], ◌∷◌, ◌++◌, sym, ap, ◌∙◌, zero-add}
use Rattle.std.specs.Prelude.{slice_index_or, ◌%◌}
use Rattle.std.proofs.lemmas.List.FromFn.{map-range_with_len_more}
use Rattle.script_lab.specs.Units.{code_bytes, code_of}

pub byte_more : (answer k byte : ℕ) (bytes more : List ℕ) → more ≡ bytes ++ byte ∷ [] → bytes ≡ code_bytes answer k → byte ≡ slice_index_or (code_of answer) (k % 8) 0 → more ≡ code_bytes answer (k + 1)
byte_more answer k byte bytes more grown before is =
    grown
    ∙ ap (λ bs. bs ++ byte ∷ []) before
    ∙ ap (λ b. code_bytes answer k ++ b ∷ []) is
    ∙ sym (map-range_with_len_more (λ j. slice_index_or (code_of answer) (j % 8) 0) 0 k k (zero-add k))
