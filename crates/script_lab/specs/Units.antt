-- A unit of the laboratory: it is given by lists, and its code answers a number.
use Rattle.std.specs.Prelude.{ℕ, ◌*◌, ◌/◌, ◌%◌, List, [], ◌∷◌, map, slice_index_or}
use Rattle.std.specs.List.{range_with_len}
use Rattle.std.specs.Option.{option_map_or}
use Rattle.session_check.specs.Known.{known_meaning}
use Rattle.session_model.specs.Meaning.{Meaning}
use Rattle.script_lab.specs.declared.unit.LabUnit.{LabUnit}

-- the bytes of `addi a0, zero, answer` and `jalr zero, 0(ra)`
abbrev pub code_of : ℕ → List ℕ
code_of answer = 0x13 ∷ 0x05 ∷ answer % 16 * 16 ∷ answer / 16 ∷ 0x67 ∷ 0x80 ∷ 0 ∷ 0 ∷ []

-- so many bytes of this code, again and again
abbrev pub code_bytes : ℕ → ℕ → List ℕ
code_bytes answer need = map (λ k. slice_index_or (code_of answer) (k % 8) 0) (range_with_len 0 need)

-- the same, but its bytes are the code
abbrev pub with_code : ℕ → Meaning → Meaning
with_code answer u = record u { image = λ live base bound. code_bytes answer (option_map_or (λ s. s.need) (u.shape live) 0) }

abbrev pub lab_meaning : LabUnit → Meaning
lab_meaning u = with_code u.answer (known_meaning u.known)
