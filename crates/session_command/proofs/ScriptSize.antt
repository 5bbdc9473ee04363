-- A script has no more bytes than it may.
use Rattle.std.proofs.Common.{arith, ◌≡◌, ℕ, suc, ◌+◌, ◌≤◌, Bool, true, false, List, [], ◌∷◌, length, Result, Ok, Err, refl}
use Rattle.std.specs.Prelude.{◌==◌, ◌&&◌, nat_le}
use Rattle.std.specs.Bool.{if◌then◌else◌}
use Rattle.std.proofs.lemmas.Bool.{and_parts, leb-true}
use Rattle.session_script.specs.Known.{Known, nothing_known}
use Rattle.session_script.specs.Scripts.{finished, lines_from, numbered_line, script_of}
use Rattle.session_script.specs.Words.{lines_of, newline, onto_first_line, text_of_line}
use Rattle.session_script.specs.declared.error.ScriptError.{ScriptError}
use Rattle.session_script.specs.declared.limits.TheConstants.{LINE_LIMIT, SIZE_LIMIT}
use Rattle.session_script.specs.declared.script.Script.{Script}
use Rattle.session_script.proofs.Checks.{good_line, passed}

-- the bytes of lines
abbrev total : List (List ℕ) → ℕ
total [] = 0
total (line ∷ lines) = length line + total lines

onto_total : (b : ℕ) (lines : List (List ℕ)) → total (onto_first_line b lines) ≡ suc (total lines)
onto_total b [] = omega arith
onto_total b (line ∷ lines) = omega arith

lines_total : (bytes : List ℕ) → total (lines_of bytes) ≡ length bytes
lines_total [] = refl
lines_total (b ∷ bs) = by (lines_total bs) (b == newline)
  where
    by : total (lines_of bs) ≡ length bs → (c : Bool) → total (if c then (b ∷ []) ∷ lines_of bs else onto_first_line b (lines_of bs)) ≡ suc (length bs)
    by rest true = omega (arith, rest)
    by rest false = omega (arith, rest, onto_total b (lines_of bs))

lines_fit : (k last : Known) (number size : ℕ) (lines : List (List ℕ)) → size ≤ SIZE_LIMIT → lines_from k number size lines ≡ Ok last → size + total lines ≤ SIZE_LIMIT
lines_fit k last number size [] few read = omega (arith, few)
lines_fit k last number size (line ∷ lines) few read =
    let first = good_line (number + 1) (numbered_line k (number + 1) (size + length line) (text_of_line line)) _ last read in
    let room = passed (nat_le (number + 1) LINE_LIMIT && nat_le (size + length line) SIZE_LIMIT) _ _ first.0 first.1 in
    let within = leb-true (size + length line) SIZE_LIMIT (and_parts (nat_le (number + 1) LINE_LIMIT) (nat_le (size + length line) SIZE_LIMIT) room.0).1 in
    omega (arith, lines_fit first.0 last (number + 1) (size + length line) lines within first.2)

pub script_fits : (notes : ℕ) (bytes : List ℕ) (script : Script) → script_of notes bytes ≡ Ok script → length bytes ≤ SIZE_LIMIT
script_fits notes bytes script read = by (lines_from (nothing_known notes) 0 0 (lines_of bytes)) refl read
  where
    by : (r : Result Known ScriptError) → lines_from (nothing_known notes) 0 0 (lines_of bytes) ≡ r → finished r ≡ Ok script → length bytes ≤ SIZE_LIMIT
    by (Ok last) is done = omega (arith, lines_fit (nothing_known notes) last 0 0 (lines_of bytes) (omega arith) is, lines_total bytes)
    by (Err e) is done = absurd cc
