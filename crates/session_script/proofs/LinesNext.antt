-- One line of a script, and the lines after it.
use Rattle.std.proofs.Common.{◌≡◌, ◌≢◌, ℕ, ◌+◌, ◌-◌, ◌<◌, ◌≤◌, List, [], ◌∷◌, length, refl, sym, ◌∙◌, ap, arith, length-drop}
use Rattle.std.specs.Prelude.{Result, Ok, Err}
use Rattle.session_script.specs.declared.error.Refusal.{Refusal}
use Rattle.session_script.specs.declared.error.Refusal.TheVariants as refusal
use Rattle.session_script.specs.declared.error.ScriptError.{ScriptError}
use Rattle.session_script.specs.declared.error.ScriptError.TheVariants.{NoMemory}
use Rattle.session_script.specs.Words.{newline, before, after, lines_of, text_of_line}
use Rattle.session_script.specs.Known.{Known, IsRefusal}
use Rattle.session_script.specs.Scripts.{numbered_line, going_on, lines_from, error_of}
use Rattle.session_script.proofs.LinesRead.{IsFirstLine, first_line}

-- what a line and the lines after it give
abbrev pub line_and_rest : Known → ℕ → ℕ → List ℕ → List ℕ → Result Known ScriptError
line_and_rest k number size text rest =
    going_on (number + 1) (numbered_line k (number + 1) size text) (λ next. lines_from next (number + 1) size (lines_of rest))

by_line : (k : Known) (number total : ℕ) (bytes line text rest : List ℕ) (all : Result Known ScriptError) → IsFirstLine bytes line → length bytes ≤ total → text ≡ before newline bytes → rest ≡ after newline bytes → lines_from k number (total - length bytes) (lines_of bytes) ≡ all → line_and_rest k number (total - length rest) text rest ≡ all
by_line k number total bytes line text rest all first within is_text is_rest so_far =
    let size : total - length rest ≡ total - length bytes + length line = omega (arith, first.size, ap length is_rest) in
    ap (λ s. line_and_rest k number s text rest) size
    ∙ ap (λ t. line_and_rest k number (total - length bytes + length line) t rest) (is_text ∙ sym first.text)
    ∙ ap (line_and_rest k number (total - length bytes + length line) (text_of_line line)) is_rest
    ∙ sym (ap (lines_from k number (total - length bytes)) first.lines)
    ∙ so_far

cut_line : (k : Known) (number total : ℕ) (bytes text rest : List ℕ) (all : Result Known ScriptError) → 0 < length bytes → length bytes ≤ total → text ≡ before newline bytes → rest ≡ after newline bytes → lines_from k number (total - length bytes) (lines_of bytes) ≡ all → line_and_rest k number (total - length rest) text rest ≡ all
cut_line k number total [] text rest all some within is_text is_rest so_far = absurd (omega arith)
cut_line k number total (b ∷ bytes) text rest all some within is_text is_rest so_far =
    let first = first_line b bytes in
    by_line k number total (b ∷ bytes) (first.0) text rest all (first.1) within is_text is_rest so_far

-- after a good line the rest is read
pub next_lines : (k next : Known) (number total : ℕ) (bytes text rest : List ℕ) (all : Result Known ScriptError) → 0 < length bytes → length bytes ≤ total → text ≡ before newline bytes → rest ≡ after newline bytes → lines_from k number (total - length bytes) (lines_of bytes) ≡ all → numbered_line k (number + 1) (total - length rest) text ≡ Ok next → lines_from next (number + 1) (total - length rest) (lines_of rest) ≡ all
next_lines k next number total bytes text rest all some within is_text is_rest so_far good =
    sym (ap (λ r. going_on (number + 1) r (λ next. lines_from next (number + 1) (total - length rest) (lines_of rest))) good)
    ∙ cut_line k number total bytes text rest all some within is_text is_rest so_far

-- a line that isn't good is the first bad one
pub bad_line : (k : Known) (number total : ℕ) (bytes text rest : List ℕ) (all : Result Known ScriptError) (why : Refusal) → 0 < length bytes → length bytes ≤ total → text ≡ before newline bytes → rest ≡ after newline bytes → lines_from k number (total - length bytes) (lines_of bytes) ≡ all → IsRefusal (numbered_line k (number + 1) (total - length rest) text) why → error_of (number + 1) why ≢ NoMemory → all ≡ Err (error_of (number + 1) why)
bad_line k number total bytes text rest all (refusal.Line why) some within is_text is_rest so_far bad other =
    sym (cut_line k number total bytes text rest all some within is_text is_rest so_far)
    ∙ ap (λ r. going_on (number + 1) r (λ next. lines_from next (number + 1) (total - length rest) (lines_of rest))) bad
bad_line k number total bytes text rest all refusal.NoMemory some within is_text is_rest so_far bad other = absurd (other refl)

-- what is left after a cut is no longer than the whole
pub rest_within : (bytes rest whole : List ℕ) → rest ≡ after newline bytes → length bytes ≤ length whole → length rest ≤ length whole
rest_within bytes rest whole is_rest within = rw is_rest (simp length-drop (omega arith))
