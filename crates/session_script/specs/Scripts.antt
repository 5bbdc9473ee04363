-- The script that bytes give, or their first bad line with the first reason that applies to it.
use Rattle.std.specs.Prelude.{ℕ, ◌+◌, List, [], ◌∷◌, ◌&&◌, not, length, nat_le, codes, Result, Ok, Err, if◌then◌else◌}
use Rattle.std.specs.List.{list_any}
use Rattle.std.specs.Str.{bytes_eq}
use Rattle.session_script.specs.declared.error.ScriptWhy.{ScriptWhy}
use Rattle.session_script.specs.declared.error.ScriptWhy.TheVariants as why
use Rattle.session_script.specs.declared.error.ScriptError.{ScriptError}
use Rattle.session_script.specs.declared.error.ScriptError.TheVariants.{BadLine, NoMemory}
use Rattle.session_script.specs.declared.error.Refusal.{Refusal}
use Rattle.session_script.specs.declared.error.Refusal.TheVariants as refusal
use Rattle.session_script.specs.declared.limits.TheConstants.{LINE_LIMIT, SIZE_LIMIT}
use Rattle.session_script.specs.declared.script.Script.{Script}
use Rattle.session_script.specs.Words.{parts, space, lines_of, text_of_line, is_skipped, is_barred, is_spaced}
use Rattle.session_script.specs.Known.{Known, nothing_known, clients_of, checked}
use Rattle.session_script.specs.Setup.{setup_word, setup_line}
use Rattle.session_script.specs.Client.{client_word, with_client_ended, client_line, call_line}

-- Setup lines stand before the first `client`, and a client's lines after its own.
abbrev pub worded_line : Known → List (List ℕ) → Result Known ScriptWhy
worded_line k [] = Err why.Word
worded_line k (first ∷ operands) =
    if bytes_eq first (codes "client") then client_line k operands else
    if k.begun then call_line k (client_word first) operands else
    setup_line k (setup_word first) operands

-- a line, without its newline, that isn't past the limits
abbrev pub line_in : Known → List ℕ → Result Known ScriptWhy
line_in k text =
    if is_skipped text then Ok k else
    checked (not (list_any is_barred text) && is_spaced (parts space text)) why.Bytes
    (worded_line k (parts space text))

-- a line with its number, and the number of bytes up to its end
abbrev pub numbered_line : Known → ℕ → ℕ → List ℕ → Result Known ScriptWhy
numbered_line k number size text =
    checked (nat_le number LINE_LIMIT && nat_le size SIZE_LIMIT) why.TooLong (line_in k text)

-- what is known after a line, or that it is the first bad one
abbrev pub going_on : ℕ → Result Known ScriptWhy → (Known → Result Known ScriptError) → Result Known ScriptError
going_on number (Ok k) next = next k
going_on number (Err why) next = Err (BadLine number why)

-- the lines from here on, after so many lines and bytes
abbrev pub lines_from : Known → ℕ → ℕ → List (List ℕ) → Result Known ScriptError
lines_from k number size [] = Ok k
lines_from k number size (line ∷ lines) =
    going_on (number + 1) (numbered_line k (number + 1) (size + length line) (text_of_line line))
    (λ next. lines_from next (number + 1) (size + length line) lines)

abbrev pub script_of_known : Known → Script
script_of_known k = record { setup = k.setup; clients = clients_of k; files = k.files; names = k.names }

-- the script of what is known once the last client is ended
abbrev pub script_of_ended : Known → Script
script_of_ended k = record { setup = k.setup; clients = if k.begun then k.earlier else []; files = k.files; names = k.names }

-- what is known after all lines, and the last client's end
abbrev pub ended : Result Known ScriptError → Result Known ScriptError
ended (Ok k) = Ok (with_client_ended k)
ended (Err error) = Err error

abbrev pub finished : Result Known ScriptError → Result Script ScriptError
finished (Ok k) = Ok (script_of_known k)
finished (Err error) = Err error

-- the script of bytes, where there are so many notes
abbrev pub script_of : ℕ → List ℕ → Result Script ScriptError
script_of notes bytes = finished (lines_from (nothing_known notes) 0 0 (lines_of bytes))

-- why there is no script, where the line of this number wasn't read
abbrev pub error_of : ℕ → Refusal → ScriptError
error_of number (refusal.Line why) = BadLine number why
error_of number refusal.NoMemory = NoMemory
