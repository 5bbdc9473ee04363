-- The lines of a client. Each takes what is known and the words after its first one.
use Rattle.std.specs.Prelude.{ℕ, ◌+◌, Bool, true, List, [], ◌∷◌, ◌++◌, ◌&&◌, not, length, map, nat_lt, nat_le, codes, unwrap_or, is_some, Option, Some, None, Result, Ok, Err, if◌then◌else◌}
use Rattle.std.specs.Str.{bytes_eq}
use Rattle.orc_ids.specs.declared.limits.TheConstants.{ORDER_LIMIT, WANTED_LIMIT}
use Rattle.session_script.specs.declared.error.ScriptWhy.{ScriptWhy}
use Rattle.session_script.specs.declared.error.ScriptWhy.TheVariants as why
use Rattle.session_script.specs.declared.limits.TheConstants.{ARG_LIMIT, CLIENT_LIMIT}
use Rattle.session_script.specs.declared.script.LookupLine.{LookupLine}
use Rattle.session_script.specs.declared.script.ClientLine.TheVariants as line
use Rattle.session_script.specs.declared.client.ClientWord.{ClientWord}
use Rattle.session_script.specs.declared.client.ClientWord.TheVariants as word
use Rattle.session_script.specs.Texts.{has}
use Rattle.session_script.specs.Words.{parts, comma, is_empty, is_name, is_symbol, unmarked}
use Rattle.session_script.specs.Known.{Known, tracker_in, name_in, with_name, with_call, checked, after_good}
use Rattle.session_script.specs.Forms.{are_items, are_declared, order_of, is_level, level_of, are_wanted, wanted_in, fuel_in, argument_in, are_arguments}
use Rattle.session_script.specs.Setup.{file_line, with_names}

-- the number of the client that comes next
abbrev pub client_count : Known → ℕ
client_count k = if k.begun then length k.earlier + 1 else 0

-- once the current lines are those of an earlier client, if one was begun
abbrev pub with_client_ended : Known → Known
with_client_ended k = record k { earlier = if k.begun then k.earlier ++ k.current ∷ [] else k.earlier; current = [] }

-- once the lines that come are those of one more client
abbrev pub with_client : Known → Known
with_client k = record (with_client_ended k) { begun = true }

-- client
abbrev pub client_line : Known → List (List ℕ) → Result Known ScriptWhy
client_line k [] =
    checked (nat_lt (client_count k) CLIENT_LIMIT) why.TooMany
    (Ok (with_client k))
client_line k (_ ∷ _) = Err why.Count

-- define D T FILE
abbrev pub define_line : Known → List (List ℕ) → Result Known ScriptWhy
define_line k operands = after_good (file_line k operands) (λ p. Ok (with_call (p.0) (line.Define (p.1.0) (p.1.1) (p.1.2))))

-- LEVEL ORDER NAME .., where a note is left for it or none is needed: the lookup, and what is then known
abbrev pub looked_up : Known → Bool → List ℕ → List (List ℕ) → List (List ℕ) → Result (Known × LookupLine) ScriptWhy
looked_up k noted level items words =
    checked (are_wanted words) why.Name
    (checked (is_level level && are_items items) why.Order
    (checked (are_declared k.dylibs items) why.Unknown
    (checked noted why.NoNote
    (checked (nat_le (length items) ORDER_LIMIT && nat_le (length words) WANTED_LIMIT) why.TooMany
    (let named = with_names k (map unmarked words) in
    Ok (
      named,
      record {
        level = level_of level;
        order = order_of k.dylibs items;
        wanted = map (wanted_in named.names) words;
      },
    ))))))

abbrev pub looking_up : Known → Bool → List (List ℕ) → Result (Known × LookupLine) ScriptWhy
looking_up k noted (level ∷ order ∷ words) =
    checked (not (is_empty words)) why.Count (looked_up k noted level (parts comma order) words)
looking_up k noted _ = Err why.Count

-- lookup LEVEL ORDER NAME ..
abbrev pub lookup_line : Known → List (List ℕ) → Result Known ScriptWhy
lookup_line k operands = after_good (looking_up k true operands) (λ looked. Ok (with_call (looked.0) (line.Lookup (looked.1))))

-- watch LEVEL ORDER NAME ..
abbrev pub watch_line : Known → List (List ℕ) → Result Known ScriptWhy
watch_line k operands =
    after_good (looking_up k (nat_lt k.watches k.notes) operands)
    (λ looked. Ok (with_call (record (looked.0) { watches = k.watches + 1 }) (line.Watch k.watches (looked.1))))

-- move T T
abbrev pub move_line : Known → List (List ℕ) → Result Known ScriptWhy
move_line k (t ∷ to ∷ []) =
    checked (is_name t && is_name to) why.Name
    (checked (has t k.trackers && has to k.trackers) why.Unknown
    (Ok (with_call k (line.Move (tracker_in k t) (tracker_in k to)))))
move_line k _ = Err why.Count

-- remove T
abbrev pub remove_line : Known → List (List ℕ) → Result Known ScriptWhy
remove_line k (t ∷ []) =
    checked (is_name t) why.Name
    (checked (has t k.trackers) why.Unknown
    (Ok (with_call k (line.Remove (tracker_in k t)))))
remove_line k _ = Err why.Count

-- run NAME FUEL ARG ..
abbrev pub run_by : Known → List ℕ → List ℕ → List (List ℕ) → Result Known ScriptWhy
run_by k name fuel words =
    checked (is_symbol name) why.Name
    (checked (is_some (fuel_in fuel) && are_arguments words) why.Number
    (let named = with_name k name in
    Ok (with_call named (line.Run (name_in named name) (unwrap_or (fuel_in fuel) 0) (map (λ word. unwrap_or (argument_in word) 0) words)))))

abbrev pub run_line : Known → List (List ℕ) → Result Known ScriptWhy
run_line k (name ∷ fuel ∷ words) = checked (nat_le (length words) ARG_LIMIT) why.Count (run_by k name fuel words)
run_line k _ = Err why.Count

-- peek NAME
abbrev pub peek_line : Known → List (List ℕ) → Result Known ScriptWhy
peek_line k (name ∷ []) =
    checked (is_symbol name) why.Name
    (let named = with_name k name in
    Ok (with_call named (line.Peek (name_in named name))))
peek_line k _ = Err why.Count

-- the first words of these lines
abbrev pub client_word : List ℕ → Option ClientWord
client_word w =
    if bytes_eq w (codes "define") then Some word.Define else
    if bytes_eq w (codes "lookup") then Some word.Lookup else
    if bytes_eq w (codes "watch") then Some word.Watch else
    if bytes_eq w (codes "move") then Some word.Move else
    if bytes_eq w (codes "remove") then Some word.Remove else
    if bytes_eq w (codes "run") then Some word.Run else
    if bytes_eq w (codes "peek") then Some word.Peek else None

abbrev pub call_line : Known → Option ClientWord → List (List ℕ) → Result Known ScriptWhy
call_line k (Some word.Define) operands = define_line k operands
call_line k (Some word.Lookup) operands = lookup_line k operands
call_line k (Some word.Watch) operands = watch_line k operands
call_line k (Some word.Move) operands = move_line k operands
call_line k (Some word.Remove) operands = remove_line k operands
call_line k (Some word.Run) operands = run_line k operands
call_line k (Some word.Peek) operands = peek_line k operands
call_line k None operands = Err why.Word
