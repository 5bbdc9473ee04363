-- The command line: which words are which command.
use Rattle.std.specs.Prelude.{◌≡◌, ℕ, ◌^◌, ◌<◌, ◌≤◌, Bool, true, List, [], ◌∷◌, ◌&&◌, length, map, nat_le, codes, Option, Some, None, unwrap_or, Result, Ok, Err, ⊤, if◌then◌else◌}
use Rattle.std.specs.Str.{bytes_eq}
use Rattle.std.specs.Rc.{rc_str_bytes}
use Rattle.std.specs.declared.rc.RcStr.{RcStr}
use Rattle.clap.specs.Words.{App, Kinds, Row, Rule, all_of, fault_of, first_of, matches_of, new_app, new_rule, with_rule}
use Rattle.clap.specs.declared.builder.action.ArgAction.TheVariants.{Append, Set}
use Rattle.command_line.specs.declared.error.UsageKind.{UsageKind}
use Rattle.command_line.specs.declared.error.UsageKind.TheVariants.{NoCommand, UnknownCommand, BadWords, BadNumber}
use Rattle.command_line.specs.declared.error.CommandError.{CommandError}
use Rattle.command_line.specs.declared.error.CommandError.TheVariants.{Usage, NoMemory}
use Rattle.command_line.specs.declared.command.Command.{Command}
use Rattle.command_line.specs.declared.command.Command.TheVariants as command
use Rattle.command_line.specs.declared.command.RunWords.{RunWords}
use Rattle.command_line.specs.declared.name.CommandName.{CommandName}
use Rattle.command_line.specs.declared.name.CommandName.TheVariants as by_name
use Rattle.command_line.specs.Numbers.{at_most, from_one, number_of, number_or}

-- What is asked of a run: to link the objects in files by so many workers, and to run them from an entry, for at most so
-- many instructions.
pub record Request : Type 0 where
  pub files : List (List ℕ)
  pub entry : List ℕ
  pub fuel : ℕ
  pub workers : ℕ

-- What a command line asks for: a run, a session with so many workers, the object of the assembly text in a file, or a session of so many
-- generated objects.
pub data Asked : Type 0 where
  Run : Request → Asked
  Session : ℕ → Asked
  Assembly : List ℕ → Asked
  Generation : ℕ → Asked

-- The commands, as clap's. None has a help flag.

abbrev pub without_help : App → App
without_help app = record app { top = record (app.top) { disable_help_flag = true } }

-- FILE words, as many as there are
abbrev pub files_rule : Rule
files_rule = record (new_rule (codes "files")) { action = Some Append }

-- one word, which has to be there
abbrev pub word_rule : List ℕ → Rule
word_rule name = record (new_rule name) { required = true; action = Some Set }

-- an option with a value, which may be left out
abbrev pub option_rule : List ℕ → Rule
option_rule name = record (new_rule name) { long = Some name; action = Some Set }

-- run FILE.. [--entry NAME] [--fuel N] [--workers N]
abbrev pub run_app : App
run_app = with_rule (with_rule (with_rule (with_rule (without_help (new_app (codes "run"))) files_rule) (option_rule (codes "entry"))) (option_rule (codes "fuel"))) (option_rule (codes "workers"))

-- session [--workers N]
abbrev pub session_app : App
session_app = with_rule (without_help (new_app (codes "session"))) (option_rule (codes "workers"))

-- as FILE
abbrev pub assembly_app : App
assembly_app = with_rule (without_help (new_app (codes "as"))) (word_rule (codes "file"))

-- gen N
abbrev pub generation_app : App
generation_app = with_rule (without_help (new_app (codes "gen"))) (word_rule (codes "objects"))

-- what is matched where there is no fault
abbrev pub unless_faulty : Kinds → List Row → Option (List Row)
unless_faulty [] rows = Some rows
unless_faulty (fault ∷ faults) rows = None

-- what words match, of which the first is the command's; none where they don't fit it
unfoldable pub matched : App → List (List ℕ) → Option (List Row)
matched app words = unless_faulty (fault_of app words) (matches_of app words)

-- the bytes of words
abbrev pub texts : {Z : Type 0} → List (RcStr Z) → List (List ℕ)
texts words = map rc_str_bytes words

-- What matches give

abbrev pub files_in : List Row → List (List ℕ)
files_in rows = unwrap_or (all_of (codes "files") rows) []

-- the entry: `main` where no value is given
abbrev pub entry_in : List Row → List ℕ
entry_in rows = unwrap_or (first_of (codes "entry") rows) (codes "main")

-- the fuel: 1000000 where no value is given, and at most 2^40
abbrev pub fuel_in : List Row → Option ℕ
fuel_in rows = number_or 1000000 (2 ^ 40) (first_of (codes "fuel") rows)

-- the workers: 0 where no value is given, and at most 16
abbrev pub workers_in : List Row → Option ℕ
workers_in rows = number_or 0 16 (first_of (codes "workers") rows)

-- the objects of a generated session: 1 to 4096
abbrev pub objects_of : List ℕ → Option ℕ
objects_of text = from_one (at_most 4096 (number_of text))

-- at least 1, and at most so many
abbrev pub is_up_to : ℕ → ℕ → Bool
is_up_to most n = nat_le 1 n && nat_le n most

-- A run takes 1 to 1,024 files, and an entry of 1 to 4,096 bytes.
abbrev pub fits_run : List (List ℕ) → List ℕ → Bool
fits_run files entry = is_up_to 1024 (length files) && is_up_to 4096 (length entry)

-- A number that is malformed or too large is told once the words fit.
abbrev pub run_with : List (List ℕ) → List ℕ → Option ℕ → Option ℕ → Result Asked UsageKind
run_with files entry (Some fuel) (Some workers) = Ok (Run (record { files = files; entry = entry; fuel = fuel; workers = workers }))
run_with files entry _ _ = Err BadNumber

abbrev pub run_by : Option (List Row) → Result Asked UsageKind
run_by (Some rows) = if fits_run (files_in rows) (entry_in rows) then run_with (files_in rows) (entry_in rows) (fuel_in rows) (workers_in rows) else Err BadWords
run_by None = Err BadWords

abbrev pub session_with : Option ℕ → Result Asked UsageKind
session_with (Some workers) = Ok (Session workers)
session_with None = Err BadNumber

abbrev pub session_by : Option (List Row) → Result Asked UsageKind
session_by (Some rows) = session_with (workers_in rows)
session_by None = Err BadWords

abbrev pub assembly_with : Option (List ℕ) → Result Asked UsageKind
assembly_with (Some file) = Ok (Assembly file)
assembly_with None = Err BadWords

abbrev pub assembly_by : Option (List Row) → Result Asked UsageKind
assembly_by (Some rows) = assembly_with (first_of (codes "file") rows)
assembly_by None = Err BadWords

abbrev pub generation_with : Option ℕ → Result Asked UsageKind
generation_with (Some objects) = Ok (Generation objects)
generation_with None = Err BadNumber

abbrev pub generation_from : Option (List ℕ) → Result Asked UsageKind
generation_from (Some text) = generation_with (objects_of text)
generation_from None = Err BadWords

abbrev pub generation_by : Option (List Row) → Result Asked UsageKind
generation_by (Some rows) = generation_from (first_of (codes "objects") rows)
generation_by None = Err BadWords

-- what the words of each command ask for, of which the first is the command's
abbrev pub run_of : List (List ℕ) → Result Asked UsageKind
run_of words = run_by (matched run_app words)

abbrev pub session_of : List (List ℕ) → Result Asked UsageKind
session_of words = session_by (matched session_app words)

abbrev pub assembly_of : List (List ℕ) → Result Asked UsageKind
assembly_of words = assembly_by (matched assembly_app words)

abbrev pub generation_of : List (List ℕ) → Result Asked UsageKind
generation_of words = generation_by (matched generation_app words)

-- the command of a name
abbrev pub command_named : List ℕ → Option CommandName
command_named name =
    if bytes_eq name (codes "run") then Some by_name.Run else
    if bytes_eq name (codes "session") then Some by_name.Session else
    if bytes_eq name (codes "as") then Some by_name.As else
    if bytes_eq name (codes "gen") then Some by_name.Gen else None

-- what the words of a command ask for, of which the first is its name
abbrev pub named_command : Option CommandName → List (List ℕ) → Result Asked UsageKind
named_command (Some by_name.Run) words = run_of words
named_command (Some by_name.Session) words = session_of words
named_command (Some by_name.As) words = assembly_of words
named_command (Some by_name.Gen) words = generation_of words
named_command None words = Err UnknownCommand

-- what the words after the program's name ask for
abbrev pub own_command : List (List ℕ) → Result Asked UsageKind
own_command (name ∷ words) = named_command (command_named name) (name ∷ words)
own_command [] = Err NoCommand

-- the words of a command line, of which the first is the program's name
abbrev pub command_of : List (List ℕ) → Result Asked UsageKind
command_of (_ ∷ words) = own_command words
command_of [] = Err NoCommand

-- what the words ask for
abbrev pub asked_by : {Z : Type 0} → List (RcStr Z) → Result Asked UsageKind
asked_by words = command_of (texts words)

-- how little and how much a request asks for
pub record IsWithinLimits (request : Request) : Type 0 where
  pub some_file : 0 < length request.files
  pub few_files : length request.files ≤ 1024
  pub some_name : 0 < length request.entry
  pub short_name : length request.entry ≤ 4096
  pub fuel : request.fuel ≤ 2 ^ 40
  pub workers : request.workers ≤ 16

-- how much a command line may ask for
abbrev pub KeepsLimits : Asked → Type 0
KeepsLimits (Run request) = IsWithinLimits request
KeepsLimits (Session workers) = workers ≤ 16
KeepsLimits (Assembly file) = ⊤
KeepsLimits (Generation objects) = (1 ≤ objects) × (objects ≤ 4096)

-- what words that were read ask for
abbrev pub request : RunWords → Request
request words = record { files = map (λ file. file.now) words.files.items; entry = words.entry.now; fuel = words.fuel; workers = words.workers }

abbrev pub asked_of : Command → Asked
asked_of (command.Run words) = Run (request words)
asked_of (command.Session words) = Session words.workers
asked_of (command.Assembly words) = Assembly words.file.now
asked_of (command.Generation words) = Generation words.objects

-- an error says why the words are refused, unless memory ran out
abbrev pub Explains : Result Asked UsageKind → CommandError → Type 0
Explains asked (Usage kind) = asked ≡ Err kind
Explains asked NoMemory = ⊤
