-- The lines that say how each line of a script's clients ended.
use Rattle.std.specs.Prelude.{ℕ, ◌+◌, List, [], ◌∷◌, ◌++◌, codes, slice_get, Option, Some, None, unwrap_or}
use Rattle.std.specs.Fmt.{decimal}
use Rattle.orc_ids.specs.declared.ids.InstId.{InstId}
use Rattle.orc_ids.specs.declared.lookup.Stop.{Stop}
use Rattle.orc_ids.specs.declared.lookup.Stop.TheVariants as stop
use Rattle.orc_ids.specs.declared.lookup.Wanted.{Wanted}
use Rattle.exec_run.specs.declared.ran.RunEnd.{RunEnd}
use Rattle.session_model.specs.Meaning.{Bindings}
use Rattle.session_model.specs.declared.look_end.LookEnd.{LookEnd}
use Rattle.session_model.specs.declared.look_end.LookEnd.TheVariants as look
use Rattle.session_model.specs.declared.peeked.Peek.{Peek}
use Rattle.session_model.specs.declared.peeked.Peek.TheVariants as peek
use Rattle.script_model.specs.declared.line_end.LineEnd.{LineEnd}
use Rattle.script_model.specs.declared.line_end.LineEnd.TheVariants.{Looked, Peeked, Ran, Replied, Skipped, Stopped, Unfound}
use Rattle.text_parts.specs.Hexadecimal.{hex, hex_bytes}
use Rattle.exec_run.specs.RunEnds.{run_end_text}
use Rattle.journal_text.specs.Parts.{name_text}
use Rattle.journal_text.specs.Replies.{reply_text}

-- why a call made no entry
abbrev pub stop_text : Stop → List ℕ
stop_text (stop.JournalFull len) = codes "full"
stop_text stop.NoMemory = codes "nomemory"

-- the address of a match, or none where there is none
abbrev pub address_text : Option (InstId × ℕ) → List ℕ
address_text (Some p) = codes "@" ++ hex p.1
address_text None = codes "@none"

-- each name with the address of its match
abbrev pub given_text : List (List ℕ) → List Wanted → Bindings → List ℕ
given_text names (w ∷ ws) (m ∷ ms) = codes " " ++ name_text names w.name ++ address_text m ++ given_text names ws ms
given_text names _ _ = []

-- how a lookup of these names ended
abbrev pub look_text : List (List ℕ) → List Wanted → LookEnd → List ℕ
look_text names wanted (look.Found matches) = codes "found" ++ given_text names wanted matches
look_text names wanted (look.Failed i) = codes "failed i" ++ decimal i.0
look_text names wanted (look.InError i) = codes "inerror i" ++ decimal i.0
look_text names wanted (look.Missing name) = codes "missing " ++ name_text names name
look_text names wanted (look.NoDylib d) = codes "nodylib d" ++ decimal d.0
look_text names wanted (look.JournalFull len) = stop_text (stop.JournalFull len)
look_text names wanted look.NoMemory = stop_text stop.NoMemory

-- what a run wrote, with a dash for nothing
abbrev pub output_text : List ℕ → List ℕ
output_text [] = codes "-"
output_text (b ∷ bs) = hex_bytes (b ∷ bs)

abbrev pub ran_text : RunEnd → List ℕ → List ℕ
ran_text end output = run_end_text end ++ codes " " ++ output_text output

-- what a peek told
abbrev pub peek_text : Peek → List ℕ
peek_text peek.Unfound = codes "unfound"
peek_text peek.NotYet = codes "notyet"
peek_text (peek.Ready address) = codes "ready " ++ hex address

-- how a line ended that looks up these names
abbrev pub result_text : List (List ℕ) → List Wanted → LineEnd → List ℕ
result_text names wanted (Replied r) = reply_text names r
result_text names wanted (Looked end) = look_text names wanted end
result_text names wanted (Ran end output) = ran_text end output
result_text names wanted Unfound = codes "unfound"
result_text names wanted (Peeked told) = peek_text told
result_text names wanted (Stopped st) = stop_text st
result_text names wanted Skipped = codes "skipped"

abbrev pub line_text : List (List ℕ) → ℕ → ℕ → List Wanted → LineEnd → List ℕ
line_text names client line wanted end = codes "c" ++ decimal client ++ codes " l" ++ decimal line ++ codes " " ++ result_text names wanted end ++ 10 ∷ []

-- the list at a place, or none where there is no such place
abbrev pub list_at : {X : Type 0} → ℕ → List (List X) → List X
list_at k lists = unwrap_or (slice_get lists k) []

-- the lines of a client, the first of them at this place
abbrev pub lines_from : List (List ℕ) → ℕ → List (List Wanted) → ℕ → List LineEnd → List ℕ
lines_from names client wanted k [] = []
lines_from names client wanted k (e ∷ es) = line_text names client (k + 1) (list_at k wanted) e ++ lines_from names client wanted (k + 1) es

-- the lines of clients, the first of them at this place
abbrev pub clients_from : List (List ℕ) → List (List (List Wanted)) → ℕ → List (List LineEnd) → List ℕ
clients_from names wanted k [] = []
clients_from names wanted k (es ∷ more) = lines_from names (k + 1) (list_at k wanted) 0 es ++ clients_from names wanted (k + 1) more

-- The lines of all clients. Of each line there is how it ended, and which names it looks up: none where it is no lookup.
abbrev pub text_of_ends : List (List ℕ) → List (List (List Wanted)) → List (List LineEnd) → List ℕ
text_of_ends names wanted ends = clients_from names wanted 0 ends
