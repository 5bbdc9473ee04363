-- The answer of a script's session.
use Rattle.std.specs.Prelude.{List, [], ◌∷◌, ◌++◌, flat_map, nat_lt, Option, if◌then◌else◌}
use Rattle.std.specs.Option.{option_to_list}
use Rattle.orc_ids.specs.declared.lookup.Stop.{Stop}
use Rattle.orc_ids.specs.declared.lookup.Stop.TheVariants as stop
use Rattle.session_model.specs.Meaning.{Meaning}
use Rattle.session_model.specs.declared.entry.Entry.{Entry}
use Rattle.script_model.specs.declared.line_end.LineEnd.{LineEnd}
use Rattle.script_model.specs.declared.line_end.LineEnd.TheVariants.{Stopped}
use Rattle.answers.specs.Memory.{wanted_memory}
use Rattle.answers.specs.declared.answer.Answer.{Answer}
use Rattle.answers.specs.declared.answer.Answer.TheVariants.{Done, JournalFull, NoMemory}

-- the stops of the set-up and of the lines
abbrev pub stop_in : LineEnd → List Stop
stop_in (Stopped st) = st ∷ []
stop_in end = []

abbrev pub stops_of : Option Stop → List (List LineEnd) → List Stop
stops_of stopped ends = option_to_list stopped ++ flat_map (flat_map stop_in) ends

-- of two answers the one that counts: want of memory, or else the earlier stop for want of a place
abbrev pub worse : Answer → Answer → Answer
worse NoMemory other = NoMemory
worse (JournalFull a) NoMemory = NoMemory
worse (JournalFull a) (JournalFull b) = JournalFull (if nat_lt b a then b else a)
worse (JournalFull a) other = JournalFull a
worse one other = other

abbrev pub stop_answer : Stop → Answer
stop_answer (stop.JournalFull len) = JournalFull len
stop_answer stop.NoMemory = NoMemory

-- what stops are answered, one after the other, where the answer was this before them
abbrev pub stops_answer : Answer → List Stop → Answer
stops_answer before [] = before
stops_answer before (st ∷ sts) = stops_answer (worse before (stop_answer st)) sts

-- Want of memory, also where a unit was given up for it; or else the first call that found no place in the journal; or else all was done.
abbrev pub session_answer : List (Entry Meaning) → Option Stop → List (List LineEnd) → Answer
session_answer history stopped ends = if wanted_memory history then NoMemory else stops_answer Done (stops_of stopped ends)
