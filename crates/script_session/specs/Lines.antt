-- How a line ends by what its calls were answered.
use Rattle.std.specs.Prelude.{◌≡◌, Bool, true, false, Result, Ok, Err}
use Rattle.orc_ids.specs.declared.ids.NameId.{NameId}
use Rattle.orc_ids.specs.declared.lookup.Stop.{Stop}
use Rattle.orc_ids.specs.declared.lookup.Stop.TheVariants as stop
use Rattle.session_model.specs.declared.entry.Reply.{Reply}
use Rattle.session_model.specs.declared.look_end.LookEnd.{LookEnd}
use Rattle.session_model.specs.declared.look_end.LookEnd.TheVariants as look
use Rattle.script_model.specs.Given.{Given, match_of}
use Rattle.script_model.specs.declared.line_end.LineEnd.{LineEnd}
use Rattle.script_model.specs.declared.line_end.LineEnd.TheVariants.{Looked, Replied, Stopped}

-- one call was answered so
abbrev pub line_end : Result Reply Stop → LineEnd
line_end (Ok r) = Replied r
line_end (Err st) = Stopped st

-- a lookup ended so
abbrev pub lookup_end : LookEnd → LineEnd
lookup_end (look.JournalFull len) = Stopped (stop.JournalFull len)
lookup_end look.NoMemory = Stopped stop.NoMemory
lookup_end end = Looked end

abbrev pub is_stopped : LineEnd → Bool
is_stopped (Stopped st) = true
is_stopped end = false

-- names have the same matches by both
abbrev pub AreSame : Given → Given → Type 0
AreSame xs ys = (name : NameId) → match_of name xs ≡ match_of name ys
