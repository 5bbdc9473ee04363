-- What a script asks for, by its lines and by what the unit of each file is.
use Rattle.std.specs.Prelude.{ℕ, List, [], ◌∷◌, map, Option, Some, None, slice_index_or}
use Rattle.orc_ids.specs.declared.ids.UnitName.TheVariants as unit_name
use Rattle.script_model.specs.Asking.{Line, One, LookUp, Run, PeekAt, Script as Asked}
use Rattle.script_plan.specs.Counts.{no_units, with_line}
use Rattle.script_plan.specs.declared.unit_counts.UnitCounts.{UnitCounts}
use Rattle.session_model.specs.Calls.{Lookup}
use Rattle.session_model.specs.Meaning.{Meaning}
use Rattle.session_model.specs.declared.entry.Event.{Event}
use Rattle.session_model.specs.declared.entry.Event.TheVariants as event
use Rattle.session_script.specs.declared.script.ClientLine.{ClientLine}
use Rattle.session_script.specs.declared.script.ClientLine.TheVariants as client
use Rattle.session_script.specs.declared.script.LookupLine.{LookupLine}
use Rattle.session_script.specs.declared.script.Script.{Script}
use Rattle.session_script.specs.declared.script.SetupLine.{SetupLine}
use Rattle.session_script.specs.declared.script.SetupLine.TheVariants as setup
use Rattle.session_units.specs.Others.{absolutes_meaning, alias_meaning}

-- the unit of a file; a file without one, which no script that was read names, would offer nothing
abbrev pub unit_of_file : List Meaning → ℕ → Meaning
unit_of_file units file = slice_index_or units file (absolutes_meaning (unit_name.Object file) [])

-- the event of a line of the set-up, before which so many lines have a unit of their own
abbrev pub asked_event : List Meaning → UnitCounts → SetupLine → Event Meaning
asked_event units counts (setup.Dylib name) = event.Dylib name
asked_event units counts (setup.Order d order) = event.SetOrder d order
asked_event units counts (setup.Tracker d t) = event.Tracker d
asked_event units counts (setup.Object d t file) = event.Define d t (unit_of_file units file)
asked_event units counts (setup.Absolute d t symbols) = event.Define d t (absolutes_meaning (unit_name.Absolute counts.absolutes) symbols)
asked_event units counts (setup.Generator d t file) = event.Attach d t (unit_of_file units file)
asked_event units counts (setup.Alias a) = event.Define a.dylib a.tracker (alias_meaning (unit_name.Alias counts.aliases) a.name a.source a.target)

abbrev pub events_from : List Meaning → UnitCounts → List SetupLine → List (Event Meaning)
events_from units counts [] = []
events_from units counts (line ∷ lines) = asked_event units counts line ∷ events_from units (with_line line counts) lines

-- the events of the set-up
abbrev pub asked_events : List Meaning → List SetupLine → List (Event Meaning)
asked_events units lines = events_from units no_units lines

abbrev pub lookup_of : LookupLine → Option ℕ → Lookup
lookup_of names note = record { order = names.order; wanted = names.wanted; level = names.level; note = note }

-- what a client's line asks for
abbrev pub asked_line : List Meaning → ClientLine → Line
asked_line units (client.Define d t file) = One (event.Define d t (unit_of_file units file))
asked_line units (client.Lookup names) = LookUp (lookup_of names None)
asked_line units (client.Watch note names) = LookUp (lookup_of names (Some note))
asked_line units (client.Move t to) = One (event.MoveTracker t to)
asked_line units (client.Remove t) = One (event.Remove t)
asked_line units (client.Run name fuel args) = Run name fuel args
asked_line units (client.Peek name) = PeekAt name

abbrev pub asked_script : List Meaning → Script → Asked
asked_script units script = record {
  set_up = asked_events units script.setup;
  clients = map (map (asked_line units)) script.clients;
}
