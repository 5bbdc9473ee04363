-- The text of each event.
use Rattle.std.specs.Prelude.{ℕ, List, ◌++◌, codes, Option, Some, None, All}
use Rattle.std.specs.Fmt.{decimal}
use Rattle.orc_ids.specs.declared.lookup.Wanted.{Wanted}
use Rattle.session_model.specs.Meaning.{Meaning}
use Rattle.session_model.specs.declared.entry.Event.{Event}
use Rattle.session_model.specs.declared.entry.Event.TheVariants as event
use Rattle.session_model.specs.declared.entry.Why.{Why}
use Rattle.session_model.specs.declared.entry.Why.TheVariants as why
use Rattle.text_parts.specs.Places.{edge_text}
use Rattle.journal_text.specs.Parts.{IsGiven, name_text, unit_text, level_text, items_text, wanted_list_text, groups_text}

-- why a unit is given up; it may be an edge that is out of range
abbrev pub why_text : List (List ℕ) → Why → List ℕ
why_text names (why.Refused place kind value) = codes "refused " ++ edge_text place kind value
why_text names (why.Missing name) = codes "missing " ++ name_text names name
why_text names (why.InError i) = codes "inerror i" ++ decimal i.0
why_text names (why.AliasCycle i) = codes "aliascycle i" ++ decimal i.0
why_text names (why.BadDep i) = codes "baddep i" ++ decimal i.0
why_text names (why.NoRoom need) = codes "noroom " ++ decimal need
why_text names why.NoMemory = codes "nomemory"
why_text names why.Full = codes "full"

-- a lookup whose end is told to a notifier has the number of its note
abbrev pub ask_word : Option ℕ → List ℕ
ask_word None = codes "ask"
ask_word (Some n) = codes "watch " ++ decimal n

abbrev pub event_text : List (List ℕ) → Event Meaning → List ℕ
event_text names (event.Dylib name) = codes "dylib " ++ name_text names name
event_text names (event.SetOrder d order) = codes "order d" ++ decimal d.0 ++ items_text order
event_text names (event.Attach d t u) = codes "attach d" ++ decimal d.0 ++ codes " t" ++ decimal t.0 ++ codes " " ++ unit_text u.name
event_text names (event.Define d t u) = codes "define d" ++ decimal d.0 ++ codes " t" ++ decimal t.0 ++ codes " " ++ unit_text u.name
event_text names (event.Generate g) = codes "generate g" ++ decimal g.0
event_text names (event.Ask order wanted level n) = ask_word n ++ items_text order ++ codes " " ++ level_text level ++ wanted_list_text names wanted
event_text names (event.Collect q) = codes "collect q" ++ decimal q.0
event_text names event.Take = codes "take"
event_text names (event.Place u shape) = codes "place u" ++ decimal u.0 ++ codes " " ++ decimal shape.need ++ codes " " ++ decimal shape.align
event_text names (event.Resolve u) = codes "resolve u" ++ decimal u.0
event_text names (event.Link u) = codes "link u" ++ decimal u.0
event_text names (event.Emit u groups) = codes "emit u" ++ decimal u.0 ++ groups_text groups
event_text names (event.Fail u cause) = codes "fail u" ++ decimal u.0 ++ codes " " ++ why_text names cause
event_text names (event.Tracker d) = codes "tracker d" ++ decimal d.0
event_text names (event.MoveTracker t to) = codes "move t" ++ decimal t.0 ++ codes " t" ++ decimal to.0
event_text names (event.Remove t) = codes "remove t" ++ decimal t.0
event_text names event.Image = codes "image"

-- each name of a cause has a text
abbrev pub KnownWhy : List (List ℕ) → Why → Type 0
KnownWhy names (why.Missing name) = IsGiven names name
KnownWhy names _ = Unit {0}

-- each name of an event has a text; those that a unit offers are not written
abbrev pub KnownEvent : List (List ℕ) → Event Meaning → Type 0
KnownEvent names (event.Dylib name) = IsGiven names name
KnownEvent names (event.Ask order wanted level n) = All (λ (w : Wanted). IsGiven names w.name) wanted
KnownEvent names (event.Fail u cause) = KnownWhy names cause
KnownEvent names _ = Unit {0}
