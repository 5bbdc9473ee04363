-- Whether a session's journal has a unit that was given up for want of memory.
use Rattle.std.specs.Prelude.{Bool, true, false, List}
use Rattle.std.specs.List.{list_any}
use Rattle.session_model.specs.Meaning.{Meaning}
use Rattle.session_model.specs.declared.entry.Entry.{Entry}
use Rattle.session_model.specs.declared.entry.Event.{Event}
use Rattle.session_model.specs.declared.entry.Event.TheVariants as event
use Rattle.session_model.specs.declared.entry.Why.{Why}
use Rattle.session_model.specs.declared.entry.Why.TheVariants as why

-- a unit was given up for want of memory
abbrev pub is_for_memory : Why → Bool
is_for_memory why.NoMemory = true
is_for_memory w = false

abbrev pub gives_up : Event Meaning → Bool
gives_up (event.Fail u w) = is_for_memory w
gives_up e = false

abbrev pub wanted_memory : List (Entry Meaning) → Bool
wanted_memory h = list_any (λ (e : Entry Meaning). gives_up e.event) h
