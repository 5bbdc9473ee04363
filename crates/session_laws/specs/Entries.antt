-- The entries of calls, and the events of entries.
use Rattle.std.specs.Prelude.{ℕ, List, map}
use Rattle.session_model.specs.Meaning.{Meaning}
use Rattle.session_model.specs.declared.entry.Entry.{Entry}
use Rattle.session_model.specs.declared.entry.Event.{Event}

abbrev pub entries : List (ℕ × Entry Meaning) → List (Entry Meaning)
entries cs = map (λ (c : ℕ × Entry Meaning). c.1) cs

abbrev pub events_of : List (Entry Meaning) → List (Event Meaning)
events_of es = map (λ (e : Entry Meaning). e.event) es
