-- Calls that speak of known names.
use Rattle.std.specs.Prelude.{ℕ, ⊤, List, [], ◌∷◌}
use Rattle.session_model.specs.Meaning.{Meaning}
use Rattle.session_model.specs.declared.entry.Entry.{Entry}
use Rattle.session_model.specs.declared.entry.Event.{Event}
use Rattle.journal_text.specs.Events.{KnownEvent}
use Rattle.journal_text.specs.Replies.{KnownReply}
use Rattle.known_names.specs.Laws.{HandsInKnown}

-- an event hands in known names, and says none but these and those that are known where the fact holds
abbrev pub Says : List (List ℕ) → Type 0 → Event Meaning → Type 0
Says names Fact v = HandsInKnown names v × (Fact → KnownEvent names v)

-- the same of each entry in turn, where the names of the replies before it are known too
abbrev pub Speaks : List (List ℕ) → Type 0 → List (Entry Meaning) → Type 0
Speaks names Fact [] = ⊤
Speaks names Fact (e ∷ es) = Says names Fact e.event × Speaks names (Fact × KnownReply names e.reply) es
