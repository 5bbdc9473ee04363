-- The text of a history: a line for each entry, numbered from 1.
use Rattle.std.specs.Prelude.{ℕ, ◌+◌, List, [], ◌∷◌, ◌++◌, codes, All}
use Rattle.std.specs.Fmt.{decimal}
use Rattle.session_model.specs.Meaning.{Meaning}
use Rattle.session_model.specs.declared.entry.Entry.{Entry}
use Rattle.journal_text.specs.Events.{event_text, KnownEvent}
use Rattle.journal_text.specs.Replies.{reply_text, KnownReply}

-- the line of the nth entry
abbrev pub line_of : List (List ℕ) → ℕ → Entry Meaning → List ℕ
line_of names n e = decimal n ++ codes " s" ++ decimal e.seat.0 ++ codes " " ++ event_text names e.event ++ codes " = " ++ reply_text names e.reply ++ 10 ∷ []

-- the lines of entries of which the first is the nth
abbrev pub lines_from : List (List ℕ) → ℕ → List (Entry Meaning) → List ℕ
lines_from names n [] = []
lines_from names n (e ∷ es) = line_of names n e ++ lines_from names (n + 1) es

-- the text of a history; the table has the text of each name at the place of its number
abbrev pub text_of_history : List (List ℕ) → List (Entry Meaning) → List ℕ
text_of_history names h = lines_from names 1 h

-- each name of the entry has a text
abbrev pub KnownEntry : List (List ℕ) → Entry Meaning → Type 0
KnownEntry names e = KnownEvent names e.event × KnownReply names e.reply

-- each name that the history speaks of is one of the table
abbrev pub AreKnown : List (List ℕ) → List (Entry Meaning) → Type 0
AreKnown names h = All (KnownEntry names) h
