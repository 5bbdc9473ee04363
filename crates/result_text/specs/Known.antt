-- That each name which is written is one of the table.
use Rattle.std.specs.Prelude.{ℕ, List, All}
use Rattle.orc_ids.specs.declared.lookup.Wanted.{Wanted}
use Rattle.session_model.specs.declared.look_end.LookEnd.{LookEnd}
use Rattle.session_model.specs.declared.look_end.LookEnd.TheVariants as look
use Rattle.script_model.specs.declared.line_end.LineEnd.{LineEnd}
use Rattle.script_model.specs.declared.line_end.LineEnd.TheVariants.{Looked, Replied}
use Rattle.journal_text.specs.Parts.{IsGiven}
use Rattle.journal_text.specs.Replies.{KnownReply}

-- each name that a line looks up has a text
abbrev pub AreAsked : List (List ℕ) → List Wanted → Type 0
AreAsked names wanted = All (λ (w : Wanted). IsGiven names w.name) wanted

-- the name that a lookup's end speaks of has a text
abbrev pub KnownLook : List (List ℕ) → LookEnd → Type 0
KnownLook names (look.Missing name) = IsGiven names name
KnownLook names _ = Unit {0}

-- each name that a line's end speaks of has a text
abbrev pub KnownEnd : List (List ℕ) → LineEnd → Type 0
KnownEnd names (Replied r) = KnownReply names r
KnownEnd names (Looked end) = KnownLook names end
KnownEnd names _ = Unit {0}

-- each name that is looked up, and each that an end speaks of, is one of the table
pub record AreKnownEnds (names : List (List ℕ)) (wanted : List (List (List Wanted))) (ends : List (List LineEnd)) : Type 0 where
  pub asked : All (All (AreAsked names)) wanted
  pub answered : All (All (KnownEnd names)) ends
