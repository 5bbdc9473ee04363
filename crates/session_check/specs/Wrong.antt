-- Where a history goes wrong.
use Rattle.std.specs.Prelude.{ℕ, ◌+◌, List, take}
use Rattle.session_model.specs.Meaning.{Meaning}
use Rattle.session_model.specs.History.{IsLegal}
use Rattle.session_model.specs.declared.entry.Entry.{Entry}

-- the first k entries are a legal history, and the first k + 1 aren't
abbrev pub GoesWrongAt : ℕ → List (Entry Meaning) → ℕ → Type 0
GoesWrongAt jmax h k = IsLegal jmax (take k h) × (IsLegal jmax (take (k + 1) h) → ⊥)
