-- A change of a session whose units are given by their meanings, and what a reply changes that is no
-- success of its event.
use Rattle.std.specs.Prelude.{ℕ}
use Rattle.session_model.specs.Meaning.{Meaning}
use Rattle.session_model.specs.declared.change.Change.{Change}
use Rattle.session_model.specs.declared.change.Change.TheVariants as change
use Rattle.session_model.specs.declared.entry.Reply.{Reply}
use Rattle.session_model.specs.declared.entry.Reply.TheVariants.{Defunct}

abbrev pub plain_change : {U : Type 0} → (U → Meaning) → Change U → Change Meaning
plain_change means change.Nothing = change.Nothing
plain_change means (change.MakeDylib name) = change.MakeDylib name
plain_change means (change.MakeTracker d) = change.MakeTracker d
plain_change means (change.SetOrder d order) = change.SetOrder d order
plain_change means (change.Attach d t u) = change.Attach d t (means u)
plain_change means (change.Define d t u found) = change.Define d t (means u) found
plain_change means (change.Generate g found) = change.Generate g found
plain_change means (change.Spend g) = change.Spend g
plain_change means (change.Ask found level note) = change.Ask found level note
plain_change means (change.Start s u) = change.Start s u
plain_change means (change.Finish s u how) = change.Finish s u how
plain_change means (change.Place u base) = change.Place u base
plain_change means (change.Resolve u) = change.Resolve u
plain_change means (change.Link u found) = change.Link u found
plain_change means (change.Emit u groups) = change.Emit u groups
plain_change means (change.Fail u) = change.Fail u
plain_change means (change.Move t to) = change.Move t to
plain_change means (change.Remove t) = change.Remove t
plain_change means (change.LetGo s u) = change.LetGo s u

-- Defunct makes the seat let the unit go
abbrev pub told : ℕ → Reply → Change Meaning
told s (Defunct u) = change.LetGo (record { 0 = s }) u
told s _ = change.Nothing
