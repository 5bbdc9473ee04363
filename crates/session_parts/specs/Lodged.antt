-- A query that is lodged.
use Rattle.std.specs.Prelude.{ℕ, List, Option, option_map}
use Rattle.orc_ids.specs.declared.ids.InstId.{InstId}
use Rattle.orc_ids.specs.declared.lookup.Level.{Level}
use Rattle.session_model.specs.declared.rows.Query.{Query}
use Rattle.notifiers.specs.declared.notice.Unheard.{Unheard}

-- the note of a notifier, if there is one
abbrev pub note_of : {N : Type 0} → Option (Unheard N) → Option ℕ
note_of then' = option_map (λ u. u.note) then'

abbrev pub new_query : ℕ → List (Option InstId) → Level → Option ℕ → Option ℕ → Query
new_query asked matched lev unit note = record { asked = asked; matched = matched; level = lev; unit = unit; note = note }
