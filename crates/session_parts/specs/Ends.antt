-- The ends of a session's queries, as they are kept beside it.
use Rattle.std.specs.Prelude.{◌≡◌, ℕ, List, [], ◌∷◌, length, slice_get, Option, Some, None, if◌then◌else◌}
use Rattle.std.specs.Option.{option_map_or}
use Rattle.session_model.specs.Meaning.{Meaning}
use Rattle.session_model.specs.Plain.{Plain}
use Rattle.session_model.specs.declared.rows.Query.{Query}
use Rattle.session_model.specs.Query.{is_met, ending}
use Rattle.session_model.specs.State.{state, IsOpen, IsEnd}
use Rattle.session_model.specs.declared.entry.Entry.{Entry}
use Rattle.query_book.specs.declared.ends.QueryEnd.{QueryEnd}

-- a query's end after an entry that led to m: an open one that is met ends now
abbrev pub noted_end : Plain → Query → Option QueryEnd → Option QueryEnd
noted_end m q (Some end) = Some end
noted_end m q None = if is_met m.rows q then Some (record { at = m.entries; end = ending m.rows q }) else None

-- the ends of these queries after that entry; a new query had none
abbrev pub noted : Plain → List Query → List (Option QueryEnd) → List (Option QueryEnd)
noted m [] ends = []
noted m (q ∷ qs) [] = noted_end m q None ∷ noted m qs []
noted m (q ∷ qs) (end ∷ ends) = noted_end m q end ∷ noted m qs ends

-- what is kept of the query k is true: it is open, or this is its end
abbrev pub IsKept : List (Entry Meaning) → ℕ → Query → Option QueryEnd → Type 0
IsKept past k q None = IsOpen past q
IsKept past k q (Some end) = IsEnd past k end.at end.end

-- the ends are those of the queries after these entries
pub record AreEnds (past : List (Entry Meaning)) (ends : List (Option QueryEnd)) : Type 0 where
  pub count : length ends ≡ length (state past).queries
  pub each : (k : ℕ) (q : Query) (end : Option QueryEnd) → slice_get (state past).queries k ≡ Some q → slice_get ends k ≡ Some end → IsKept past k q end

-- the end of a query, where it is kept
abbrev pub kept_end : List (Option QueryEnd) → ℕ → Option QueryEnd
kept_end ends k = option_map_or (λ end. end) (slice_get ends k) None
