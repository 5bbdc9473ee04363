-- Where the queries of a session settled, and how they ended.
use Rattle.std.specs.Prelude.{◌≡◌, ℕ, List, [], ◌∷◌, ◌++◌, length, nat_lt, slice_get, Option, Some, None, if◌then◌else◌}
use Rattle.std.specs.Option.{option_map_or}
use Rattle.session_model.specs.Lists.{numbered, only_if}
use Rattle.session_model.specs.Meaning.{Meaning}
use Rattle.session_model.specs.Plain.{Plain}
use Rattle.session_model.specs.Query.{is_met, ending}
use Rattle.session_model.specs.State.{IsOpen, IsEnd}
use Rattle.session_model.specs.declared.entry.Entry.{Entry}
use Rattle.session_model.specs.declared.rows.InstRow.{InstRow}
use Rattle.session_model.specs.declared.rows.Query.{Query}
use Rattle.session_past.specs.declared.ends.Settled.{Settled}

-- the query of this number is open, or has this end
abbrev pub IsEndOf : List (Entry Meaning) → ℕ → Query → Option Settled → Type 0
IsEndOf past k q None = IsOpen past q
IsEndOf past k q (Some x) = IsEnd past k x.at x.end

-- each query has its end, or none while it is open
pub record AreEnds (past : List (Entry Meaning)) (m : Plain) (ends : List (Option Settled)) : Type 0 where
  pub inside : length ends ≡ length m.queries
  pub each : (k : ℕ) (q : Query) (o : Option Settled) → slice_get m.queries k ≡ Some q → slice_get ends k ≡ Some o → IsEndOf past k q o

-- an open query ends at entry n, if it is met now
abbrev pub next_end : ℕ → List InstRow → Query → Option Settled → Option Settled
next_end n rows q None = only_if (is_met rows q) (record { at = n; end = ending rows q })
next_end n rows q (Some x) = Some x

abbrev pub end_now : Plain → ℕ → Option Settled → Option Settled
end_now m k o = option_map_or (λ q. next_end m.entries m.rows q o) (slice_get m.queries k) o

-- with room for the query that the last entry may have asked
abbrev pub with_room : ℕ → List (Option Settled) → List (Option Settled)
with_room n ends = if nat_lt (length ends) n then ends ++ None ∷ [] else ends

abbrev pub ends_now : Plain → List (Option Settled) → List (Option Settled)
ends_now m ends = numbered (end_now m) 0 (with_room (length m.queries) ends)
