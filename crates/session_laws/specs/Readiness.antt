-- Readiness in a legal history.
use Rattle.std.specs.Prelude.{◌≡◌, ℕ, true, false, List, ◌++◌, slice_get, Option, option_map}
use Rattle.session_model.specs.Meaning.{Meaning}
use Rattle.session_model.specs.Plain.{emitted_at, failed_at}
use Rattle.session_model.specs.Reach.{Reaches, IsReady}
use Rattle.session_model.specs.State.{state}
use Rattle.session_model.specs.History.{IsLegal}
use Rattle.session_model.specs.declared.entry.Entry.{Entry}
use Rattle.session_model.specs.declared.rows.InstRow.{InstRow}
use Rattle.session_model.specs.declared.rows.Phase.{Phase}

-- the phase of an instance
abbrev pub phase_at : List InstRow → ℕ → Option Phase
phase_at rows i = option_map (λ r. r.phase) (slice_get rows i)

-- no Emitted instance reaches a Failed one
abbrev pub EmittedReachesNoFailed : Type 0
EmittedReachesNoFailed = (jmax : ℕ) (h : List (Entry Meaning)) → IsLegal jmax h →
    (i j : ℕ) → emitted_at (state h).rows i ≡ true → Reaches (state h).rows i j → failed_at (state h).rows j ≡ false

-- a ready instance stays ready, and keeps its phase: its address and its dependencies
abbrev pub ReadyStaysReady : Type 0
ReadyStaysReady = (jmax : ℕ) (h more : List (Entry Meaning)) → IsLegal jmax (h ++ more) →
    (i : ℕ) → IsReady (state h).rows i → IsReady (state (h ++ more)).rows i × (phase_at (state (h ++ more)).rows i ≡ phase_at (state h).rows i)
