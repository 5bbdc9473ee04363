-- Chains of aliases that wait for their targets.
use Rattle.std.specs.Prelude.{◌≡◌, ℕ, true, ◌↔◌, List, Contains}
use Rattle.session_model.specs.Meaning.{Meaning}
use Rattle.session_model.specs.Plain.{Plain}
use Rattle.session_model.specs.Chain.{chain_next, ComesTo, is_of_unit, comes_to_unit}
use Rattle.session_model.specs.State.{state}
use Rattle.session_model.specs.History.{IsLegal}
use Rattle.session_model.specs.declared.entry.Entry.{Entry}

-- every walk from i ends
pub data Ends (next : ℕ → List ℕ) : ℕ → Type 0 where
  Stops : (i : ℕ) → ((j : ℕ) → Contains (next i) j → Ends next j) → Ends next i

abbrev pub AllEnd : Plain → Type 0
AllEnd m = (i : ℕ) → Ends (chain_next m.rows m.units m.queries) i

-- in a legal history no alias waits for itself: every chain of waiting aliases ends
abbrev pub ChainsEnd : Type 0
ChainsEnd = (jmax : ℕ) (h : List (Entry Meaning)) → IsLegal jmax h → AllEnd (state h)

-- the test of a chain by steps is the chain
abbrev pub ComingIsTested : Type 0
ComingIsTested = (m : Plain) (u i : ℕ) → (comes_to_unit m.rows m.units m.queries u i ≡ true) ↔ ((j : ℕ) × ComesTo m.rows m.units m.queries i j × (is_of_unit u m.rows j ≡ true))
