-- A session from one call to the next.
use Rattle.std.specs.Prelude.{◌≡◌, ℕ, ◌≤◌, List, [], slice_get, Some}
use Rattle.std.specs.Vec.{vec_capacity}
use Rattle.orc_ids.specs.declared.limits.TheConstants.{ENTRY_LIMIT}
use Rattle.session_model.specs.Meaning.{Meaning, IsLawful}
use Rattle.session_model.specs.Plain.{Plain, UnitRow, GenRow}
use Rattle.session_model.specs.Query.{stand_at}
use Rattle.session_model.specs.State.{plain_history}
use Rattle.session_model.specs.History.{IsLegal, HasPlaces}
use Rattle.session_model.specs.declared.entry.Entry.{Entry}
use Rattle.query_book.specs.Ledger.{IsCurrent}
use Rattle.session_parts.specs.declared.parts.Parts.{Parts}
use Rattle.session_parts.specs.Dues.{WaitsOpen}
use Rattle.session_parts.specs.Ends.{AreEnds}
use Rattle.session_parts.specs.Parts.{AreParts}
use Rattle.session_steps.specs.Performs.{state_of}
use Rattle.session_steps.specs.declared.live.Live.{Live}

-- the units and generators that were handed in are lawful
pub record AllLawful (m : Plain) : Type 0 where
  pub units : (u : ℕ) (x : UnitRow) → slice_get m.units u ≡ Some x → IsLawful x.meaning
  pub generators : (g : ℕ) (x : GenRow) → slice_get m.generators g ≡ Some x → IsLawful x.meaning

-- The journal is legal and had its places. The parts are those of the session that it leads to; the book has its
-- queries, with their ends, and knows how they stand; nothing is to be told, and nothing is due.
pub record IsAtRest {U N : Type 0} (means : U → Meaning) (jmax : ℕ) (p : Parts U N) (h : List (Entry U)) (capacity : ℕ) : Type 0 where
  pub limit : jmax ≤ ENTRY_LIMIT
  pub room : jmax ≤ capacity
  pub legal : IsLegal jmax (plain_history means h)
  pub places : HasPlaces jmax (plain_history means h)
  pub parts : AreParts means p (state_of means h)
  pub lawful : AllLawful (state_of means h)
  pub queries : p.book.queries ≡ (state_of means h).queries
  pub ends : AreEnds (plain_history means h) p.book.ends
  pub current : IsCurrent (stand_at (state_of means h).rows) p.book
  pub waits : WaitsOpen (state_of means h) p.book.ends
  pub due : p.book.due ≡ []
  pub told : p.graph.changed ≡ []

-- the same of parts and journal in one
abbrev pub Rests : {U N : Type 0} → (U → Meaning) → ℕ → Live U N → Type 0
Rests means jmax c = IsAtRest means jmax c.parts c.journal.items (vec_capacity c.journal)
