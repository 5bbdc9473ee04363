-- How the query that was asked with a note has ended.
use Rattle.std.specs.Prelude.{◌≡◌, ℕ, List, slice_get, Some}
use Rattle.orc_ids.specs.declared.lookup.Outcome.{Outcome}
use Rattle.session_model.specs.Meaning.{Meaning}
use Rattle.session_model.specs.State.{state, IsEnd}
use Rattle.session_model.specs.declared.entry.Entry.{Entry}
use Rattle.session_model.specs.declared.rows.Ending.{Ending}
use Rattle.session_model.specs.declared.rows.Query.{Query}
use Rattle.query_book.specs.Ends.{told_end}

-- a query that was asked with this note has ended, and this says how
pub record NoteEnded (h : List (Entry Meaning)) (note : ℕ) (outcome : Outcome) : Type 0 where
  pub number : ℕ
  pub query : Query
  pub there : slice_get (state h).queries number ≡ Some query
  pub noted : query.note ≡ Some note
  pub at : ℕ
  pub end : Ending
  pub ended : IsEnd h number at end
  pub says : outcome ≡ record { query = record { 0 = number }; end = told_end at end }
