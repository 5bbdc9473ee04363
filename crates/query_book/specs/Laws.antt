-- What a session that keeps a book rests on: how the book's words stand to the session's, and what it knows of a book
-- from one call to the next.
use Rattle.std.specs.Prelude.{◌≡◌, ℕ, List, [], ◌++◌, Option}
use Rattle.orc_ids.specs.declared.ids.InstId.{InstId}
use Rattle.orc_ids.specs.declared.lookup.Level.{Level}
use Rattle.session_model.specs.Query as session
use Rattle.session_model.specs.Query.{Stand, stand_at}
use Rattle.session_model.specs.declared.rows.InstRow.{InstRow}
use Rattle.session_model.specs.declared.rows.Query.{Query}
use Rattle.query_book.specs.Stands.{at_level, is_lost, all_at, first_lost, is_met, addresses, ending}
use Rattle.query_book.specs.Ledger.{Ledger, nobody, without_due, without_first_of, IsSeen, IsCurrent, IsChange, IsTold}

-- when a query is met, and how it ends, by how a session's instances stand, are what the session says of its rows
pub record StandsAsTheSession (rows : List InstRow) : Type 0 where
  pub levels : (level : Level) (i : ℕ) → at_level (stand_at rows) level i ≡ session.at_level rows level i
  pub losses : (i : ℕ) → is_lost (stand_at rows) i ≡ session.is_lost rows i
  pub all : (level : Level) (matched : List (Option InstId)) → all_at (stand_at rows) level matched ≡ session.all_at rows level matched
  pub first : (matched : List (Option InstId)) → first_lost (stand_at rows) matched ≡ session.first_lost rows matched
  pub found : (matched : List (Option InstId)) → addresses (stand_at rows) matched ≡ session.addresses rows matched
  pub met : (q : Query) → is_met (stand_at rows) q ≡ session.is_met rows q
  pub ends : (q : Query) → ending (stand_at rows) q ≡ session.ending rows q

-- what was seen is current
abbrev pub SeenIsCurrent : Type 0 → Type 0
SeenIsCurrent N = (s : ℕ → Stand) (l : Ledger N) → IsSeen s l → IsCurrent s l

-- a new book is current
abbrev pub NobodyIsCurrent : Type 0 → Type 0
NobodyIsCurrent N = (s : ℕ → Stand) → IsCurrent {N = N} s nobody

-- a book stays current where a unit or a notifier is handed out
abbrev pub HandingOutIsCurrent : Type 0 → Type 0
HandingOutIsCurrent N = (s : ℕ → Stand) (l : Ledger N) → IsCurrent s l → IsCurrent s (without_due l) × IsCurrent s (without_first_of l)

-- where nothing changed, nothing has to be told
abbrev pub CurrentIsTold : Type 0 → Type 0
CurrentIsTold N = (s : ℕ → Stand) (l : Ledger N) → IsCurrent s l → IsTold s [] l

-- a change is told by telling the instances that changed, where the book was current before it
abbrev pub ChangeIsTold : Type 0 → Type 0
ChangeIsTold N = (changed : List InstId) (old new : ℕ → Stand) (l : Ledger N) → IsCurrent old l → IsChange changed old new l → IsTold new changed l

-- two changes, one after the other, are one
abbrev pub ChangesAreOne : Type 0 → Type 0
ChangesAreOne N = (first rest : List InstId) (old mid new : ℕ → Stand) (l : Ledger N) → IsChange first old mid l → IsChange rest mid new l → IsChange (first ++ rest) old new l
