-- What a book has, and how queries settle.
use Rattle.std.specs.Prelude.{◌≡◌, ℕ, suc, ◌⊎◌, Bool, true, false, ◌&&◌, List, [], ◌∷◌, ◌++◌, Option, None, Some, drop, slice_get, is_none, if◌then◌else◌}
use Rattle.orc_ids.specs.declared.ids.InstId.{InstId}
use Rattle.orc_ids.specs.declared.ids.UnitId.{UnitId}
use Rattle.orc_ids.specs.declared.lookup.Level.{Level}
use Rattle.session_model.specs.Query.{Stand}
use Rattle.session_model.specs.declared.rows.Query.{Query}
use Rattle.notifiers.specs.declared.notice.Unheard.{Unheard}
use Rattle.notifiers.specs.declared.notice.Notice.{Notice}
use Rattle.query_book.specs.declared.ends.QueryEnd.{QueryEnd}
use Rattle.query_book.specs.Stands.{at_level, is_lost, is_met, missing, is_matched, is_among}
use Rattle.query_book.specs.Rows.{Account, ended_all, fired_all, without_first}

-- the queries by number; how each ended, if it did; its notifier, until it is fired or given back; whether it was
-- met when it was last looked at, and else which of its matches it waited for then; and the units of settled
-- queries that are to be handed out
pub record Ledger (N : Type 0) : Type 0 where
  pub queries : List Query
  pub ends : List (Option QueryEnd)
  pub armed : List (Option (Unheard N))
  pub decided : List Bool
  pub waits : List (List InstId)
  pub due : List UnitId

abbrev pub nobody : {N : Type 0} → Ledger N
nobody = record { queries = []; ends = []; armed = []; decided = []; waits = []; due = [] }

-- what a query waits for, if it isn't met
abbrev pub waits_of : (ℕ → Stand) → Query → List InstId
waits_of s q = if is_met s q then [] else missing s q

-- one more query, which is open
abbrev pub lodged : {N : Type 0} → (ℕ → Stand) → Query → Option (Unheard N) → Ledger N → Ledger N
lodged s q then' l = record {
  queries = l.queries ++ q ∷ [];
  ends = l.ends ++ None ∷ [];
  armed = l.armed ++ then' ∷ [];
  decided = l.decided ++ is_met s q ∷ [];
  waits = l.waits ++ waits_of s q ∷ [];
  due = l.due;
}

-- the query has no end, and is met
abbrev pub settles : (ℕ → Stand) → Query → Option QueryEnd → Bool
settles s q end = is_none end && is_met s q

-- the numbers, from k on, of the queries that settle
abbrev pub settling : ℕ → (ℕ → Stand) → List Query → List (Option QueryEnd) → List ℕ
settling k s [] ends = []
settling k s (q ∷ qs) [] = []
settling k s (q ∷ qs) (end ∷ ends) = (if settles s q end then k ∷ [] else []) ++ settling (suc k) s qs ends

-- the queries, their ends and notifiers, and the units that are to be handed out
abbrev pub account : {N : Type 0} → Ledger N → Account N
account l = record { queries = l.queries; ends = l.ends; armed = l.armed; due = l.due }

-- exactly the open queries that are met have settled, in rising number, by the entry `at`
abbrev pub settled : {N : Type 0} → ℕ → (ℕ → Stand) → Ledger N → Account N
settled at s l = ended_all at s (settling 0 s l.queries l.ends) (account l)

-- their notifiers, in rising number, each with its own query's end
abbrev pub fires_of : {N : Type 0} → ℕ → (ℕ → Stand) → Ledger N → List (Notice N)
fires_of at s l = fired_all at s (settling 0 s l.queries l.ends) (account l)

-- each query that is open was looked at: it isn't met, and what it waits for is what isn't at its level
pub record IsSeen {N : Type 0} (s : ℕ → Stand) (l : Ledger N) : Type 0 where
  pub unmet : (k : ℕ) (q : Query) → slice_get l.queries k ≡ Some q → slice_get l.ends k ≡ Some None → is_met s q ≡ false
  pub undecided : (k : ℕ) (q : Query) → slice_get l.queries k ≡ Some q → slice_get l.ends k ≡ Some None → slice_get l.decided k ≡ Some false
  pub waiting : (k : ℕ) (q : Query) → slice_get l.queries k ≡ Some q → slice_get l.ends k ≡ Some None → slice_get l.waits k ≡ Some (missing s q)

abbrev pub without_due : {N : Type 0} → Ledger N → Ledger N
without_due l = record l { due = drop 1 l.due }

-- the notifier of the lowest query that has one was handed out
abbrev pub without_first_of : {N : Type 0} → Ledger N → Ledger N
without_first_of l = record l { armed = without_first l.armed }

-- each change that matters to this open query, which waited for these of its matches, is told: one that came to
-- its level, or is lost; and nothing is taken back
pub record IsToldOf (s : ℕ → Stand) (changed waits : List InstId) (q : Query) : Type 0 where
  pub came : (i : ℕ) → is_among i waits ≡ true → at_level s q.level i ≡ true → is_among i changed ≡ true
  pub lost : (i : ℕ) → is_matched i q.matched ≡ true → is_lost s i ≡ true → is_among i changed ≡ true
  pub stays : (i : ℕ) → is_matched i q.matched ≡ true → is_among i waits ≡ false → (at_level s q.level i ≡ true) ⊎ (is_lost s i ≡ true)

-- every change that matters to an open query is told, and what was met is so still
pub record IsTold {N : Type 0} (s : ℕ → Stand) (changed : List InstId) (l : Ledger N) : Type 0 where
  pub decided : (k : ℕ) (q : Query) → slice_get l.queries k ≡ Some q → slice_get l.ends k ≡ Some None → slice_get l.decided k ≡ Some true → is_met s q ≡ true
  pub waits : (k : ℕ) (q : Query) (waits : List InstId) → slice_get l.queries k ≡ Some q → slice_get l.ends k ≡ Some None → slice_get l.decided k ≡ Some false → slice_get l.waits k ≡ Some waits → IsToldOf s changed waits q

-- what is kept of each open query is how it stands: whether it is met, and else what it waits for
pub record IsCurrent {N : Type 0} (s : ℕ → Stand) (l : Ledger N) : Type 0 where
  pub decided : (k : ℕ) (q : Query) → slice_get l.queries k ≡ Some q → slice_get l.ends k ≡ Some None → slice_get l.decided k ≡ Some (is_met s q)
  pub waits : (k : ℕ) (q : Query) → slice_get l.queries k ≡ Some q → slice_get l.ends k ≡ Some None → slice_get l.waits k ≡ Some (waits_of s q)

-- an open query matched the instance
pub record IsAwaited {N : Type 0} (l : Ledger N) (i : ℕ) : Type 0 where
  pub number : ℕ
  pub query : Query
  pub there : slice_get l.queries number ≡ Some query
  pub unended : slice_get l.ends number ≡ Some None
  pub matches : is_matched i query.matched ≡ true

-- of the instances that open queries matched only these stand otherwise than before; what was at a level is there
-- still, or is lost, and what was lost is lost still
pub record IsChange {N : Type 0} (changed : List InstId) (old new : ℕ → Stand) (l : Ledger N) : Type 0 where
  pub others : (i : ℕ) → IsAwaited l i → is_among i changed ≡ false → new i ≡ old i
  pub stays : (level : Level) (i : ℕ) → IsAwaited l i → at_level old level i ≡ true → (at_level new level i ≡ true) ⊎ (is_lost new i ≡ true)
  pub lost : (i : ℕ) → IsAwaited l i → is_lost old i ≡ true → is_lost new i ≡ true
