-- The queries by number, with their ends and notifiers.
use Rattle.std.specs.Prelude.{ℕ, ◌+◌, List, [], ◌∷◌, ◌++◌, Option, None, Some, set, slice_get, drop, option_map, option_and_then, option_to_list}
use Rattle.std.specs.Option.{option_map_or}
use Rattle.orc_ids.specs.declared.ids.UnitId.{UnitId}
use Rattle.orc_ids.specs.declared.lookup.Outcome.{Outcome}
use Rattle.session_model.specs.Query.{Stand}
use Rattle.session_model.specs.declared.rows.Query.{Query}
use Rattle.notifiers.specs.declared.notice.Unheard.{Unheard}
use Rattle.notifiers.specs.declared.notice.Notice.{Notice}
use Rattle.query_book.specs.declared.ends.QueryEnd.{QueryEnd}
use Rattle.query_book.specs.Stands.{ending}
use Rattle.query_book.specs.Ends.{told_end}

-- the queries by number, how each ended if it did, the notifier of each that was neither fired nor given back,
-- and the units of ended queries that are to be handed out
pub record Account (N : Type 0) : Type 0 where
  pub queries : List Query
  pub ends : List (Option QueryEnd)
  pub armed : List (Option (Unheard N))
  pub due : List UnitId

abbrev pub nobody : {N : Type 0} → Account N
nobody = record { queries = []; ends = []; armed = []; due = [] }

abbrev pub with_query : {N : Type 0} → Account N → Query → Option (Unheard N) → Account N
with_query a q armed = record { queries = a.queries ++ q ∷ []; ends = a.ends ++ None ∷ []; armed = a.armed ++ armed ∷ []; due = a.due }

abbrev pub unit_of : Query → Option UnitId
unit_of q = option_map (λ u. record { 0 = u }) q.unit

-- a notifier, if there is one, with what it is to be told
abbrev pub notices : {N : Type 0} → Option (Unheard N) → Outcome → List (Notice N)
notices None outcome = []
notices (Some u) outcome = record { note = u.note; what = u.what; outcome = outcome } ∷ []

-- what the notifier of query k is told
abbrev pub outcome_of : ℕ → (ℕ → Stand) → ℕ → Query → Outcome
outcome_of at s k q = record { query = record { 0 = k }; end = told_end at (ending s q) }

-- the query k has ended
abbrev pub ended_one : {N : Type 0} → ℕ → (ℕ → Stand) → ℕ → Account N → Account N
ended_one at s k a = option_map_or (λ q. record { queries = a.queries; ends = set a.ends k (Some (record { at = at; end = ending s q })); armed = set a.armed k None; due = a.due ++ option_to_list (unit_of q) }) (slice_get a.queries k) a

abbrev pub fired_one : {N : Type 0} → ℕ → (ℕ → Stand) → ℕ → Account N → List (Notice N)
fired_one at s k a = option_map_or (λ q. notices (option_and_then (λ o. o) (slice_get a.armed k)) (outcome_of at s k q)) (slice_get a.queries k) []

-- some queries have ended, in this order
abbrev pub ended_all : {N : Type 0} → ℕ → (ℕ → Stand) → List ℕ → Account N → Account N
ended_all at s [] a = a
ended_all at s (k ∷ ks) a = ended_all at s ks (ended_one at s k a)

abbrev pub fired_all : {N : Type 0} → ℕ → (ℕ → Stand) → List ℕ → Account N → List (Notice N)
fired_all at s [] a = []
fired_all at s (k ∷ ks) a = fired_one at s k a ++ fired_all at s ks (ended_one at s k a)

abbrev pub without_due : {N : Type 0} → Account N → Account N
without_due a = record a { due = drop 1 a.due }

-- the notifier of the lowest query that has one
abbrev pub first_armed : {X : Type 0} → List (Option X) → Option X
first_armed [] = None
first_armed (None ∷ os) = first_armed os
first_armed (Some x ∷ os) = Some x

-- the others
abbrev pub without_first : {X : Type 0} → List (Option X) → List (Option X)
without_first [] = []
without_first (None ∷ os) = None ∷ without_first os
without_first (Some x ∷ os) = None ∷ os

-- how many have a notifier
abbrev pub armed_count : {X : Type 0} → List (Option X) → ℕ
armed_count [] = 0
armed_count (None ∷ os) = armed_count os
armed_count (Some x ∷ os) = 1 + armed_count os

abbrev pub without_armed : {N : Type 0} → Account N → Account N
without_armed a = record a { armed = without_first a.armed }
