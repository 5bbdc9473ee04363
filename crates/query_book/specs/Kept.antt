-- What a book keeps, and how it is seen.
use Rattle.std.specs.Prelude.{◌≡◌, ℕ, suc, ◌+◌, false, nat_lt, List, [], ◌∷◌, Option, None, map, length, slice_get, is_some, if◌then◌else◌}
use Rattle.std.specs.List.{filter_map}
use Rattle.std.specs.Option.{option_map_or}
use Rattle.orc_ids.specs.declared.ids.InstId.{InstId}
use Rattle.session_model.specs.Lists.{only_if}
use Rattle.session_model.specs.declared.rows.Query.{Query}
use Rattle.query_book.specs.declared.ends.QueryEnd.{QueryEnd}
use Rattle.query_book.specs.declared.board.Board.{Board}
use Rattle.query_book.specs.Counts.{count, list_at}
use Rattle.query_book.specs.Marks.{found_at, one_if}
use Rattle.query_book.specs.Board.{waiting, Watches}
use Rattle.query_book.specs.Rows.{Account}
use Rattle.query_book.specs.Ledger.{Ledger}

-- what is matched, if the query k is in its list
abbrev pub waited : List (List ℕ) → ℕ → Option InstId → Option InstId
waited lists k o = option_map_or (λ i. only_if (nat_lt 0 (count k (list_at lists i.0))) i) o None

-- what each query waits for, from number k on
abbrev pub waits_from : ℕ → Board → List Query → List (List InstId)
waits_from k b [] = []
waits_from k b (q ∷ qs) = (if found_at b.marks.marks k then [] else filter_map (waited (waiting b q.level) k) q.matched) ∷ waits_from (suc k) b qs

abbrev pub ledger : {N : Type 0} → Account N → Board → Ledger N
ledger a b = record { queries = a.queries; ends = a.ends; armed = a.armed; decided = map (λ m. m.found) b.marks.marks; waits = waits_from 0 b a.queries; due = a.due }

-- 1 for a query that has ended
abbrev pub ended_at : List (Option QueryEnd) → ℕ → ℕ
ended_at ends k = one_if (option_map_or is_some (slice_get ends k) false)

-- the lists and marks are those of these queries, and what was found to be met is listed or has ended
pub record IsKept {N : Type 0} (a : Account N) (b : Board) : Type 0 where
  pub ends : length a.ends ≡ length a.queries
  pub armed : length a.armed ≡ length a.queries
  pub watches : Watches a.queries b
  pub met : (k : ℕ) → count k b.marks.met + ended_at a.ends k ≡ one_if (found_at b.marks.marks k)
