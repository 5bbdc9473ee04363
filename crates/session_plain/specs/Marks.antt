-- Marks on numbers: a walk of one more step at a time.
use Rattle.std.specs.Prelude.{◌≡◌, ℕ, Bool, true, not, ◌||◌, List, [], ◌∷◌, length, map, slice_get, unwrap_or}
use Rattle.std.specs.List.{list_any}
use Rattle.std.specs.Option.{option_map_or}
use Rattle.orc_ids.specs.declared.ids.InstId.{InstId}
use Rattle.graph_walks.specs.Walks.{within}
use Rattle.session_model.specs.Reach.{is_ready}
use Rattle.session_model.specs.declared.rows.InstRow.{InstRow}
use Rattle.session_model.specs.declared.rows.Phase.{Phase}
use Rattle.session_model.specs.declared.rows.Phase.TheVariants.{Emitted}

abbrev pub numbers : List InstId → List ℕ
numbers to = map (λ (i : InstId). i.0) to

-- what follows a number, by a list that has what follows each
abbrev pub edges_at : List (List InstId) → ℕ → List ℕ
edges_at edges i = option_map_or numbers (slice_get edges i) []

-- the dependencies recorded for an instance
abbrev pub dep_list : Phase → List InstId
dep_list (Emitted address deps) = deps
dep_list _ = []

-- the mark of a number; those behind the list have another
abbrev pub mark_at : List Bool → Bool → ℕ → Bool
mark_at marks other j = unwrap_or (slice_get marks j) other

-- marked at first, or by one that follows and was marked before
abbrev pub marked : List Bool → Bool → List InstId → Bool → Bool
marked marks other to first = first || list_any (mark_at marks other) (numbers to)

abbrev pub next_marks : List Bool → Bool → List (List InstId) → List Bool → List Bool
next_marks marks other [] firsts = []
next_marks marks other (to ∷ edges) [] = []
next_marks marks other (to ∷ edges) (b ∷ bs) = marked marks other to b ∷ next_marks marks other edges bs

-- the marks are those of the walks of k steps to what passes the test
pub record AreWithin (k n : ℕ) (next : ℕ → List ℕ) (test : ℕ → Bool) (marks : List Bool) (other : Bool) : Type 0 where
  pub inside : length marks ≡ n
  pub each : (i : ℕ) → mark_at marks other i ≡ within k next test i

-- the marks are the test's
pub record AreTests (n : ℕ) (test : ℕ → Bool) (marks : List Bool) (other : Bool) : Type 0 where
  pub inside : length marks ≡ n
  pub each : (i : ℕ) → mark_at marks other i ≡ test i

-- an instance is marked where it isn't ready
pub record MarksUnready (rows : List InstRow) (marks : List Bool) : Type 0 where
  pub inside : length marks ≡ length rows
  pub each : (i : ℕ) → mark_at marks true i ≡ not (is_ready rows i)
