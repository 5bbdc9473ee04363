-- Readiness: an instance is ready where it and everything that it reaches through recorded
-- dependencies is emitted (ORC: SymbolState::Ready).
use Rattle.std.specs.Prelude.{◌≡◌, ℕ, Bool, true, ◌&&◌, not, List, [], length, slice_get}
use Rattle.std.specs.Option.{option_map_or}
use Rattle.graph_walks.specs.Walks as walks
use Rattle.graph_walks.specs.Walks.{within}
use Rattle.session_model.specs.Plain.{phase_deps, emitted_at}
use Rattle.session_model.specs.declared.rows.InstRow.{InstRow}

-- the dependencies recorded for an instance
abbrev pub deps_at : List InstRow → ℕ → List ℕ
deps_at rows i = option_map_or (λ r. phase_deps r.phase) (slice_get rows i) []

-- i reaches j: every instance reaches itself
abbrev pub Reaches : List InstRow → ℕ → ℕ → Type 0
Reaches rows i j = walks.Reaches (deps_at rows) i j

-- everything that i reaches is emitted
pub record IsReady (rows : List InstRow) (i : ℕ) : Type 0 where
  pub each : (j : ℕ) → Reaches rows i j → emitted_at rows j ≡ true

-- what a failure of the roots takes along: the unready instances that reach one
pub record IsHit (rows : List InstRow) (roots : ℕ → Bool) (i : ℕ) : Type 0 where
  pub unready : IsReady rows i → ⊥
  pub root : ℕ
  pub chosen : roots root ≡ true
  pub reaches : Reaches rows i root

-- The same as tests, by walks of at most so many steps. A walk to a place in a list of rows need
-- not be longer than the list.
abbrev pub reaches_some : List InstRow → (ℕ → Bool) → ℕ → Bool
reaches_some rows test i = within (length rows) (deps_at rows) test i

abbrev pub is_ready : List InstRow → ℕ → Bool
is_ready rows i = not (reaches_some rows (λ j. not (emitted_at rows j)) i)

abbrev pub is_hit : List InstRow → (ℕ → Bool) → ℕ → Bool
is_hit rows roots i = not (is_ready rows i) && reaches_some rows roots i
