-- The tests of readiness and of a hit, by walks of bounded length.
use Rattle.std.proofs.Common.{◌≡◌, ℕ, Bool, true, not, List, [], length, Contains, ap}
use Rattle.std.specs.Option.{option_map_or}
use Rattle.std.proofs.lemmas.Bool.{both_ways, false_from_ne_true, true_from_ne_false, and_parts, and_from, not-true, not_from_false}
use Rattle.std.proofs.lemmas.Option.{slice_get_past}
use Rattle.graph_walks.specs.Walks.{IsBounded}
use Rattle.graph_walks.proofs.Paths as walks
use Rattle.session_model.specs.Plain.{emitted_at, phase_deps}
use Rattle.session_model.specs.Reach.{Reaches, IsReady, IsHit, reaches_some, is_ready, is_hit, deps_at}
use Rattle.session_model.specs.declared.rows.InstRow.{InstRow}
use Rattle.session_laws.specs.Walks.{WalksSuffice, ReadyIsTested, HitIsTested, ClosedHoldsReached, ReachIsTransitive}

-- no dependency is recorded past the end of the list
deps_bounded : (rows : List InstRow) → IsBounded (length rows) (deps_at rows)
deps_bounded rows i h = ap (λ o. option_map_or (λ r. phase_deps r.phase) o []) (slice_get_past rows i h)

pub row_walks : WalksSuffice
row_walks rows test i = walks.walks_suffice (length rows) (deps_at rows) test i (deps_bounded rows)

pub reaches_self : (rows : List InstRow) (i : ℕ) → Reaches rows i i
reaches_self rows i = walks.reaches_self (deps_at rows) i

pub reaches_dep : (rows : List InstRow) (i k j : ℕ) → Contains (deps_at rows i) k → Reaches rows k j → Reaches rows i j
reaches_dep rows i k j c r = walks.reaches_next (deps_at rows) i k j c r

pub reach_transitive : ReachIsTransitive
reach_transitive rows i j k r s = walks.reach_is_transitive (deps_at rows) i j k r s

pub closed_reached : (rows : List InstRow) (P : ℕ → Type 0) → ((i k : ℕ) → P i → Contains (deps_at rows i) k → P k) → (i j : ℕ) → P i → Reaches rows i j → P j
closed_reached rows P c i j a r = walks.closed_reached (deps_at rows) P c i j a r

pub closed_holds : ClosedHoldsReached
closed_holds rows set c i j a r = walks.closed_holds_reached (deps_at rows) set c i j a r

-- Tests

pub ready_from_test : (rows : List InstRow) (i : ℕ) → is_ready rows i ≡ true → IsReady rows i
ready_from_test rows i e = record {
  each = λ j r. true_from_ne_false (emitted_at rows j) (λ f.
      both_ways _ (not-true (reaches_some rows (λ k. not (emitted_at rows k)) i) e) ((row_walks rows (λ k. not (emitted_at rows k)) i).1 (j, r, not_from_false (emitted_at rows j) f)));
}

pub test_from_ready : (rows : List InstRow) (i : ℕ) → IsReady rows i → is_ready rows i ≡ true
test_from_ready rows i h = not_from_false _ (false_from_ne_true _ (λ e. none ((row_walks rows (λ k. not (emitted_at rows k)) i).0 e)))
  where
    none : (j : ℕ) × Reaches rows i j × (not (emitted_at rows j) ≡ true) → ⊥
    none p = both_ways _ (not-true (emitted_at rows p.0) p.2) (h.each p.0 p.1)

pub ready_tested : ReadyIsTested
ready_tested rows i = (ready_from_test rows i, test_from_ready rows i)

pub hit_from_test : (rows : List InstRow) (roots : ℕ → Bool) (i : ℕ) → is_hit rows roots i ≡ true → IsHit rows roots i
hit_from_test rows roots i e = made (and_parts (not (is_ready rows i)) (reaches_some rows roots i) e)
  where
    made : (not (is_ready rows i) ≡ true) × (reaches_some rows roots i ≡ true) → IsHit rows roots i
    made p = let w = (row_walks rows roots i).0 p.1 in
        record { unready = λ h. both_ways _ (not-true (is_ready rows i) p.0) (test_from_ready rows i h); root = w.0; chosen = w.2; reaches = w.1 }

pub test_from_hit : (rows : List InstRow) (roots : ℕ → Bool) (i : ℕ) → IsHit rows roots i → is_hit rows roots i ≡ true
test_from_hit rows roots i h = and_from (not (is_ready rows i)) (reaches_some rows roots i)
    (not_from_false _ (false_from_ne_true _ (λ e. h.unready (ready_from_test rows i e))))
    ((row_walks rows roots i).1 (h.root, h.reaches, h.chosen))

pub hit_tested : HitIsTested
hit_tested rows roots i = (hit_from_test rows roots i, test_from_hit rows roots i)
