-- After a fail or a removal exactly the hit instances are newly Failed.
use Rattle.std.proofs.Common.{◌≡◌, ℕ, Bool, true, false, not, ◌&&◌, List, [], ◌∷◌, slice_get, map, length, Contains, ◌<◌, not-suc-le-zero, ◌⊎◌, inl, inr, ◌↔◌, subst, sym, refl, ap, ◌∙◌, Option, Some, None, option_map}
use Rattle.std.specs.Bool.{if◌then◌else◌}
use Rattle.std.specs.Option.{option_map_or}
use Rattle.std.proofs.lemmas.Bool.{both_ways, and_parts}
use Rattle.session_model.specs.Plain.{Plain, failed_at, is_failed, is_owned, phase_deps}
use Rattle.graph_walks.specs.Walks.{IsPath}
use Rattle.session_model.specs.Reach.{IsHit, is_hit, is_ready, deps_at}
use Rattle.session_model.specs.Change.{hits_failed, tracker_roots, is_unit_of, failed, removed}
use Rattle.session_model.specs.Plain.{is_owned_at}
use Rattle.session_model.specs.declared.rows.InstRow.{InstRow}
use Rattle.session_model.specs.declared.rows.Phase.TheVariants as phase
use Rattle.session_laws.proofs.Elements.{numbered_at, mapped_at}
use Rattle.session_laws.proofs.Paths.{hit_from_test, test_from_hit}
use Rattle.session_laws.proofs.Settling.{settled_rows, chosen}
use Rattle.session_laws.specs.Failures.{FailFailsHits, RemoveFailsHits}

-- an instance that isn't there reaches itself alone
pub absent_reaches : (rows : List InstRow) (i j : ℕ) (p : List ℕ) → slice_get rows i ≡ None → IsPath (deps_at rows) i p j → i ≡ j
absent_reaches rows i j [] e l = l
absent_reaches rows i j (k ∷ ks) e l = absurd (empty (deps_at rows i) (ap (λ o. option_map_or (λ r. phase_deps r.phase) o []) e) l.0)
  where
    empty : (ds : List ℕ) → ds ≡ [] → Contains ds k → ⊥
    empty ds n c = not-suc-le-zero (subst (λ xs. c.0 < length xs) n c.1)

-- the rows after a failure of the roots, all of which are there
pub hits_are_failed : (rows : List InstRow) (roots : ℕ → Bool) → ((j : ℕ) → slice_get rows j ≡ None → roots j ≡ true → ⊥) → (i : ℕ) →
    (failed_at (hits_failed roots rows) i ≡ true) ↔ (failed_at rows i ≡ true) ⊎ IsHit rows roots i
hits_are_failed rows roots there i = subst (λ o. (option_map_or (λ r. is_failed r.phase) o false ≡ true) ↔ (failed_at rows i ≡ true) ⊎ IsHit rows roots i) (sym (numbered_at failing rows i)) (split (slice_get rows i) refl)
  where
    failing : ℕ → InstRow → InstRow
    failing k r = record r { phase = if is_hit rows roots k then phase.Failed else r.phase }

    split : (o : Option InstRow) → slice_get rows i ≡ o → (option_map_or (λ r. is_failed r.phase) (option_map (failing i) o) false ≡ true) ↔ (failed_at rows i ≡ true) ⊎ IsHit rows roots i
    split None e = (λ f. absurd (both_ways false refl f), λ c. absurd (none c))
      where
        none : (failed_at rows i ≡ true) ⊎ IsHit rows roots i → ⊥
        none (inl f) = both_ways false refl (subst (λ o. option_map_or (λ (r : InstRow). is_failed r.phase) o false ≡ true) e f)
        none (inr h) = there i e (subst (λ j. roots j ≡ true) (sym (absent_reaches rows i h.root h.reaches.path e h.reaches.leads)) h.chosen)
    split (Some r) e = (told, made)
      where
        told : is_failed (if is_hit rows roots i then phase.Failed else r.phase) ≡ true → (failed_at rows i ≡ true) ⊎ IsHit rows roots i
        told = chosen (λ p. is_failed p ≡ true → (failed_at rows i ≡ true) ⊎ IsHit rows roots i) (is_hit rows roots i) phase.Failed r.phase
            (λ h f. inr (hit_from_test rows roots i h))
            (λ h f. inl (subst (λ o. option_map_or (λ (r : InstRow). is_failed r.phase) o false ≡ true) (sym e) f))

        made : (failed_at rows i ≡ true) ⊎ IsHit rows roots i → is_failed (if is_hit rows roots i then phase.Failed else r.phase) ≡ true
        made (inl f) = chosen (λ p. is_failed p ≡ true) (is_hit rows roots i) phase.Failed r.phase (λ h. refl) (λ h. subst (λ o. option_map_or (λ (r : InstRow). is_failed r.phase) o false ≡ true) e f)
        made (inr h) = chosen (λ p. is_failed p ≡ true) (is_hit rows roots i) phase.Failed r.phase (λ t. refl) (λ f. absurd (both_ways (is_hit rows roots i) f (test_from_hit rows roots i h)))

pub unit_roots_there : (u : ℕ) (rows : List InstRow) (j : ℕ) → slice_get rows j ≡ None → is_owned_at u rows j ≡ true → ⊥
unit_roots_there u rows j e r = both_ways false refl (subst (λ o. option_map_or (is_owned u) o false ≡ true) e r)

pub tracker_roots_there : (m : Plain) (t j : ℕ) → slice_get m.rows j ≡ None → tracker_roots m t j ≡ true → ⊥
tracker_roots_there m t j e r = both_ways false refl (subst (λ o. option_map_or (λ (x : InstRow). x.present && is_unit_of m t x.unit.0) o false ≡ true) e (and_parts (option_map_or (λ (x : InstRow). x.present && is_unit_of m t x.unit.0) (slice_get m.rows j) false) (not (is_ready m.rows j)) r).0)

-- that an instance goes says nothing of its phase
gone_failed : (f : InstRow → Bool) (rows : List InstRow) (i : ℕ) → failed_at (map (λ (r : InstRow). record r { present = f r }) rows) i ≡ failed_at rows i
gone_failed f rows i = ap (λ o. option_map_or (λ (r : InstRow). is_failed r.phase) o false) (mapped_at (λ (r : InstRow). record r { present = f r }) rows i) ∙ same (slice_get rows i)
  where
    same : (o : Option InstRow) → option_map_or (λ (r : InstRow). is_failed r.phase) (option_map (λ (r : InstRow). record r { present = f r }) o) false ≡ option_map_or (λ (r : InstRow). is_failed r.phase) o false
    same None = refl
    same (Some r) = refl

pub fail_fails_hits : FailFailsHits
fail_fails_hits m s u cause i = subst (λ rows. (failed_at rows i ≡ true) ↔ (failed_at m.rows i ≡ true) ⊎ IsHit m.rows (is_owned_at u.0 m.rows) i) (sym (settled_rows (failed u.0 m)))
    (hits_are_failed m.rows (is_owned_at u.0 m.rows) (unit_roots_there u.0 m.rows) i)

pub remove_fails_hits : RemoveFailsHits
remove_fails_hits m s t i = subst (λ rows. (failed_at rows i ≡ true) ↔ (failed_at m.rows i ≡ true) ⊎ IsHit m.rows (tracker_roots m t.0) i) (sym (settled_rows (removed t.0 m)))
    (subst (λ b. (b ≡ true) ↔ (failed_at m.rows i ≡ true) ⊎ IsHit m.rows (tracker_roots m t.0) i) (sym (gone_failed (λ r. r.present && not (is_unit_of m t.0 r.unit.0)) (hits_failed (tracker_roots m t.0) m.rows) i))
    (hits_are_failed m.rows (tracker_roots m t.0) (tracker_roots_there m t.0) i))
