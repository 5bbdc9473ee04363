-- What a tracker has is of its dylib.
use Rattle.std.proofs.Common.{◌≡◌, ℕ, ◌<◌, true, ◌==◌, length, slice_get, Option, Some, None, refl, ap, sym, subst, ◌∙◌}
use Rattle.std.specs.Option.{option_map_or}
use Rattle.std.specs.Prelude.{option_map, not, false}
use Rattle.std.proofs.lemmas.Bool.{eqb-true}
use Rattle.session_model.specs.Plain.{Plain, UnitRow, has_tracker, tracker_dylib}
use Rattle.session_model.specs.declared.rows.Track.{Track}
use Rattle.closure_laws.specs.Homes.{HasHomes}
use Rattle.jit_dylib.specs.Laws.{IsTrackerOf}

pub rows_of_tracker : (m : Plain) (t : ℕ) → HasHomes m → IsTrackerOf m t (tracker_dylib m t)
rows_of_tracker m t homes i r at present its = split (slice_get m.units r.unit.0) refl its
  where
    split : (o : Option UnitRow) → slice_get m.units r.unit.0 ≡ o → option_map_or (λ v. v == t) (option_map (λ (x : UnitRow). x.tracker) o) false ≡ true → r.dylib.0 ≡ tracker_dylib m t
    split None e f = absurd cc
    split (Some x) e f = let home = (homes.rows i r at).tracker x e in
        sym home.2 ∙ sym (ap (λ o. option_map_or (λ (y : Track). y.dylib) o 0) (ap (slice_get m.trackers) (sym (eqb-true x.tracker t f)) ∙ home.1))

pub tracker_dylib_there : (m : Plain) (t : ℕ) → HasHomes m → has_tracker m t ≡ true → tracker_dylib m t < length m.dylibs
tracker_dylib_there m t homes its = split (slice_get m.trackers t) refl its
  where
    split : (o : Option Track) → slice_get m.trackers t ≡ o → option_map_or (λ (x : Track). not x.gone) o false ≡ true → tracker_dylib m t < length m.dylibs
    split None e f = absurd cc
    split (Some x) e f = subst (λ o. option_map_or (λ (y : Track). y.dylib) o 0 < length m.dylibs) (sym e) (homes.trackers t x e)
