-- Each instance stays of its unit, whatever a change does.
use Rattle.std.proofs.Common.{◌≡◌, ℕ, ◌==◌, map, List, [], ◌∷◌, length, slice_get, ◌⊎◌, inl, inr, sym, refl, ap, ◌∙◌, Option, Some, None}
use Rattle.std.specs.Bool.{if◌then◌else◌}
use Rattle.std.specs.Option.{option_map_or}
use Rattle.std.proofs.Common.{arith, ◌≤◌, ◌+◌}
use Rattle.orc_ids.specs.declared.ids.InstId.{InstId}
use Rattle.session_model.specs.Lists.{numbered, changed_at}
use Rattle.session_model.specs.Meaning.{Meaning}
use Rattle.session_model.specs.Plain.{Plain, UnitRow, GenRow, is_unsearched, is_owned_at}
use Rattle.session_model.specs.Change.{changed, defined, spent, all_claimed, claimed_for, claimed, claimed_row, unreplaced_row, new_rows, resolved_row, resolved_unit, emitted_row, hit_row, hits_failed, tracker_roots, removed_row, moved_unit, moved_generator, gone_tracker}
use Rattle.session_model.specs.declared.change.Change.{Change}
use Rattle.session_model.specs.declared.change.Change.TheVariants.{Nothing, MakeDylib, MakeTracker, SetOrder, Attach, Define, Generate, Spend, Ask, Start, Finish, Place, Resolve, Link, Emit, Fail, Move, Remove, LetGo}
use Rattle.session_model.specs.declared.rows.InstRow.{InstRow}
use Rattle.session_model.specs.declared.rows.Verdict.{Verdict}
use Rattle.session_laws.proofs.Defining.{new_rows_unit}
use Rattle.session_laws.proofs.Elements.{appended_cases, mapped_parts, numbered_parts}
use Rattle.session_laws.proofs.Settling.{chosen}

-- each instance was there before, of the same unit
abbrev pub SameUnits : List InstRow → List InstRow → Type 0
SameUnits rows new = (i : ℕ) (q : InstRow) → slice_get new i ≡ Some q → (r : InstRow) × (slice_get rows i ≡ Some r) × (r.unit ≡ q.unit)

-- or it is of a unit that wasn't there
abbrev pub RowsFrom : Plain → List InstRow → Type 0
RowsFrom m new = (i : ℕ) (q : InstRow) → slice_get new i ≡ Some q → ((r : InstRow) × (slice_get m.rows i ≡ Some r) × (r.unit ≡ q.unit)) ⊎ (length m.units ≤ q.unit.0)

same_units : (rows : List InstRow) → SameUnits rows rows
same_units rows i q e = (q, e, refl)

units_again : (rows new newer : List InstRow) → SameUnits rows new → SameUnits new newer → SameUnits rows newer
units_again rows new newer f g i q e = let p = g i q e in let o = f i p.0 p.1 in (o.0, o.1, o.2 ∙ p.2)

units_mapped : (rows : List InstRow) (f : InstRow → InstRow) → ((r : InstRow) → (f r).unit ≡ r.unit) → SameUnits rows (map f rows)
units_mapped rows f same i q e = let p = mapped_parts f rows i q e in (p.0, p.1, sym (ap (λ (y : InstRow). y.unit) p.2 ∙ same p.0))

units_numbered : (rows : List InstRow) (f : ℕ → InstRow → InstRow) → ((i : ℕ) (r : InstRow) → (f i r).unit ≡ r.unit) → SameUnits rows (numbered f 0 rows)
units_numbered rows f same i q e = let p = numbered_parts f rows i q e in (p.0, p.1, sym (ap (λ (y : InstRow). y.unit) p.2 ∙ same i p.0))

claim_units : (i : InstId) (m : Plain) → SameUnits m.rows (claimed_for i m).rows
claim_units i m = split (slice_get m.rows i.0)
  where
    split : (o : Option InstRow) → SameUnits m.rows (option_map_or (λ (r : InstRow). if is_unsearched r.phase then claimed r.unit.0 m else m) o m).rows
    split None = same_units m.rows
    split (Some r) = chosen (λ n. SameUnits m.rows n.rows) (is_unsearched r.phase) (claimed r.unit.0 m) m (λ b. units_mapped m.rows (claimed_row r.unit.0) (λ q. refl)) (λ b. same_units m.rows)

pub claims_units : (os : List (Option InstId)) (m : Plain) → SameUnits m.rows (all_claimed os m).rows
claims_units [] m = same_units m.rows
claims_units (None ∷ os) m = claims_units os m
claims_units (Some i ∷ os) m = units_again m.rows (claimed_for i m).rows (all_claimed os (claimed_for i m)).rows (claim_units i m) (claims_units os (claimed_for i m))

from_units : (m : Plain) (new : List InstRow) → SameUnits m.rows new → RowsFrom m new
from_units m new f i q e = inl (f i q e)

defined_from : (m : Plain) (d t : ℕ) (v : Meaning) (vs : List Verdict) → RowsFrom m (defined d t v vs m).rows
defined_from m d t v vs i q e = split (appended_cases (numbered (unreplaced_row vs) 0 m.rows) (new_rows d (length m.units) 0 v.offers vs) i q e)
  where
    split : (slice_get (numbered (unreplaced_row vs) 0 m.rows) i ≡ Some q) ⊎ ((j : ℕ) × (i ≡ length (numbered (unreplaced_row vs) 0 m.rows) + j) × (slice_get (new_rows d (length m.units) 0 v.offers vs) j ≡ Some q)) → ((r : InstRow) × (slice_get m.rows i ≡ Some r) × (r.unit ≡ q.unit)) ⊎ (length m.units ≤ q.unit.0)
    split (inl a) = inl (units_numbered m.rows (unreplaced_row vs) (λ j r. refl) i q a)
    split (inr a) = inr (omega (arith, new_rows_unit d (length m.units) 0 v.offers vs a.0 q a.2))

pub rows_from : (c : Change Meaning) (m : Plain) → RowsFrom m (changed c m).rows
rows_from Nothing m = from_units m m.rows (same_units m.rows)
rows_from (MakeDylib name) m = from_units m m.rows (same_units m.rows)
rows_from (MakeTracker d) m = from_units m m.rows (same_units m.rows)
rows_from (SetOrder d order) m = from_units m m.rows (same_units m.rows)
rows_from (Attach d t u) m = from_units m m.rows (same_units m.rows)
rows_from (Define d t u found) m = defined_from m d.0 t.0 u found
rows_from (Generate k found) m = split (slice_get m.generators k.0)
  where
    split : (o : Option GenRow) → RowsFrom m (option_map_or (λ x. spent k.0 (defined x.dylib x.tracker x.meaning found m)) o m).rows
    split None = from_units m m.rows (same_units m.rows)
    split (Some x) = defined_from m x.dylib x.tracker x.meaning found
rows_from (Spend k) m = from_units m m.rows (same_units m.rows)
rows_from (Ask found lev n) m = from_units m (all_claimed found m).rows (claims_units found m)
rows_from (Start t u) m = from_units m m.rows (same_units m.rows)
rows_from (Finish t u how) m = from_units m m.rows (same_units m.rows)
rows_from (Place u base) m = from_units m m.rows (same_units m.rows)
rows_from (Resolve u) m = split (slice_get m.units u.0)
  where
    split : (o : Option UnitRow) → RowsFrom m (option_map_or (λ (x : UnitRow). record m { rows = map (resolved_row u.0 (resolved_unit x)) m.rows; units = changed_at u.0 resolved_unit m.units }) o m).rows
    split None = from_units m m.rows (same_units m.rows)
    split (Some x) = from_units m (map (resolved_row u.0 (resolved_unit x)) m.rows) (units_mapped m.rows (resolved_row u.0 (resolved_unit x)) (λ r. refl))
rows_from (Link u found) m = from_units m (all_claimed found m).rows (claims_units found m)
rows_from (Emit u groups) m = from_units m (numbered (emitted_row u.0 groups) 0 m.rows) (units_numbered m.rows (emitted_row u.0 groups) (λ i r. refl))
rows_from (Fail u) m = from_units m (hits_failed (is_owned_at u.0 m.rows) m.rows) (units_numbered m.rows (hit_row (is_owned_at u.0 m.rows) m.rows) (λ i r. refl))
rows_from (Move t to) m = chosen (λ n. RowsFrom m n.rows) (t.0 == to.0) m (record m { units = map (moved_unit t.0 to.0) m.units; generators = map (moved_generator t.0 to.0) m.generators; trackers = changed_at t.0 gone_tracker m.trackers })
    (λ b. from_units m m.rows (same_units m.rows)) (λ b. from_units m m.rows (same_units m.rows))
rows_from (Remove t) m = from_units m (map (removed_row m t.0) (hits_failed (tracker_roots m t.0) m.rows))
    (units_again m.rows (hits_failed (tracker_roots m t.0) m.rows) (map (removed_row m t.0) (hits_failed (tracker_roots m t.0) m.rows))
    (units_numbered m.rows (hit_row (tracker_roots m t.0) m.rows) (λ i r. refl)) (units_mapped (hits_failed (tracker_roots m t.0) m.rows) (removed_row m t.0) (λ r. refl)))
rows_from (LetGo t u) m = from_units m m.rows (same_units m.rows)
