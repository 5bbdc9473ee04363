-- Each instance was there before, unless a definition made it.
use Rattle.std.proofs.Common.{◌≡◌, ℕ, ◌<◌, ◌==◌, true, false, map, List, [], ◌∷◌, length, slice_get, subst, refl, ◌∙◌, Option, Some, None}
use Rattle.std.specs.Bool.{if◌then◌else◌}
use Rattle.std.specs.Option.{option_map_or}
use Rattle.std.proofs.lemmas.Bool.{both_ways}
use Rattle.orc_ids.specs.declared.ids.InstId.{InstId}
use Rattle.session_model.specs.Lists.{changed_at}
use Rattle.session_model.specs.Meaning.{Meaning}
use Rattle.session_model.specs.Plain.{Plain, UnitRow, is_unsearched, is_owned_at}
use Rattle.session_model.specs.Change.{changed, all_claimed, claimed_for, claimed, claimed_row, resolved_row, resolved_unit, emitted_row, hit_row, hits_failed, tracker_roots, removed_row, moved_unit, moved_generator, gone_tracker}
use Rattle.session_model.specs.declared.change.Change.{Change}
use Rattle.session_model.specs.declared.change.Change.TheVariants.{Nothing, MakeDylib, MakeTracker, SetOrder, Attach, Define, Generate, Spend, Ask, Start, Finish, Place, Resolve, Link, Emit, Fail, Move, Remove, LetGo}
use Rattle.session_model.specs.declared.rows.InstRow.{InstRow}
use Rattle.session_laws.proofs.Declared.{same_element, element_below, mapped_length, numbered_length, Guard, chosen}
use Rattle.session_laws.specs.Sound.{IsSound}
use Rattle.closure_laws.proofs.Fields.{is_define}
use Rattle.closure_laws.proofs.LevelsStaying.{row_below}
use Rattle.closure_laws.proofs.RowMoving.{SameRow, change_rows, run_same}

claim_count : (i : InstId) (m : Plain) → length (claimed_for i m).rows ≡ length m.rows
claim_count i m = split (slice_get m.rows i.0)
  where
    split : (o : Option InstRow) → length (option_map_or (λ (r : InstRow). if is_unsearched r.phase then claimed r.unit.0 m else m) o m).rows ≡ length m.rows
    split None = refl
    split (Some r) = chosen (λ n. length n.rows ≡ length m.rows) (is_unsearched r.phase) (claimed r.unit.0 m) m (λ b. mapped_length (claimed_row r.unit.0) m.rows) (λ b. refl)

claims_count : (os : List (Option InstId)) (m : Plain) → length (all_claimed os m).rows ≡ length m.rows
claims_count [] m = refl
claims_count (None ∷ os) m = claims_count os m
claims_count (Some i ∷ os) m = claims_count os (claimed_for i m) ∙ claim_count i m

-- only a definition makes instances
row_count : (m : Plain) (c : Change Meaning) → is_define c ≡ false → length (changed c m).rows ≡ length m.rows
row_count m Nothing d = refl
row_count m (MakeDylib name) d = refl
row_count m (MakeTracker e) d = refl
row_count m (SetOrder e order) d = refl
row_count m (Attach e t u) d = refl
row_count m (Define e t u found) d = absurd (both_ways true d refl)
row_count m (Generate k found) d = absurd (both_ways true d refl)
row_count m (Spend k) d = refl
row_count m (Ask found lev n) d = claims_count found m
row_count m (Start t u) d = refl
row_count m (Finish t u how) d = refl
row_count m (Place u base) d = refl
row_count m (Resolve u) d = split (slice_get m.units u.0)
  where
    split : (o : Option UnitRow) → length (option_map_or (λ (x : UnitRow). record m { rows = map (resolved_row u.0 (resolved_unit x)) m.rows; units = changed_at u.0 resolved_unit m.units }) o m).rows ≡ length m.rows
    split None = refl
    split (Some x) = mapped_length (resolved_row u.0 (resolved_unit x)) m.rows
row_count m (Link u found) d = claims_count found m
row_count m (Emit u groups) d = numbered_length (emitted_row u.0 groups) 0 m.rows
row_count m (Fail u) d = numbered_length (hit_row (is_owned_at u.0 m.rows) m.rows) 0 m.rows
row_count m (Move t to) d = chosen (λ n. length n.rows ≡ length m.rows) (t.0 == to.0) m (record m { units = map (moved_unit t.0 to.0) m.units; generators = map (moved_generator t.0 to.0) m.generators; trackers = changed_at t.0 gone_tracker m.trackers }) (λ b. refl) (λ b. refl)
row_count m (Remove t) d = mapped_length (removed_row m t.0) (hits_failed (tracker_roots m t.0) m.rows) ∙ numbered_length (hit_row (tracker_roots m t.0) m.rows) 0 m.rows
row_count m (LetGo t u) d = refl

-- so after any other change each was there
pub row_was : (m : Plain) (s : ℕ) (c : Change Meaning) → is_define c ≡ false → IsSound m → Guard m s c → (i : ℕ) (q : InstRow) → slice_get (changed c m).rows i ≡ Some q → (r : InstRow) × (slice_get m.rows i ≡ Some r) × SameRow r q
row_was m s c other h g i q e =
    let r = row_below m.rows i (subst (λ n. i < n) (row_count m c other) (element_below (changed c m).rows i q e)) in
    let z = change_rows m s c h g i r.0 r.1 in
    (r.0, r.1, subst (SameRow r.0) (same_element (slice_get (changed c m).rows i) z.0 q z.1 e) (run_same m c i r.0 z.0 z.2))
