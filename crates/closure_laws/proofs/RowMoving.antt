-- What a change does to one instance: each way in which its row moves on.
use Rattle.std.proofs.Common.{◌≡◌, ℕ, Bool, true, false, not, ◌&&◌, ◌==◌, map, List, [], ◌∷◌, length, slice_get, ◌⊎◌, inl, inr, subst, sym, refl, ap, ◌∙◌, Option, Some, None, is_some, unwrap_or, ◌||◌}
use Rattle.std.specs.Prelude.{is_none}
use Rattle.std.specs.Bool.{if◌then◌else◌}
use Rattle.std.specs.Option.{option_map_or}
use Rattle.std.proofs.lemmas.Bool.{both_ways, and_parts, and_from}
use Rattle.list_laws.proofs.Bools.{and_kept}
use Rattle.orc_ids.specs.declared.groups.Group.{Group}
use Rattle.orc_ids.specs.declared.ids.InstId.{InstId}
use Rattle.orc_ids.specs.declared.ids.TrackId.{TrackId}
use Rattle.orc_ids.specs.declared.ids.UnitId.{UnitId}
use Rattle.session_model.specs.Lists.{numbered, changed_at}
use Rattle.session_model.specs.Answer.{is_stage, can_resolve, can_emit}
use Rattle.session_model.specs.Meaning.{Meaning}
use Rattle.session_model.specs.Plain.{Plain, UnitRow, GenRow, is_alias, unit_shape, is_unsearched, is_owned, is_owned_at, phase_address}
use Rattle.session_model.specs.Reach.{is_hit}
use Rattle.session_model.specs.Change.{changed, verdicts, defined, spent, all_claimed, claimed_for, claimed, claimed_row, is_replaced, unreplaced_row, new_rows, resolved_row, resolved_unit, emitted_row, deps_in, hit_row, hits_failed, tracker_roots, removed_row, is_unit_of, moved_unit, moved_generator, gone_tracker}
use Rattle.session_model.specs.declared.change.Change.{Change}
use Rattle.session_model.specs.declared.change.Change.TheVariants.{Nothing, MakeDylib, MakeTracker, SetOrder, Attach, Define, Generate, Spend, Ask, Start, Finish, Place, Resolve, Link, Emit, Fail, Move, Remove, LetGo}
use Rattle.session_model.specs.declared.rows.InstRow.{InstRow}
use Rattle.session_model.specs.declared.rows.Phase.{Phase}
use Rattle.session_model.specs.declared.rows.Phase.TheVariants as phase
use Rattle.session_model.specs.declared.rows.UnitPhase.TheVariants as stage
use Rattle.session_laws.proofs.Declared.{owned_parts, replaced_unsearched, front_some, mapped_some, numbered_some, same_element, test_is, unsearched_unclaimed, Guard, IsOwnEmission, stage_of, row_is, unclaimed_row, finishing_stage, resolvable, emitting_stage, emittable, chosen}
use Rattle.closure_laws.proofs.Fields.{is_define}
use Rattle.session_laws.specs.Sound.{IsSound, fits, row_stage, is_claimed, is_resolved}

-- the unit is there, and no lookup has asked for it
abbrev pub AtUnclaimed : Plain → ℕ → Type 0
AtUnclaimed m u = (x : UnitRow) × (slice_get m.units u ≡ Some x) × (x.phase ≡ stage.Unclaimed)

-- one step of instance i, from row r
pub data RowMoves (m : Plain) (c : Change Meaning) (i : ℕ) (r : InstRow) : InstRow → Type 0 where
  RowStays : RowMoves m c i r r
  -- a strong definition has its place, or it was gone before
  RowYields : is_define c ≡ true → (r.present ≡ true → AtUnclaimed m r.unit.0) → RowMoves m c i r (record r { present = false })
  RowClaimed : is_unsearched r.phase ≡ true → RowMoves m c i r (record r { phase = phase.Claimed })
  RowResolved : (address : ℕ) → is_claimed r.phase ≡ true → RowMoves m c i r (record r { phase = phase.Resolved address })
  RowEmitted : (u : UnitId) (groups : List Group) (x : UnitRow) → c ≡ Emit u groups → r.unit.0 ≡ u.0 → slice_get m.units r.unit.0 ≡ Some x → x.phase ≡ stage.Finishing → IsOwnEmission m r.unit.0 x groups → is_resolved r.phase ≡ true →
      RowMoves m c i r (record r { phase = phase.Emitted (unwrap_or (phase_address r.phase) 0) (deps_in groups i) })
  RowFails : RowMoves m c i r (record r { phase = phase.Failed })
  RowGoes : (t : TrackId) → c ≡ Remove t → is_unit_of m t.0 r.unit.0 ≡ true → RowMoves m c i r (record r { present = false })

-- any number of steps
pub data RowRuns (m : Plain) (c : Change Meaning) (i : ℕ) (r : InstRow) : InstRow → Type 0 where
  RowHere : RowRuns m c i r r
  RowOn : (p q : InstRow) → RowRuns m c i r p → RowMoves m c i p q → RowRuns m c i r q

-- each instance is there yet, and moved on
abbrev pub RowsRun : Plain → Change Meaning → List InstRow → Type 0
RowsRun m c new = (i : ℕ) (r : InstRow) → slice_get m.rows i ≡ Some r → (q : InstRow) × (slice_get new i ≡ Some q) × RowRuns m c i r q

rows_same : (m : Plain) (c : Change Meaning) → RowsRun m c m.rows
rows_same m c i r e = (r, e, RowHere)

rows_mapped : (m : Plain) (c : Change Meaning) (rows : List InstRow) (f : InstRow → InstRow) → RowsRun m c rows → ((i : ℕ) (q : InstRow) → slice_get rows i ≡ Some q → RowMoves m c i q (f q)) → RowsRun m c (map f rows)
rows_mapped m c rows f old step i r e = let p = old i r e in (f p.0, mapped_some f rows i p.0 p.1, RowOn p.0 (f p.0) p.2 (step i p.0 p.1))

rows_numbered : (m : Plain) (c : Change Meaning) (f : ℕ → InstRow → InstRow) → ((i : ℕ) (r : InstRow) → slice_get m.rows i ≡ Some r → RowMoves m c i r (f i r)) → RowsRun m c (numbered f 0 m.rows)
rows_numbered m c f step i r e = (f i r, numbered_some f m.rows i r e, RowOn r (f i r) RowHere (step i r e))

-- a new phase, where a test is passed
rephased : (m : Plain) (c : Change Meaning) (i : ℕ) (r : InstRow) (b : Bool) (p : Phase) → (b ≡ true → RowMoves m c i r (record r { phase = p })) → RowMoves m c i r (record r { phase = if b then p else r.phase })
rephased m c i r b p f = chosen (λ o. RowMoves m c i r (record r { phase = o })) b p r.phase f (λ e. RowStays)

claim_rows : (m : Plain) (c : Change Meaning) (i : InstId) (n : Plain) → RowsRun m c n.rows → RowsRun m c (claimed_for i n).rows
claim_rows m c i n old = split (slice_get n.rows i.0)
  where
    split : (o : Option InstRow) → RowsRun m c (option_map_or (λ (r : InstRow). if is_unsearched r.phase then claimed r.unit.0 n else n) o n).rows
    split None = old
    split (Some r) = chosen (λ k. RowsRun m c k.rows) (is_unsearched r.phase) (claimed r.unit.0 n) n
        (λ b. rows_mapped m c n.rows (claimed_row r.unit.0) old (λ j q e. rephased m c j q (is_owned r.unit.0 q && is_unsearched q.phase) phase.Claimed (λ a. RowClaimed (and_parts (is_owned r.unit.0 q) (is_unsearched q.phase) a).1)))
        (λ b. old)

claims_rows : (m : Plain) (c : Change Meaning) (os : List (Option InstId)) (n : Plain) → RowsRun m c n.rows → RowsRun m c (all_claimed os n).rows
claims_rows m c [] n old = old
claims_rows m c (None ∷ os) n old = claims_rows m c os n old
claims_rows m c (Some i ∷ os) n old = claims_rows m c os (claimed_for i n) (claim_rows m c i n old)

-- a row is replaced, or is as it was
unreplaced : (m : Plain) (c : Change Meaning) (d : ℕ) (v : Meaning) → is_define c ≡ true → IsSound m → (i : ℕ) (r : InstRow) → slice_get m.rows i ≡ Some r → RowMoves m c i r (unreplaced_row (verdicts m.rows d v.offers) i r)
unreplaced m c d v defines s i r e = split (is_replaced (verdicts m.rows d v.offers) i) refl r.present refl
  where
    gone : is_replaced (verdicts m.rows d v.offers) i ≡ true → r.present ≡ true → AtUnclaimed m r.unit.0
    gone is present =
        let x = (s.rows_fit i r e).here present in
        let unsearched = sym (test_is (λ (y : InstRow). is_unsearched y.phase) m.rows i r e) ∙ replaced_unsearched m.rows d v.offers i is in
        (x.0, x.1, unclaimed_row x.0 (unsearched_unclaimed (row_stage x.0) r.phase x.2 unsearched))

    split : (b : Bool) → is_replaced (verdicts m.rows d v.offers) i ≡ b → (p : Bool) → r.present ≡ p → RowMoves m c i r (record r { present = p && not b })
    split false is p h = subst (λ o. RowMoves m c i r (record r { present = o })) (h ∙ sym (and_kept p false refl)) RowStays
    split true is true h = RowYields defines (gone is)
    split true is false h = RowYields defines (gone is)

defined_rows : (m : Plain) (c : Change Meaning) (d t : ℕ) (v : Meaning) → is_define c ≡ true → IsSound m → RowsRun m c (defined d t v (verdicts m.rows d v.offers) m).rows
defined_rows m c d t v defines s i r e =
    let p = rows_numbered m c (unreplaced_row (verdicts m.rows d v.offers)) (unreplaced m c d v defines s) i r e in
    (p.0, front_some (numbered (unreplaced_row (verdicts m.rows d v.offers)) 0 m.rows) (new_rows d (length m.units) 0 v.offers (verdicts m.rows d v.offers)) i p.0 p.1, p.2)

-- the instances of a unit fit it
own_fits : (m : Plain) (u : ℕ) (x : UnitRow) (i : ℕ) (r : InstRow) → IsSound m → slice_get m.units u ≡ Some x → slice_get m.rows i ≡ Some r → is_owned u r ≡ true → fits (row_stage x) r.phase ≡ true
own_fits m u x i r s t e o =
    let p = owned_parts u r o in
    let y = (s.rows_fit i r e).here p.0 in
    subst (λ (z : UnitRow). fits (row_stage z) r.phase ≡ true) (same_element (slice_get m.units u) y.0 x (sym (ap (slice_get m.units) p.1) ∙ y.1) t) y.2

-- before a resolve they have no address
claimed_before : (x : UnitRow) (p : Phase) → can_resolve x ≡ true → fits (row_stage x) p ≡ true → is_claimed p ≡ true
claimed_before x p c f = split (is_alias x) refl c
  where
    plain : ((is_alias x ≡ true) × (x.phase ≡ stage.Finishing)) ⊎ ((is_alias x ≡ false) × ((x.phase ≡ stage.Placed) ⊎ (x.phase ≡ stage.Started))) → is_alias x ≡ false → is_claimed p ≡ true
    plain (inl q) e = absurd (both_ways (is_alias x) e q.0)
    plain (inr (a, inl q)) e = subst (λ s. fits s p ≡ true) (row_is x stage.Placed q refl) f
    plain (inr (a, inr q)) e = subst (λ s. fits s p ≡ true) (row_is x stage.Started q refl) f

    split : (b : Bool) → is_alias x ≡ b → (if b then is_stage stage.Finishing x.phase && is_some x.bound && is_none x.base else is_stage stage.Placed x.phase || is_stage stage.Started x.phase && is_none (unit_shape x)) ≡ true → is_claimed p ≡ true
    split true e d = let q = and_parts (is_stage stage.Finishing x.phase && is_some x.bound) (is_none x.base) d in
        subst (λ s. fits s p ≡ true)
        (ap (λ b. stage_of b x.phase) (and_from (is_alias x) (is_none x.base) e q.1) ∙ ap (stage_of true) (finishing_stage x.phase (and_parts (is_stage stage.Finishing x.phase) (is_some x.bound) q.0).0)) f
    split false e d = plain (resolvable x c) e

resolved_rows : (m : Plain) (c : Change Meaning) (u : ℕ) (x : UnitRow) → IsSound m → slice_get m.units u ≡ Some x → can_resolve x ≡ true → RowsRun m c (map (resolved_row u (resolved_unit x)) m.rows)
resolved_rows m c u x s t can = rows_mapped m c m.rows (resolved_row u (resolved_unit x)) (rows_same m c)
    (λ i r e. rephased m c i r (is_owned u r) (phase.Resolved ((resolved_unit x).meaning.address r.offer (unwrap_or (resolved_unit x).base 0))) (λ o. RowResolved ((resolved_unit x).meaning.address r.offer (unwrap_or (resolved_unit x).base 0)) (claimed_before x r.phase can (own_fits m u x i r s t e o))))

emitted_rows : (m : Plain) (u : UnitId) (groups : List Group) (x : UnitRow) → IsSound m → slice_get m.units u.0 ≡ Some x → can_emit x ≡ true → IsOwnEmission m u.0 x groups → RowsRun m (Emit u groups) (numbered (emitted_row u.0 groups) 0 m.rows)
emitted_rows m u groups x s t can own = rows_numbered m (Emit u groups) (emitted_row u.0 groups)
    (λ i r e. rephased m (Emit u groups) i r (is_owned u.0 r) (phase.Emitted (unwrap_or (phase_address r.phase) 0) (deps_in groups i)) (λ o.
    let is : r.unit.0 ≡ u.0 = (owned_parts u.0 r o).1 in
    RowEmitted u groups x refl is (ap (slice_get m.units) is ∙ t) (emittable x can) (subst (λ k. IsOwnEmission m k x groups) (sym is) own)
    (subst (λ p. fits p r.phase ≡ true) (emitting_stage x can) (own_fits m u.0 x i r s t e o))))

hit_rows : (m : Plain) (c : Change Meaning) (roots : ℕ → Bool) → RowsRun m c (hits_failed roots m.rows)
hit_rows m c roots = rows_numbered m c (hit_row roots m.rows) (λ i r e. rephased m c i r (is_hit m.rows roots i) phase.Failed (λ h. RowFails))

-- with its unit, or it is as it was
unremoved_row : (m : Plain) (t : TrackId) (i : ℕ) (q : InstRow) → RowMoves m (Remove t) i q (removed_row m t.0 q)
unremoved_row m t i q = split (is_unit_of m t.0 q.unit.0) refl q.present refl
  where
    split : (b : Bool) → is_unit_of m t.0 q.unit.0 ≡ b → (p : Bool) → q.present ≡ p → RowMoves m (Remove t) i q (record q { present = p && not b })
    split false is p h = subst (λ o. RowMoves m (Remove t) i q (record q { present = o })) (h ∙ sym (and_kept p false refl)) RowStays
    split true is true h = RowGoes t refl is
    split true is false h = RowGoes t refl is

removed_rows : (m : Plain) (t : TrackId) → RowsRun m (Remove t) (map (removed_row m t.0) (hits_failed (tracker_roots m t.0) m.rows))
removed_rows m t = rows_mapped m (Remove t) (hits_failed (tracker_roots m t.0) m.rows) (removed_row m t.0) (hit_rows m (Remove t) (tracker_roots m t.0)) (λ i q e. unremoved_row m t i q)

pub change_rows : (m : Plain) (s : ℕ) (c : Change Meaning) → IsSound m → Guard m s c → RowsRun m c (changed c m).rows
change_rows m s Nothing h g = rows_same m Nothing
change_rows m s (MakeDylib name) h g = rows_same m (MakeDylib name)
change_rows m s (MakeTracker d) h g = rows_same m (MakeTracker d)
change_rows m s (SetOrder d order) h g = rows_same m (SetOrder d order)
change_rows m s (Attach d t u) h g = rows_same m (Attach d t u)
change_rows m s (Define d t u found) h g = subst (λ vs. RowsRun m (Define d t u found) (defined d.0 t.0 u vs m).rows) (sym g) (defined_rows m (Define d t u found) d.0 t.0 u refl h)
change_rows m s (Generate k found) h g = subst (λ vs. RowsRun m (Generate k found) (changed (Generate k vs) m).rows) (sym g) (split (slice_get m.generators k.0))
  where
    split : (o : Option GenRow) → RowsRun m (Generate k found) (option_map_or (λ x. spent k.0 (defined x.dylib x.tracker x.meaning (option_map_or (λ (y : GenRow). verdicts m.rows y.dylib y.meaning.offers) o []) m)) o m).rows
    split None = rows_same m (Generate k found)
    split (Some x) = defined_rows m (Generate k found) x.dylib x.tracker x.meaning refl h
change_rows m s (Spend k) h g = rows_same m (Spend k)
change_rows m s (Ask found lev n) h g = claims_rows m (Ask found lev n) found m (rows_same m (Ask found lev n))
change_rows m s (Start t u) h g = rows_same m (Start t u)
change_rows m s (Finish t u how) h g = rows_same m (Finish t u how)
change_rows m s (Place u base) h g = rows_same m (Place u base)
change_rows m s (Resolve u) h g = subst (λ o. RowsRun m (Resolve u) (option_map_or (λ (x : UnitRow). record m { rows = map (resolved_row u.0 (resolved_unit x)) m.rows; units = changed_at u.0 resolved_unit m.units }) o m).rows) (sym g.1)
    (resolved_rows m (Resolve u) u.0 g.0 h g.1 g.3)
change_rows m s (Link u found) h g = claims_rows m (Link u found) found m (rows_same m (Link u found))
change_rows m s (Emit u groups) h g = emitted_rows m u groups g.0 h g.1 g.3.2 g.3.3
change_rows m s (Fail u) h g = hit_rows m (Fail u) (is_owned_at u.0 m.rows)
change_rows m s (Move t to) h g = chosen (λ k. RowsRun m (Move t to) k.rows) (t.0 == to.0) m (record m { units = map (moved_unit t.0 to.0) m.units; generators = map (moved_generator t.0 to.0) m.generators; trackers = changed_at t.0 gone_tracker m.trackers })
    (λ b. rows_same m (Move t to)) (λ b. rows_same m (Move t to))
change_rows m s (Remove t) h g = removed_rows m t
change_rows m s (LetGo t u) h g = rows_same m (LetGo t u)

-- what an instance is stays, and one that is present was so
pub record SameRow (r q : InstRow) : Type 0 where
  pub unit : q.unit ≡ r.unit
  pub dylib : q.dylib ≡ r.dylib
  pub offer : q.offer ≡ r.offer
  pub name : q.name ≡ r.name
  pub flags : q.flags ≡ r.flags
  pub present : q.present ≡ true → r.present ≡ true

move_same : (m : Plain) (c : Change Meaning) (i : ℕ) (r q : InstRow) → RowMoves m c i r q → SameRow r q
move_same m c i r _ RowStays = record { unit = refl; dylib = refl; offer = refl; name = refl; flags = refl; present = λ e. e }
move_same m c i r _ (RowYields d f) = record { unit = refl; dylib = refl; offer = refl; name = refl; flags = refl; present = λ e. absurd (both_ways false refl e) }
move_same m c i r _ (RowClaimed e) = record { unit = refl; dylib = refl; offer = refl; name = refl; flags = refl; present = λ e. e }
move_same m c i r _ (RowResolved b e) = record { unit = refl; dylib = refl; offer = refl; name = refl; flags = refl; present = λ e. e }
move_same m c i r _ (RowEmitted u groups x is v t f own e) = record { unit = refl; dylib = refl; offer = refl; name = refl; flags = refl; present = λ e. e }
move_same m c i r _ RowFails = record { unit = refl; dylib = refl; offer = refl; name = refl; flags = refl; present = λ e. e }
move_same m c i r _ (RowGoes t is f) = record { unit = refl; dylib = refl; offer = refl; name = refl; flags = refl; present = λ e. absurd (both_ways false refl e) }

pub run_same : (m : Plain) (c : Change Meaning) (i : ℕ) (r q : InstRow) → RowRuns m c i r q → SameRow r q
run_same m c i r _ RowHere = record { unit = refl; dylib = refl; offer = refl; name = refl; flags = refl; present = λ e. e }
run_same m c i r _ (RowOn p q a b) = let s = run_same m c i r p a in let t = move_same m c i p q b in
    record { unit = t.unit ∙ s.unit; dylib = t.dylib ∙ s.dylib; offer = t.offer ∙ s.offer; name = t.name ∙ s.name; flags = t.flags ∙ s.flags; present = λ e. s.present (t.present e) }
