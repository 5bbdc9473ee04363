-- Emitted instances have the dependencies of their groups, and their units are done.
use Rattle.std.proofs.Common.{◌≡◌, ℕ, suc, ◌≤◌, Bool, true, false, ◌&&◌, ◌==◌, List, [], length, slice_get, ◌⊎◌, inl, inr, arith, subst, sym, refl, ap, ◌∙◌, Option, Some, None, unwrap_or}
use Rattle.std.specs.Bool.{if◌then◌else◌}
use Rattle.std.specs.Option.{option_map_or}
use Rattle.std.proofs.lemmas.Bool.{both_ways, cases_eq, ne_eqb, and_right}
use Rattle.std.proofs.lemmas.Option.{none-some}
use Rattle.session_model.proofs.Units.{own_same}
use Rattle.orc_ids.specs.declared.groups.Group.{Group}
use Rattle.orc_ids.specs.declared.ids.InstId.{InstId}
use Rattle.orc_ids.specs.declared.ids.TrackId.{TrackId}
use Rattle.orc_ids.specs.declared.ids.UnitId.{UnitId}
use Rattle.session_model.specs.Lists.{changed_at}
use Rattle.session_model.specs.Change.{changed, settled, new_unit, done_unit, removed_unit, deps_in, is_unit_of}
use Rattle.session_model.specs.Meaning.{Meaning}
use Rattle.session_model.specs.Plain.{Plain, UnitRow, is_alias, is_owned, is_owned_at, own_rows, phase_address}
use Rattle.session_model.specs.declared.change.Change.{Change}
use Rattle.session_model.specs.declared.change.Change.TheVariants.{Emit, Remove}
use Rattle.session_model.specs.declared.rows.InstRow.{InstRow}
use Rattle.session_model.specs.declared.rows.Phase.{Phase}
use Rattle.session_model.specs.declared.rows.Phase.TheVariants as phase
use Rattle.session_model.specs.declared.rows.UnitPhase.{UnitPhase}
use Rattle.session_model.specs.declared.rows.UnitPhase.TheVariants as stage
use Rattle.session_model.specs.declared.rows.Verdict.{Verdict}
use Rattle.session_laws.proofs.Declared.{sound_settled, same_element, none_there, element_below, changed_some, mapped_some, sound_changed, unit_of_is, Moves, Stays, Loses, Claims, Starts, Finishes, Places, Resolves, Waits, Links, Emits, Fails, Goes, Changes, Leaves, Runs, Here, On, change_moves, settled_run, Doing, Other, doing_of, rows_from, Guard, IsOwnEmission, stage_of, linkable, resolvable, emittable, settled_rows}
use Rattle.session_laws.specs.Sound.{IsSound, fits, row_stage, is_unbased}
use Rattle.closure_laws.proofs.Fields.{is_define}
use Rattle.closure_laws.proofs.Histories.{kept_by_changes}
use Rattle.closure_laws.proofs.RowMoving.{RowMoves, RowStays, RowYields, RowClaimed, RowResolved, RowEmitted, RowFails, RowGoes, RowRuns, RowHere, RowOn, AtUnclaimed, change_rows, run_same}
use Rattle.closure_laws.proofs.Working.{is_unclaimed}
use Rattle.closure_laws.specs.Bound.{StaysDone}
use Rattle.closure_laws.specs.Dependencies.{unit_groups, DependsSo, DependenciesFit, DependenciesAreKept}

-- Units

-- the phases of a unit that was given up or removed
abbrev pub is_over : UnitPhase → Bool
is_over stage.Failed = true
is_over stage.Defunct = true
is_over _ = false

-- it keeps that, or it is over
abbrev pub DoneOrOver : UnitRow → UnitRow → Type 0
DoneOrOver x y = StaysDone x y ⊎ (is_over y.phase ≡ true)

abbrev is_work : UnitPhase → Bool
is_work stage.Done = false
is_work stage.Failed = false
is_work stage.Defunct = false
is_work _ = true

-- a unit that is done or over is at no phase of work
idle : {P : Type 0} (x y : UnitRow) (p : UnitPhase) → DoneOrOver x y → y.phase ≡ p → is_work p ≡ true → P
idle {P} x y p o e w = split o
  where
    over : (s : UnitPhase) → is_over s ≡ true → is_work s ≡ false
    over stage.Failed f = refl
    over stage.Defunct f = refl
    over _ f = absurd (both_ways false refl f)

    split : DoneOrOver x y → P
    split (inl d) = absurd (both_ways (is_work y.phase) (ap is_work d.done) (ap is_work e ∙ w))
    split (inr f) = absurd (both_ways (is_work y.phase) (over y.phase f) (ap is_work e ∙ w))

-- a step that leaves all but the tracker and the seat
same_done : (x y z : UnitRow) → DoneOrOver x y → z.meaning ≡ y.meaning → z.live ≡ y.live → z.base ≡ y.base → z.bound ≡ y.bound → z.phase ≡ y.phase → DoneOrOver x z
same_done x y z (inl d) meaning live base bound p = inl (record { meaning = meaning ∙ d.meaning; live = live ∙ d.live; base = base ∙ d.base; bound = bound ∙ d.bound; done = p ∙ d.done })
same_done x y z (inr o) meaning live base bound p = inr (ap is_over p ∙ o)

move_done : (doing : Doing) (m : Plain) (u : ℕ) (x y z : UnitRow) → DoneOrOver x y → Moves doing m u y z → DoneOrOver x z
move_done doing m u x y _ o Stays = o
move_done doing m u x y _ o (Loses vs p b) = idle x y stage.Unclaimed o p refl
move_done doing m u x y _ o (Claims p) = idle x y stage.Unclaimed o p refl
move_done doing m u x y _ o (Starts s p) = idle x y stage.Listed o p refl
move_done doing m u x y _ o (Finishes s how p) = idle x y stage.Linked o p refl
move_done doing m u x y _ o (Places base shape d p t f) = idle x y stage.Started o p refl
move_done doing m u x y z o (Resolves d c) = split (resolvable y c)
  where
    split : ((is_alias y ≡ true) × (y.phase ≡ stage.Finishing)) ⊎ ((is_alias y ≡ false) × ((y.phase ≡ stage.Placed) ⊎ (y.phase ≡ stage.Started))) → DoneOrOver x z
    split (inl p) = idle x y stage.Finishing o p.1 refl
    split (inr (a, inl p)) = idle x y stage.Placed o p refl
    split (inr (a, inr p)) = idle x y stage.Started o p refl
move_done doing m u x y z o (Waits found c f) = split (linkable y c)
  where
    split : ((is_alias y ≡ true) × (y.phase ≡ stage.Started)) ⊎ ((is_alias y ≡ false) × (y.phase ≡ stage.Linking)) → DoneOrOver x z
    split (inl p) = idle x y stage.Started o p.1 refl
    split (inr p) = idle x y stage.Linking o p.1 refl
move_done doing m u x y _ o (Links p) = idle x y stage.Waiting o p refl
move_done doing m u x y _ o (Emits groups c e) = idle x y stage.Finishing o (emittable y c) refl
move_done doing m u x y _ o Fails = inr refl
move_done doing m u x y _ o (Goes t g) = inr (ap (λ b. is_over (if b then stage.Defunct else y.phase)) g)
move_done doing m u x y _ o (Changes t to) = same_done x y _ o refl refl refl refl refl
move_done doing m u x y _ o (Leaves s) = same_done x y _ o refl refl refl refl refl

pub run_done : (doing : Doing) (m : Plain) (u : ℕ) (x y z : UnitRow) → DoneOrOver x y → Runs doing m u y z → DoneOrOver x z
run_done doing m u x y _ o Here = o
run_done doing m u x y _ o (On w z a b) = move_done doing m u x w z (run_done doing m u x y w o a) b

pub done_itself : (x : UnitRow) → x.phase ≡ stage.Done → DoneOrOver x x
done_itself x d = inl (record { meaning = refl; live = refl; base = refl; bound = refl; done = d })

-- the unit of a present instance that is emitted is done
emitted_done : (y : UnitRow) (p : Phase) (a : ℕ) (ds : List InstId) → fits (row_stage y) p ≡ true → p ≡ phase.Emitted a ds → y.phase ≡ stage.Done
emitted_done y p a ds f e = by_stage (is_unbased y) y.phase (subst (λ q. fits (row_stage y) q ≡ true) e f)
  where
    by_stage : (b : Bool) (s : UnitPhase) → fits (stage_of b s) (phase.Emitted a ds) ≡ true → s ≡ stage.Done
    by_stage true stage.Done f = refl
    by_stage true _ f = absurd (both_ways false refl f)
    by_stage false stage.Done f = refl
    by_stage false _ f = absurd (both_ways false refl f)

-- so it isn't over
not_over : {P : Type 0} (y : UnitRow) → y.phase ≡ stage.Done → is_over y.phase ≡ true → P
not_over y d o = absurd (both_ways (is_over y.phase) (ap is_over d) o)

-- Instances

-- the change emits the instance's unit u, with these dependencies for the instance
record Emission (m : Plain) (c : Change Meaning) (i u : ℕ) (deps : List InstId) : Type 0 where
  id : UnitId
  groups : List Group
  unit : UnitRow
  made : c ≡ Emit id groups
  its : u ≡ id.0
  there : slice_get m.units u ≡ Some unit
  at : unit.phase ≡ stage.Finishing
  own : IsOwnEmission m u unit groups
  same : deps ≡ deps_in groups i

-- an emitted instance was so, or is emitted by the change
abbrev EmittedBy : Plain → Change Meaning → ℕ → InstRow → InstRow → Type 0
EmittedBy m c i r q = (a : ℕ) (deps : List InstId) → q.present ≡ true → q.phase ≡ phase.Emitted a deps → ((r.present ≡ true) × (r.phase ≡ phase.Emitted a deps)) ⊎ Emission m c i r.unit.0 deps

run_emitted : (m : Plain) (c : Change Meaning) (i : ℕ) (r q : InstRow) → RowRuns m c i r q → EmittedBy m c i r q
run_emitted m c i r _ RowHere a deps h e = inl (h, e)
run_emitted m c i r _ (RowOn p q b d) a deps h e = step p q d (run_same m c i r p b).unit (run_emitted m c i r p b) a deps h e
  where
    same_deps : (a b : ℕ) (ds es : List InstId) → phase.Emitted a ds ≡ phase.Emitted b es → es ≡ ds
    same_deps a b ds es e = cc

    step : (p q : InstRow) → RowMoves m c i p q → p.unit ≡ r.unit → EmittedBy m c i r p → EmittedBy m c i r q
    step p _ RowStays is old a deps h e = old a deps h e
    step p _ (RowYields d f) is old a deps h e = absurd (both_ways false refl h)
    step p _ (RowClaimed f) is old a deps h e = absurd (cc)
    step p _ (RowResolved b f) is old a deps h e = absurd (cc)
    step p _ (RowEmitted u groups x made its t f own g) is old a deps h e = let at = ap (λ (v : UnitId). v.0) is in inr (record {
      id = u;
      groups = groups;
      unit = x;
      made = made;
      its = sym at ∙ its;
      there = ap (slice_get m.units) (sym at) ∙ t;
      at = f;
      own = subst (λ k. IsOwnEmission m k x groups) at own;
      same = same_deps (unwrap_or (phase_address p.phase) 0) a (deps_in groups i) deps e;
    })
    step p _ RowFails is old a deps h e = absurd (cc)
    step p _ (RowGoes t f g) is old a deps h e = absurd (both_ways false refl h)

-- The instances of a unit

-- The change doesn't remove the unit; and it defines no other one, or this one was asked for. Then the
-- unit keeps each instance.
pub record Holds (m : Plain) (c : Change Meaning) (u : ℕ) : Type 0 where
  pub there : (x : UnitRow) × (slice_get m.units u ≡ Some x)
  pub asked : is_define c ≡ true → AtUnclaimed m u → ⊥
  pub stays : (t : TrackId) → c ≡ Remove t → is_unit_of m t.0 u ≡ true → ⊥

run_owned : (m : Plain) (c : Change Meaning) (u i : ℕ) (r q : InstRow) → Holds m c u → RowRuns m c i r q → is_owned u q ≡ is_owned u r
run_owned m c u i r _ h RowHere = refl
run_owned m c u i r _ h (RowOn p q a b) = step p q b ∙ run_owned m c u i r p h a
  where
    -- one that is no longer present wasn't its own
    lost : (p : InstRow) → (p.unit.0 ≡ u → p.present ≡ true → ⊥) → (false && p.unit.0 == u) ≡ is_owned u p
    lost p n = split p.present refl (cases_eq p.unit.0 u)
      where
        split : (b : Bool) → p.present ≡ b → (p.unit.0 ≡ u) ⊎ (p.unit.0 ≡ u → ⊥) → (false && p.unit.0 == u) ≡ (b && p.unit.0 == u)
        split false e o = refl
        split true e (inl is) = absurd (n is e)
        split true e (inr apart) = sym (ne_eqb p.unit.0 u apart)

    step : (p q : InstRow) → RowMoves m c i p q → is_owned u q ≡ is_owned u p
    step p _ RowStays = refl
    step p _ (RowYields d f) = lost p (λ is e. h.asked d (subst (AtUnclaimed m) is (f e)))
    step p _ (RowClaimed e) = refl
    step p _ (RowResolved b e) = refl
    step p _ (RowEmitted v groups x made its t f own e) = refl
    step p _ RowFails = refl
    step p _ (RowGoes t made g) = lost p (λ is e. h.stays t made (subst (λ k. is_unit_of m t.0 k ≡ true) is g))

-- an instance moved on with its name and its unit's hold on it, or it is new and of another unit
abbrev pub RowCase : Plain → Change Meaning → ℕ → ℕ → Type 0
RowCase m c u i = ((r : InstRow) × (q : InstRow) × (slice_get m.rows i ≡ Some r) × (slice_get (changed c m).rows i ≡ Some q) × (is_owned u q ≡ is_owned u r) × (q.offer ≡ r.offer))
    ⊎ ((slice_get m.rows i ≡ None) × ((q : InstRow) → slice_get (changed c m).rows i ≡ Some q → is_owned u q ≡ false))

pub row_cases : (m : Plain) (s : ℕ) (c : Change Meaning) (u : ℕ) → IsSound m → Guard m s c → Holds m c u → (i : ℕ) → RowCase m c u i
row_cases m s c u h g holds i = by_row (slice_get m.rows i) refl
  where
    apart : (q : InstRow) → slice_get m.rows i ≡ None → ((r : InstRow) × (slice_get m.rows i ≡ Some r) × (r.unit ≡ q.unit)) ⊎ (length m.units ≤ q.unit.0) → is_owned u q ≡ false
    apart q n (inl p) = none_there (slice_get m.rows i) p.0 n p.1
    apart q n (inr le) = and_right q.present (q.unit.0 == u) (ne_eqb q.unit.0 u (λ e. below e (element_below m.units u holds.there.0 holds.there.1)))
      where
        below : q.unit.0 ≡ u → suc u ≤ length m.units → ⊥
        below e lt = omega (arith, e, lt, le)

    by_row : (o : Option InstRow) → slice_get m.rows i ≡ o → RowCase m c u i
    by_row (Some r) e = let q = change_rows m s c h g i r e in inl (r, q.0, e, q.1, run_owned m c u i r q.0 holds q.2, (run_same m c i r q.0 q.2).offer)
    by_row None e = inr (e, λ q f. apart q e (rows_from c m i q f))

own_kept : (m : Plain) (s : ℕ) (c : Change Meaning) (u : ℕ) → IsSound m → Guard m s c → Holds m c u → own_rows u 0 (changed c m).rows ≡ own_rows u 0 m.rows
own_kept m s c u h g holds = own_same u 0 m.rows (changed c m).rows (λ i. by_case i (row_cases m s c u h g holds i))
  where
    by_case : (i : ℕ) → RowCase m c u i → is_owned_at u (changed c m).rows i ≡ is_owned_at u m.rows i
    by_case i (inl p) = ap (λ o. option_map_or (is_owned u) o false) p.3 ∙ (p.4 ∙ ap (λ o. option_map_or (is_owned u) o false) (sym p.2))
    by_case i (inr p) = by_new (slice_get (changed c m).rows i) refl ∙ ap (λ o. option_map_or (is_owned u) o false) (sym p.0)
      where
        by_new : (o : Option InstRow) → slice_get (changed c m).rows i ≡ o → is_owned_at u (changed c m).rows i ≡ false
        by_new None e = ap (λ o. option_map_or (is_owned u) o false) e
        by_new (Some q) e = ap (λ o. option_map_or (is_owned u) o false) e ∙ p.1 q e

-- Groups

same_groups : (rows new : List InstRow) (u : ℕ) (x y : UnitRow) → StaysDone x y → own_rows u 0 new ≡ own_rows u 0 rows → unit_groups new u y ≡ unit_groups rows u x
same_groups rows new u x y d own =
    ap (λ (v : Meaning). v.groups y.live (unwrap_or y.base 0) (unwrap_or y.bound []) (own_rows u 0 new)) d.meaning
    ∙ (ap (λ l. x.meaning.groups l (unwrap_or y.base 0) (unwrap_or y.bound []) (own_rows u 0 new)) d.live
    ∙ (ap (λ o. x.meaning.groups x.live (unwrap_or o 0) (unwrap_or y.bound []) (own_rows u 0 new)) d.base
    ∙ (ap (λ o. x.meaning.groups x.live (unwrap_or x.base 0) (unwrap_or o []) (own_rows u 0 new)) d.bound
    ∙ ap (λ l. x.meaning.groups x.live (unwrap_or x.base 0) (unwrap_or x.bound []) l) own)))

-- what an instance depended on, where its unit stays
depends_still : (rows new : List InstRow) (units newer : List UnitRow) (u i : ℕ) (x y : UnitRow) (deps : List InstId) → slice_get units u ≡ Some x → slice_get newer u ≡ Some y → StaysDone x y → own_rows u 0 new ≡ own_rows u 0 rows → DependsSo rows units u i deps → DependsSo new newer u i deps
depends_still rows new units newer u i x y deps s t d own old = record {
  unit = y;
  there = t;
  done = d.done;
  same = old.same ∙ (ap (λ (z : UnitRow). deps_in (unit_groups rows u z) i) (same_element (slice_get units u) old.unit x old.there s) ∙ ap (λ gs. deps_in gs i) (sym (same_groups rows new u x y d own)));
}

deps_changed : (m : Plain) (s : ℕ) (c : Change Meaning) → IsSound m → Guard m s c → DependenciesFit m.rows m.units → DependenciesFit (changed c m).rows (changed c m).units
deps_changed m s c h g old i q a deps e present emitted = by_unit (change_moves m s c h g q.unit.0 y.0 y.1)
  where
    y : (y : UnitRow) × (slice_get (changed c m).units q.unit.0 ≡ Some y) × (fits (row_stage y) q.phase ≡ true)
    y = ((sound_changed m s c h g).rows_fit i q e).here present

    done : y.0.phase ≡ stage.Done
    done = emitted_done y.0 q.phase a deps y.2 emitted

    -- it isn't removed
    unremoved : (x : UnitRow) → slice_get m.units q.unit.0 ≡ Some x → (t : TrackId) → c ≡ Remove t → is_unit_of m t.0 q.unit.0 ≡ true → ⊥
    unremoved x k t made is =
        let same = same_element (slice_get (changed c m).units q.unit.0) y.0 (removed_unit t.0 x) y.1 (ap (λ d. slice_get (changed d m).units q.unit.0) made ∙ mapped_some (removed_unit t.0) m.units q.unit.0 x k) in
        not_over y.0 done (ap (λ (z : UnitRow). is_over z.phase) same ∙ ap (λ b. is_over (if b then stage.Defunct else x.phase)) (sym (unit_of_is m t.0 q.unit.0 x k) ∙ is))

    holds : (x : UnitRow) → slice_get m.units q.unit.0 ≡ Some x → is_unclaimed x.phase ≡ false → Holds m c q.unit.0
    holds x k n = record {
      there = (x, k);
      asked = λ d z. both_ways (is_unclaimed x.phase) n (ap (λ (w : UnitRow). is_unclaimed w.phase) (same_element (slice_get m.units q.unit.0) x z.0 k z.1) ∙ ap is_unclaimed z.2);
      stays = unremoved x k;
    }

    -- it was emitted before
    before : (x : UnitRow) → slice_get m.units q.unit.0 ≡ Some x → Runs (doing_of c) m q.unit.0 x y.0 → DependsSo m.rows m.units q.unit.0 i deps → DependsSo (changed c m).rows (changed c m).units q.unit.0 i deps
    before x k runs was = split (run_done (doing_of c) m q.unit.0 x x y.0 (done_itself x x_done) runs)
      where
        x_done : x.phase ≡ stage.Done
        x_done = ap (λ (z : UnitRow). z.phase) (same_element (slice_get m.units q.unit.0) x was.unit k was.there) ∙ was.done

        split : DoneOrOver x y.0 → DependsSo (changed c m).rows (changed c m).units q.unit.0 i deps
        split (inr o) = not_over y.0 done o
        split (inl d) = depends_still m.rows (changed c m).rows m.units (changed c m).units q.unit.0 i x y.0 deps k y.1 d (own_kept m s c q.unit.0 h g (holds x k (ap is_unclaimed x_done))) was

    -- it is emitted now
    now : Emission m c i q.unit.0 deps → DependsSo (changed c m).rows (changed c m).units q.unit.0 i deps
    now w = record {
      unit = y.0;
      there = y.1;
      done = done;
      same = w.same ∙ ap (λ gs. deps_in gs i) (w.own.own ∙ (sym (ap (λ l. w.unit.meaning.groups w.unit.live (unwrap_or w.unit.base 0) (unwrap_or w.unit.bound []) l) (own_kept m s c q.unit.0 h g (holds w.unit w.there (ap is_unclaimed w.at)))) ∙ ap (unit_groups (changed c m).rows q.unit.0) (sym is)));
    }
      where
        is : y.0 ≡ done_unit w.unit
        is = same_element (slice_get (changed c m).units q.unit.0) y.0 (done_unit w.unit) y.1
            (ap (λ d. slice_get (changed d m).units q.unit.0) w.made ∙ (ap (λ k. slice_get (changed_at k done_unit m.units) q.unit.0) (sym w.its) ∙ changed_some q.unit.0 done_unit m.units w.unit w.there))

    by_row : (x : UnitRow) → slice_get m.units q.unit.0 ≡ Some x → Runs (doing_of c) m q.unit.0 x y.0 → ((r : InstRow) × (slice_get m.rows i ≡ Some r) × (r.unit ≡ q.unit)) ⊎ (length m.units ≤ q.unit.0) → DependsSo (changed c m).rows (changed c m).units q.unit.0 i deps
    by_row x k runs (inr le) = absurd (past (element_below m.units q.unit.0 x k))
      where
        past : suc q.unit.0 ≤ length m.units → ⊥
        past lt = omega (arith, lt, le)
    by_row x k runs (inl r) = by_emission (run_emitted m c i r.0 q (subst (RowRuns m c i r.0) (same_element (slice_get (changed c m).rows i) moved.0 q moved.1 e) moved.2) a deps present emitted)
      where
        moved : (p : InstRow) × (slice_get (changed c m).rows i ≡ Some p) × RowRuns m c i r.0 p
        moved = change_rows m s c h g i r.0 r.1

        at : r.0.unit.0 ≡ q.unit.0
        at = ap (λ (v : UnitId). v.0) r.2

        by_emission : ((r.0.present ≡ true) × (r.0.phase ≡ phase.Emitted a deps)) ⊎ Emission m c i r.0.unit.0 deps → DependsSo (changed c m).rows (changed c m).units q.unit.0 i deps
        by_emission (inl p) = before x k runs (subst (λ u. DependsSo m.rows m.units u i deps) at (old i r.0 a deps r.1 p.0 p.1))
        by_emission (inr w) = now (subst (λ u. Emission m c i u deps) at w)

    by_unit : ((x : UnitRow) × (slice_get m.units q.unit.0 ≡ Some x) × Runs (doing_of c) m q.unit.0 x y.0) ⊎ ((k : ℕ) × (v : Meaning) × (vs : List Verdict) × (y.0 ≡ new_unit k v vs) × (q.unit.0 ≡ length m.units)) → DependsSo (changed c m).rows (changed c m).units q.unit.0 i deps
    by_unit (inl x) = by_row x.0 x.1 x.2 (rows_from c m i q e)
    by_unit (inr n) = absurd (both_ways (is_unclaimed y.0.phase) (ap is_unclaimed done) (ap (λ (z : UnitRow). is_unclaimed z.phase) n.3))

deps_settled : (m : Plain) → IsSound m → DependenciesFit m.rows m.units → DependenciesFit (settled m).rows (settled m).units
deps_settled m h old i q a deps e present emitted = split (run_done Other m q.unit.0 x.0 x.0 y.0 (done_itself x.0 x_done) x.2)
  where
    y : (y : UnitRow) × (slice_get (settled m).units q.unit.0 ≡ Some y) × (fits (row_stage y) q.phase ≡ true)
    y = ((sound_settled m h).rows_fit i q e).here present

    x : (x : UnitRow) × (slice_get m.units q.unit.0 ≡ Some x) × Runs Other m q.unit.0 x y.0
    x = settled_run m q.unit.0 y.0 y.1

    was : DependsSo m.rows m.units q.unit.0 i deps
    was = old i q a deps (ap (λ l. slice_get l i) (sym (settled_rows m)) ∙ e) present emitted

    x_done : x.0.phase ≡ stage.Done
    x_done = ap (λ (z : UnitRow). z.phase) (same_element (slice_get m.units q.unit.0) x.0 was.unit x.1 was.there) ∙ was.done

    split : DoneOrOver x.0 y.0 → DependsSo (settled m).rows (settled m).units q.unit.0 i deps
    split (inr o) = not_over y.0 (emitted_done y.0 q.phase a deps y.2 emitted) o
    split (inl d) = depends_still m.rows (settled m).rows m.units (settled m).units q.unit.0 i x.0 y.0 deps x.1 y.1 d (ap (own_rows q.unit.0 0) (settled_rows m)) was

pub dependencies_are_kept : DependenciesAreKept
dependencies_are_kept jmax h l = kept_by_changes (λ rows units queries. DependenciesFit rows units) deps_changed deps_settled jmax [] h l (λ i r a deps e. absurd (none-some r e))
