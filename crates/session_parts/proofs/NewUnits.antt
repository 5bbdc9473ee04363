-- A unit is defined.
use Rattle.std.proofs.Common.{◌≡◌, ℕ, zero, suc, ◌+◌, ◌<◌, ◌≤◌, ◌⊎◌, inl, inr, Bool, true, false, ◌&&◌, ◌||◌, not, nat_eq, List, [], ◌∷◌, ◌++◌, length, slice_get, Option, Some, None, option_map, refl, ap, ap₂, sym, subst, ◌∙◌, arith}
use Rattle.std.specs.Bool.{if◌then◌else◌}
use Rattle.std.specs.Prelude.{◌==◌}
use Rattle.std.specs.List.{list_any}
use Rattle.std.specs.Option.{option_map_or}
use Rattle.std.proofs.lemmas.Bool.{cases_eq, cases_lt, both_ways, ne_eqb, eqb-true, eq-eqb, and_parts, and_from}
use Rattle.std.proofs.lemmas.Option.{none-some, same_Some}
use Rattle.std.proofs.lemmas.List.{length-append}
use Rattle.list_laws.proofs.Lists.{list_same, lengths_from}
use Rattle.list_laws.proofs.Options.{not_there}
use Rattle.orc_ids.specs.declared.flags.SymFlags.{SymFlags}
use Rattle.orc_ids.specs.declared.ids.NameId.{NameId}
use Rattle.session_model.specs.Lists.{numbered}
use Rattle.session_model.specs.Meaning.{Meaning}
use Rattle.session_model.specs.Plain.{Plain, UnitRow, row_test}
use Rattle.session_model.specs.Change.{verdicts, kept_names, is_kept, is_replaced, replaced_by, loses_name, without_replaced, unreplaced_row, new_row, new_rows}
use Rattle.session_model.specs.declared.rows.InstRow.{InstRow}
use Rattle.session_model.specs.declared.rows.Track.{Track}
use Rattle.session_model.specs.declared.rows.UnitPhase.{UnitPhase}
use Rattle.session_model.specs.declared.rows.UnitPhase.TheVariants as stage
use Rattle.session_model.specs.declared.rows.Verdict.{Verdict}
use Rattle.session_model.specs.declared.rows.Verdict.TheVariants.{Kept, Replaces, Discarded, Clashes}
use Rattle.session_laws.specs.Sound.{IsSound}
use Rattle.session_laws.proofs.Declared.{numbered_at, numbered_length, numbered_parts, numbered_some, appended_below, pushed_cases, pushed_last, element_below, none_past, map_parts, any_flag, live_kept}
use Rattle.code_memory.specs.declared.placement.Placement.{Placement}
use Rattle.instances.specs.Table.{fresh_rows, is_among, replaced_row, AreChanged}
use Rattle.jit_dylib.specs.Rows.{replaced_instances}
use Rattle.mat_unit.specs.declared.unit.Unit.{Unit as OneUnit}
use Rattle.mat_unit.specs.Rows.{unit_row}
use Rattle.session_parts.specs.Units.{tracker_at, dylib_at, IsReadied, AreUnits}
use Rattle.session_parts.specs.Stored.{is_placed, IsStored, AreStored}
use Rattle.session_parts.specs.Defined.{loses, AreLost}
use Rattle.session_parts.proofs.Storing.{unbased}

-- The rows

pub fresh_is_new : (d u k : ℕ) (offers : List (NameId × SymFlags)) (found : List Verdict) → fresh_rows d u k offers (kept_names found) ≡ new_rows d u k offers found
fresh_is_new d u k [] [] = refl
fresh_is_new d u k [] (v ∷ vs) = refl
fresh_is_new d u k (offer ∷ offers) [] = refl
fresh_is_new d u k (offer ∷ offers) (v ∷ vs) = split (is_kept v) (fresh_is_new d u (k + 1) offers vs)
  where
    split : (b : Bool) → fresh_rows d u (k + 1) offers (kept_names vs) ≡ new_rows d u (k + 1) offers vs → fresh_rows d u k (offer ∷ offers) (b ∷ kept_names vs) ≡ (if b then new_row d u k offer ∷ new_rows d u (k + 1) offers vs else new_rows d u (k + 1) offers vs)
    split true e = ap (λ rs. new_row d u k offer ∷ rs) e
    split false e = e

pub among_is_replaced : (i : ℕ) (found : List Verdict) → is_among (replaced_instances found) i ≡ is_replaced found i
among_is_replaced i [] = refl
among_is_replaced i (Kept ∷ vs) = among_is_replaced i vs
among_is_replaced i (Discarded ∷ vs) = among_is_replaced i vs
among_is_replaced i (Clashes j ∷ vs) = among_is_replaced i vs
among_is_replaced i (Replaces j ∷ vs) = ap₂ (λ b c. b || c) (turned j.0 i) (among_is_replaced i vs)
  where
    turned : (a b : ℕ) → (a == b) ≡ nat_eq b a
    turned a b = split (cases_eq a b)
      where
        split : (a ≡ b) ⊎ (a ≡ b → ⊥) → (a == b) ≡ nat_eq b a
        split (inl e) = eq-eqb a b e ∙ sym (eq-eqb b a (sym e))
        split (inr n) = ne_eqb a b n ∙ sym (ne_eqb b a (λ e. n (sym e)))

-- the rows with the replaced ones gone
pub rows_replaced : (found : List Verdict) (old new : List InstRow) → AreChanged (replaced_row (replaced_instances found)) old new → new ≡ numbered (unreplaced_row found) 0 old
rows_replaced found old new h = list_same new (numbered (unreplaced_row found) 0 old) (λ i. h i ∙ (one i (slice_get old i) ∙ sym (numbered_at (unreplaced_row found) old i)))
  where
    one : (i : ℕ) (o : Option InstRow) → option_map (replaced_row (replaced_instances found) i) o ≡ option_map (unreplaced_row found i) o
    one i None = refl
    one i (Some r) = ap (λ b. Some (record r { present = r.present && not b })) (among_is_replaced i found)

-- The names that units lose

any_of : (rows : List InstRow) (u k : ℕ) (found : List Verdict) → loses rows (replaced_instances found) u k ≡ true → (i : ℕ) × (r : InstRow) × (slice_get rows i ≡ Some r) × (is_replaced found i ≡ true) × ((r.unit.0 == u && r.offer == k) ≡ true)
any_of rows u k [] e = absurd (both_ways false refl e)
any_of rows u k (Kept ∷ vs) e = any_of rows u k vs e
any_of rows u k (Discarded ∷ vs) e = any_of rows u k vs e
any_of rows u k (Clashes j ∷ vs) e = any_of rows u k vs e
any_of rows u k (Replaces j ∷ vs) e = split (row_test (λ r. r.unit.0 == u && r.offer == k) rows j.0) refl e (any_of rows u k vs)
  where
    here : (o : Option InstRow) → slice_get rows j.0 ≡ o → option_map_or (λ r. r.unit.0 == u && r.offer == k) o false ≡ true → (i : ℕ) × (r : InstRow) × (slice_get rows i ≡ Some r) × (is_replaced (Replaces j ∷ vs) i ≡ true) × ((r.unit.0 == u && r.offer == k) ≡ true)
    here None a b = absurd (both_ways false refl b)
    here (Some r) a b = (j.0, r, a, ap (λ c. c || is_replaced vs j.0) (eq-eqb j.0 j.0 refl), b)

    or_more : (b c : Bool) → c ≡ true → (b || c) ≡ true
    or_more true c e = refl
    or_more false c e = e

    split : (b : Bool) → row_test (λ r. r.unit.0 == u && r.offer == k) rows j.0 ≡ b → (b || loses rows (replaced_instances vs) u k) ≡ true → (loses rows (replaced_instances vs) u k ≡ true → (i : ℕ) × (r : InstRow) × (slice_get rows i ≡ Some r) × (is_replaced vs i ≡ true) × ((r.unit.0 == u && r.offer == k) ≡ true)) → (i : ℕ) × (r : InstRow) × (slice_get rows i ≡ Some r) × (is_replaced (Replaces j ∷ vs) i ≡ true) × ((r.unit.0 == u && r.offer == k) ≡ true)
    split true a e rest = here (slice_get rows j.0) refl a
    split false a e rest = let p = rest e in (p.0, p.1, p.2, or_more (option_map_or (nat_eq p.0) (replaced_by (Replaces j)) false) (is_replaced vs p.0) p.3, p.4)

to_any : (rows : List InstRow) (u k : ℕ) (found : List Verdict) (i : ℕ) (r : InstRow) → slice_get rows i ≡ Some r → is_replaced found i ≡ true → (r.unit.0 == u && r.offer == k) ≡ true → loses rows (replaced_instances found) u k ≡ true
to_any rows u k [] i r a b c = absurd (both_ways false refl b)
to_any rows u k (Kept ∷ vs) i r a b c = to_any rows u k vs i r a b c
to_any rows u k (Discarded ∷ vs) i r a b c = to_any rows u k vs i r a b c
to_any rows u k (Clashes j ∷ vs) i r a b c = to_any rows u k vs i r a b c
to_any rows u k (Replaces j ∷ vs) i r a b c = split (nat_eq i j.0) refl b (to_any rows u k vs i r a)
  where
    or_more : (b c : Bool) → c ≡ true → (b || c) ≡ true
    or_more true c e = refl
    or_more false c e = e

    split : (d : Bool) → nat_eq i j.0 ≡ d → (d || is_replaced vs i) ≡ true → (is_replaced vs i ≡ true → (r.unit.0 == u && r.offer == k) ≡ true → loses rows (replaced_instances vs) u k ≡ true) → (row_test (λ r. r.unit.0 == u && r.offer == k) rows j.0 || loses rows (replaced_instances vs) u k) ≡ true
    split true e f rest = ap (λ d. d || loses rows (replaced_instances vs) u k) (ap (λ o. option_map_or (λ (z : InstRow). z.unit.0 == u && z.offer == k) o false) (ap (slice_get rows) (sym (eqb-true i j.0 e)) ∙ a) ∙ c)
    split false e f rest = or_more (row_test (λ r. r.unit.0 == u && r.offer == k) rows j.0) (loses rows (replaced_instances vs) u k) (rest f c)

flag_any : (bs : List Bool) (i : ℕ) → slice_get bs i ≡ Some true → list_any (λ (b : Bool). b) bs ≡ true
flag_any [] i e = absurd (none-some true e)
flag_any (true ∷ bs) zero e = refl
flag_any (false ∷ bs) zero e = absurd (both_ways false refl (same_Some false true e))
flag_any (true ∷ bs) (suc i) e = refl
flag_any (false ∷ bs) (suc i) e = flag_any bs i e

pub loses_is : (rows : List InstRow) (found : List Verdict) (u k : ℕ) → loses rows (replaced_instances found) u k ≡ loses_name rows found u k
loses_is rows found u k = by_both (loses rows (replaced_instances found) u k) (loses_name rows found u k) there back
  where
    by_both : (a b : Bool) → (a ≡ true → b ≡ true) → (b ≡ true → a ≡ true) → a ≡ b
    by_both true true f g = refl
    by_both false false f g = refl
    by_both true false f g = sym (f refl)
    by_both false true f g = g refl

    there : loses rows (replaced_instances found) u k ≡ true → loses_name rows found u k ≡ true
    there e = let p = any_of rows u k found e in
        let parts = and_parts (p.1.unit.0 == u) (p.1.offer == k) p.4 in
        flag_any (numbered (λ i (r : InstRow). is_replaced found i && r.unit.0 == u && r.offer == k) 0 rows) p.0
        (numbered_some (λ i (r : InstRow). is_replaced found i && r.unit.0 == u && r.offer == k) rows p.0 p.1 p.2
        ∙ ap Some (and_from (is_replaced found p.0 && p.1.unit.0 == u) (p.1.offer == k) (and_from (is_replaced found p.0) (p.1.unit.0 == u) p.3 parts.0) parts.1))

    back : loses_name rows found u k ≡ true → loses rows (replaced_instances found) u k ≡ true
    back e = let p = any_flag (numbered (λ i (r : InstRow). is_replaced found i && r.unit.0 == u && r.offer == k) 0 rows) e in
        let q = numbered_parts (λ i (r : InstRow). is_replaced found i && r.unit.0 == u && r.offer == k) rows p.0 true p.1 in
        let a = and_parts (is_replaced found p.0 && q.0.unit.0 == u) (q.0.offer == k) (sym q.2) in
        let b = and_parts (is_replaced found p.0) (q.0.unit.0 == u) a.0 in
        to_any rows u k found p.0 q.0 q.1 b.0 (and_from (q.0.unit.0 == u) (q.0.offer == k) b.1 a.1)

lost_flags : (rows : List InstRow) (found : List Verdict) (u j : ℕ) (live : List Bool) → numbered (λ k (flag : Bool). flag && not (loses rows (replaced_instances found) u k)) j live ≡ numbered (λ k (flag : Bool). flag && not (loses_name rows found u k)) j live
lost_flags rows found u j [] = refl
lost_flags rows found u j (flag ∷ live) = ap₂ (λ b bs. b ∷ bs) (ap (λ b. flag && not b) (loses_is rows found u j)) (lost_flags rows found u (j + 1) live)

-- The units

tracker_stays : (rows : List InstRow) (found : List Verdict) (units : List UnitRow) (u : ℕ) → tracker_at (numbered (without_replaced rows found) 0 units) u ≡ tracker_at units u
tracker_stays rows found units u = ap (λ o. option_map_or (λ (x : UnitRow). x.tracker) o 0) (numbered_at (without_replaced rows found) units u) ∙ one (slice_get units u)
  where
    one : (o : Option UnitRow) → option_map_or (λ (x : UnitRow). x.tracker) (option_map (without_replaced rows found u) o) 0 ≡ option_map_or (λ (x : UnitRow). x.tracker) o 0
    one None = refl
    one (Some x) = refl

pub units_lost : {U : Type 0} (means : U → Meaning) (old new : List (OneUnit U)) (units : List UnitRow) (trackers : List Track) (rows : List InstRow) (found : List Verdict) → AreLost rows (replaced_instances found) old new → AreUnits means old units trackers →
    AreUnits means new (numbered (without_replaced rows found) 0 units) trackers
units_lost {U} means old new units trackers rows found lost a = record {
  count = lengths_from old new (λ u x. record x { live = numbered (λ k (flag : Bool). flag && not (loses rows (replaced_instances found) u k)) 0 x.live }) lost ∙ (a.count ∙ sym (numbered_length (without_replaced rows found) 0 units));
  rows = λ u. each u (slice_get old u) refl;
  tracked = λ u y e. let p = numbered_parts (without_replaced rows found) units u y e in subst (λ (z : UnitRow). z.tracker < length trackers) (sym p.2) (a.tracked u p.0 p.1);
  dylibs = λ u y e. let p = before u y e in ap (λ (z : OneUnit U). z.dylib.0) p.2 ∙ (a.dylibs u p.0 p.1 ∙ ap (dylib_at trackers) (sym (tracker_stays rows found units u)));
  readied = λ u y e. let p = before u y e in let r = a.readied u p.0 p.1 in subst (IsReadied means) (sym p.2) (record {
    flags = numbered_length (λ k (flag : Bool). flag && not (loses rows (replaced_instances found) u k)) 0 p.0.live ∙ r.flags;
    starts = r.starts;
    finishes = r.finishes;
  });
}
  where
    before : (u : ℕ) (y : OneUnit U) → slice_get new u ≡ Some y → (x : OneUnit U) × (slice_get old u ≡ Some x) × (y ≡ record x { live = numbered (λ k (flag : Bool). flag && not (loses rows (replaced_instances found) u k)) 0 x.live })
    before u y e = map_parts (λ (x : OneUnit U). record x { live = numbered (λ k (flag : Bool). flag && not (loses rows (replaced_instances found) u k)) 0 x.live }) (slice_get old u) y (sym (lost u) ∙ e)

    one : (u t : ℕ) (o : Option (OneUnit U)) → option_map (without_replaced rows found u) (option_map (unit_row means t) o) ≡ option_map (unit_row means t) (option_map (λ (x : OneUnit U). record x { live = numbered (λ k (flag : Bool). flag && not (loses rows (replaced_instances found) u k)) 0 x.live }) o)
    one u t None = refl
    one u t (Some x) = ap (λ l. Some (record (unit_row means t x) { live = l })) (sym (lost_flags rows found u 0 x.live))

    each : (u : ℕ) (o : Option (OneUnit U)) → slice_get old u ≡ o → slice_get (numbered (without_replaced rows found) 0 units) u ≡ option_map (unit_row means (tracker_at (numbered (without_replaced rows found) 0 units) u)) (slice_get new u)
    each u o e = numbered_at (without_replaced rows found) units u ∙ (ap (option_map (without_replaced rows found u)) (a.rows u)
        ∙ (one u (tracker_at units u) (slice_get old u)
        ∙ (ap (λ t. option_map (unit_row means t) (option_map (λ (x : OneUnit U). record x { live = numbered (λ k (flag : Bool). flag && not (loses rows (replaced_instances found) u k)) 0 x.live }) (slice_get old u))) (sym (tracker_stays rows found units u))
        ∙ ap (option_map (unit_row means (tracker_at (numbered (without_replaced rows found) 0 units) u))) (sym (lost u)))))

-- one unit more
pub units_pushed : {U : Type 0} (means : U → Meaning) (kept : List (OneUnit U)) (units : List UnitRow) (trackers : List Track) (t : ℕ) (x : OneUnit U) → t < length trackers → x.dylib.0 ≡ dylib_at trackers t → IsReadied means x → AreUnits means kept units trackers →
    AreUnits means (kept ++ x ∷ []) (units ++ unit_row means t x ∷ []) trackers
units_pushed {U} means kept units trackers t x b d ready a = record {
  count = length-append kept (x ∷ []) ∙ (ap (λ n. n + 1) a.count ∙ sym (length-append units (unit_row means t x ∷ [])));
  rows = λ u. rows u (cases_lt u (length units));
  tracked = λ u y e. tracked u y (pushed_cases units (unit_row means t x) u y e);
  dylibs = λ u y e. dylibs u y (pushed_cases kept x u y e);
  readied = λ u y e. readied u y (pushed_cases kept x u y e);
}
  where
    row : UnitRow
    row = unit_row means t x

    tracker_below : (u : ℕ) → u < length units → tracker_at (units ++ unit_row means t x ∷ []) u ≡ tracker_at units u
    tracker_below u b = ap (λ o. option_map_or (λ (y : UnitRow). y.tracker) o 0) (appended_below units (unit_row means t x ∷ []) u b)

    tracker_last : tracker_at (units ++ unit_row means t x ∷ []) (length units) ≡ t
    tracker_last = ap (λ o. option_map_or (λ (y : UnitRow). y.tracker) o 0) (pushed_last units (unit_row means t x))

    kept_last : slice_get (kept ++ x ∷ []) (length units) ≡ Some x
    kept_last = subst (λ n. slice_get (kept ++ x ∷ []) n ≡ Some x) a.count (pushed_last kept x)

    rows : (u : ℕ) → (u < length units) ⊎ (length units ≤ u) → slice_get (units ++ unit_row means t x ∷ []) u ≡ option_map (unit_row means (tracker_at (units ++ unit_row means t x ∷ []) u)) (slice_get (kept ++ x ∷ []) u)
    rows u (inl c) = appended_below units (unit_row means t x ∷ []) u c ∙ (a.rows u ∙ (ap (λ v. option_map (unit_row means v) (slice_get kept u)) (sym (tracker_below u c)) ∙ ap (option_map (unit_row means (tracker_at (units ++ unit_row means t x ∷ []) u))) (sym (appended_below kept (x ∷ []) u (omega (arith, c, a.count))))))
    rows u (inr c) = last (cases_eq u (length units))
      where
        last : (u ≡ length units) ⊎ (u ≡ length units → ⊥) → slice_get (units ++ unit_row means t x ∷ []) u ≡ option_map (unit_row means (tracker_at (units ++ unit_row means t x ∷ []) u)) (slice_get (kept ++ x ∷ []) u)
        last (inl e) = subst (λ n. slice_get (units ++ unit_row means t x ∷ []) n ≡ option_map (unit_row means (tracker_at (units ++ unit_row means t x ∷ []) n)) (slice_get (kept ++ x ∷ []) n)) (sym e)
            (pushed_last units (unit_row means t x) ∙ (ap (λ v. Some (unit_row means v x)) (sym tracker_last) ∙ ap (option_map (unit_row means (tracker_at (units ++ unit_row means t x ∷ []) (length units)))) (sym kept_last)))
        last (inr n) = none_past (units ++ unit_row means t x ∷ []) u (omega (arith, length-append units (unit_row means t x ∷ []), past)) ∙ ap (option_map (unit_row means (tracker_at (units ++ unit_row means t x ∷ []) u))) (sym (none_past (kept ++ x ∷ []) u (omega (arith, length-append kept (x ∷ []), past, a.count))))
          where
            past : length units < u
            past = strict (cases_lt (length units) u)
              where
                strict : (length units < u) ⊎ (u ≤ length units) → length units < u
                strict (inl p) = p
                strict (inr p) = absurd (n (omega (arith, c, p)))

    tracked : (u : ℕ) (y : UnitRow) → (slice_get units u ≡ Some y) ⊎ ((u ≡ length units) × (y ≡ unit_row means t x)) → y.tracker < length trackers
    tracked u y (inl e) = a.tracked u y e
    tracked u y (inr e) = subst (λ (z : UnitRow). z.tracker < length trackers) (sym e.1) b

    dylibs : (u : ℕ) (y : OneUnit U) → (slice_get kept u ≡ Some y) ⊎ ((u ≡ length kept) × (y ≡ x)) → y.dylib.0 ≡ dylib_at trackers (tracker_at (units ++ unit_row means t x ∷ []) u)
    dylibs u y (inl e) = a.dylibs u y e ∙ ap (dylib_at trackers) (sym (tracker_below u (omega (arith, a.count, element_below kept u y e))))
    dylibs u y (inr e) = ap (λ (z : OneUnit U). z.dylib.0) e.1 ∙ (d ∙ ap (dylib_at trackers) (sym (ap (tracker_at (units ++ unit_row means t x ∷ [])) (e.0 ∙ a.count) ∙ tracker_last)))

    readied : (u : ℕ) (y : OneUnit U) → (slice_get kept u ≡ Some y) ⊎ ((u ≡ length kept) × (y ≡ x)) → IsReadied means y
    readied u y (inl e) = a.readied u y e
    readied u y (inr e) = subst (IsReadied means) (sym e.1) ready

-- Memory

-- units that a lookup has asked for lose nothing, and others have no range
pub stored_lost : (m : Plain) (d : ℕ) (offers : List (NameId × SymFlags)) (p : List Placement) → IsSound m → AreStored m.units p → AreStored (numbered (without_replaced m.rows (verdicts m.rows d offers)) 0 m.units) p
stored_lost m d offers p sound s = record { each = each; others = λ u b. s.others u (subst (λ n. n ≤ u) (numbered_length (without_replaced m.rows (verdicts m.rows d offers)) 0 m.units) b) }
  where
    asked : (q : UnitPhase) → (q ≡ stage.Unclaimed) ⊎ (q ≡ stage.Unclaimed → ⊥)
    asked stage.Unclaimed = inl refl
    asked stage.Listed = inr (λ e. cc)
    asked stage.Started = inr (λ e. cc)
    asked stage.Placed = inr (λ e. cc)
    asked stage.Linking = inr (λ e. cc)
    asked stage.Waiting = inr (λ e. cc)
    asked stage.Linked = inr (λ e. cc)
    asked stage.Finishing = inr (λ e. cc)
    asked stage.Done = inr (λ e. cc)
    asked stage.Failed = inr (λ e. cc)
    asked stage.Defunct = inr (λ e. cc)

    each : (u : ℕ) (y : UnitRow) → slice_get (numbered (without_replaced m.rows (verdicts m.rows d offers)) 0 m.units) u ≡ Some y → IsStored p u y
    each u y e = let q = numbered_parts (without_replaced m.rows (verdicts m.rows d offers)) m.units u y e in subst (IsStored p u) (sym q.2) (split q.0 q.1 (s.each u q.0 q.1) (asked q.0.phase))
      where
        split : (x : UnitRow) → slice_get m.units u ≡ Some x → IsStored p u x → (x.phase ≡ stage.Unclaimed) ⊎ (x.phase ≡ stage.Unclaimed → ⊥) → IsStored p u (without_replaced m.rows (verdicts m.rows d offers) u x)
        split x t before (inr n) = subst (IsStored p u) (sym (live_kept m d offers u x sound t n)) before
        split x t before (inl c) = let none = (sound.units_fit u x t).early (ap Rattle.session_laws.specs.Sound.is_early c) in record {
          range = before.range ∙ (unbased u x none ∙ sym (unbased u (without_replaced m.rows (verdicts m.rows d offers) u x) none));
          based = λ a h. absurd (not_there x.base none h);
          placed = λ h a. absurd (both_ways (is_placed x.phase) (ap is_placed c) h);
        }

pub stored_pushed : (units : List UnitRow) (p : List Placement) (x : UnitRow) → x.base ≡ None → is_placed x.phase ≡ false → AreStored units p → AreStored (units ++ x ∷ []) p
stored_pushed units p x none early s = record { each = λ u y e. each u y (pushed_cases units x u y e); others = λ u b. s.others u (omega (arith, b, length-append units (x ∷ []))) }
  where
    each : (u : ℕ) (y : UnitRow) → (slice_get units u ≡ Some y) ⊎ ((u ≡ length units) × (y ≡ x)) → IsStored p u y
    each u y (inl e) = s.each u y e
    each u y (inr e) = subst (IsStored p u) (sym e.1) (record {
      range = s.others u (omega (arith, e.0)) ∙ sym (unbased u x none);
      based = λ a h. absurd (not_there x.base none h);
      placed = λ h a. absurd (both_ways (is_placed x.phase) early h);
    })
