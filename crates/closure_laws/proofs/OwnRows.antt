-- A unit has one instance for each of its live names, in order.
use Rattle.std.proofs.Common.{◌≡◌, ℕ, zero, suc, ◌+◌, ◌≤◌, Bool, true, false, not, ◌&&◌, ◌==◌, cond, map, filter, filter_map, List, [], ◌∷◌, ◌++◌, length, slice_get, ◌⊎◌, inl, inr, arith, subst, sym, refl, ap, ap₂, ◌∙◌, Option, Some, None, append-nil, le_refl}
use Rattle.std.specs.Prelude.{option_and_then, count_by}
use Rattle.std.specs.Bool.{⊤, if◌then◌else◌}
use Rattle.std.specs.List.{cons_option}
use Rattle.std.specs.Option.{option_map_or}
use Rattle.std.proofs.lemmas.Bool.{both_ways, and_parts, and_from, eq-eqb, eqb-true, false_from_ne_true}
use Rattle.std.proofs.lemmas.List.Elements.{filter_map-append}
use Rattle.std.proofs.lemmas.List.Recursion.{is_count_by}
use Rattle.std.proofs.lemmas.Map.Keys.{any_passes_from_place}
use Rattle.std.proofs.lemmas.Option.{none-some, same_Some}
use Rattle.session_model.proofs.Units.{not_owned}
use Rattle.list_laws.proofs.Bools.{bool_same}
use Rattle.orc_ids.specs.declared.flags.SymFlags.{SymFlags}
use Rattle.orc_ids.specs.declared.ids.DylibId.{DylibId}
use Rattle.orc_ids.specs.declared.ids.GenId.{GenId}
use Rattle.orc_ids.specs.declared.ids.NameId.{NameId}
use Rattle.orc_ids.specs.declared.ids.TrackId.{TrackId}
use Rattle.session_model.specs.Lists.{numbered, only_if}
use Rattle.session_model.specs.Change.{changed, settled, finish_listed, waits_for, linked_unit, defined, spent, verdict, verdicts, is_kept, kept_names, is_replaced, unreplaced_row, new_row, new_rows, loses_name, without_replaced, new_unit, removed_unit, is_unit_of}
use Rattle.session_model.specs.History.{IsLegal}
use Rattle.session_model.specs.Meaning.{Meaning}
use Rattle.session_model.specs.Plain.{Plain, UnitRow, GenRow, is_owned, own_rows, is_defunct}
use Rattle.session_model.specs.Query.{is_met}
use Rattle.session_model.specs.State.{state}
use Rattle.session_model.specs.declared.change.Change.{Change}
use Rattle.session_model.specs.declared.change.Change.TheVariants.{Define, Generate, Remove}
use Rattle.session_model.specs.declared.entry.Entry.{Entry}
use Rattle.session_model.specs.declared.rows.InstRow.{InstRow}
use Rattle.session_model.specs.declared.rows.Query.{Query}
use Rattle.session_model.specs.declared.rows.UnitPhase.{UnitPhase}
use Rattle.session_model.specs.declared.rows.UnitPhase.TheVariants as stage
use Rattle.session_model.specs.declared.rows.Verdict.{Verdict}
use Rattle.session_laws.proofs.Declared.{owned_parts, owned_from, waiting_parts, new_rows_unit, same_element, none_there, none_past, element_below, changed_cases, pushed_cases, mapped_length, mapped_some, numbered_length, numbered_parts, numbered_some, test_is, any_flag, replaced_here, unit_of_is, Guard, change_rises, settling_keeps, settled_rows}
use Rattle.session_laws.specs.Sound.{IsSound}
use Rattle.session_laws.specs.Work.{rank}
use Rattle.closure_laws.proofs.Depending.{Holds, RowCase, row_cases}
use Rattle.closure_laws.proofs.Fields.{is_define, IsNew, HasFields, change_fields, settled_fields}
use Rattle.closure_laws.proofs.Histories.{kept_by_changes}
use Rattle.closure_laws.proofs.Linking.{done_is_bound}
use Rattle.closure_laws.specs.Instances.{live_places, offer_at, InstancesAreLive, UnitsFit}

-- The names of a unit's instances

abbrev owned_offer : ℕ → InstRow → Option ℕ
owned_offer u r = only_if (is_owned u r) r.offer

abbrev own_offers : ℕ → List InstRow → List ℕ
own_offers u rows = filter_map (owned_offer u) rows

-- its instances are its live names
record HasLive (rows : List InstRow) (u : ℕ) (x : UnitRow) : Type 0 where
  flags : length x.live ≡ length x.meaning.offers
  names : own_offers u rows ≡ live_places 0 x.live

unowned : (u : ℕ) (r : InstRow) → is_owned u r ≡ false → owned_offer u r ≡ None
unowned u r e = ap (λ b. only_if b r.offer) e

none_mapped : {X Y : Type 0} (f : X → Option Y) (xs : List X) → ((i : ℕ) (x : X) → slice_get xs i ≡ Some x → f x ≡ None) → filter_map f xs ≡ []
none_mapped f [] h = refl
none_mapped f (x ∷ xs) h = ap (λ o. cons_option o (filter_map f xs)) (h 0 x refl) ∙ none_mapped f xs (λ i y e. h (suc i) y e)

same_mapped : {X Y : Type 0} (f : X → Option Y) (xs ys : List X) → ((i : ℕ) → option_and_then f (slice_get ys i) ≡ option_and_then f (slice_get xs i)) → filter_map f ys ≡ filter_map f xs
same_mapped f [] [] h = refl
same_mapped f [] (y ∷ ys) h = ap (λ o. cons_option o (filter_map f ys)) (h 0) ∙ same_mapped f [] ys (λ i. h (suc i))
same_mapped f (x ∷ xs) [] h = same_mapped f xs [] (λ i. h (suc i)) ∙ ap (λ o. cons_option o (filter_map f xs)) (h 0)
same_mapped f (x ∷ xs) (y ∷ ys) h = ap (λ o. cons_option o (filter_map f ys)) (h 0) ∙ ap (cons_option (f x)) (same_mapped f xs ys (λ i. h (suc i)))

-- where a change keeps the instances of a unit, it keeps their names
offers_kept : (m : Plain) (s : ℕ) (c : Change Meaning) (u : ℕ) → IsSound m → Guard m s c → Holds m c u → own_offers u (changed c m).rows ≡ own_offers u m.rows
offers_kept m s c u h g holds = same_mapped (owned_offer u) m.rows (changed c m).rows (λ i. by_case i (row_cases m s c u h g holds i))
  where
    by_case : (i : ℕ) → RowCase m c u i → option_and_then (owned_offer u) (slice_get (changed c m).rows i) ≡ option_and_then (owned_offer u) (slice_get m.rows i)
    by_case i (inl p) = ap (option_and_then (owned_offer u)) p.3 ∙ (ap (λ b. only_if b p.1.offer) p.4 ∙ (ap (only_if (is_owned u p.0)) p.5 ∙ sym (ap (option_and_then (owned_offer u)) p.2)))
    by_case i (inr p) = by_new (slice_get (changed c m).rows i) refl ∙ ap (option_and_then (owned_offer u)) (sym p.0)
      where
        by_new : (o : Option InstRow) → slice_get (changed c m).rows i ≡ o → option_and_then (owned_offer u) (slice_get (changed c m).rows i) ≡ None
        by_new None e = ap (option_and_then (owned_offer u)) e
        by_new (Some q) e = ap (option_and_then (owned_offer u)) e ∙ unowned u q (p.1 q e)

-- Each name once

-- each number is greater than the one before it, and the first is at least k
abbrev Rising : ℕ → List ℕ → Type 0
Rising k [] = ⊤
Rising k (n ∷ ns) = (k ≤ n) × Rising (suc n) ns

rising_from : (j k : ℕ) (ns : List ℕ) → j ≤ k → Rising k ns → Rising j ns
rising_from j k [] le r = tt
rising_from j k (n ∷ ns) le r = ((omega (arith, le, r.0)), r.1)

live_rising : (k : ℕ) (flags : List Bool) → Rising k (live_places k flags)
live_rising k [] = tt
live_rising k (true ∷ flags) = (le_refl k, subst (λ n. Rising n (live_places (k + 1) flags)) next (live_rising (k + 1) flags))
  where
    next : k + 1 ≡ suc k
    next = omega arith
live_rising k (false ∷ flags) = rising_from k (k + 1) (live_places (k + 1) flags) (omega arith) (live_rising (k + 1) flags)

owned_above : (u k : ℕ) (rows : List InstRow) → Rising k (own_offers u rows) → (i : ℕ) (r : InstRow) → slice_get rows i ≡ Some r → is_owned u r ≡ true → k ≤ r.offer
owned_above u k [] rise i r e o = absurd (none-some r e)
owned_above u k (q ∷ qs) rise i r e o = split (is_owned u q) refl i e rise (λ j rest n t. owned_above u j qs rest n r t o)
  where
    split : (b : Bool) → is_owned u q ≡ b → (i : ℕ) → slice_get (q ∷ qs) i ≡ Some r → Rising k (cons_option (only_if b q.offer) (own_offers u qs)) → ((j : ℕ) → Rising j (own_offers u qs) → (n : ℕ) → slice_get qs n ≡ Some r → j ≤ r.offer) → k ≤ r.offer
    split true h zero e rise later = subst (λ (z : InstRow). k ≤ z.offer) (same_Some q r e) rise.0
    split true h (suc i) e rise later = omega (arith, rise.0, later (suc q.offer) rise.1 i e)
    split false h zero e rise later = absurd (both_ways (is_owned u q) h (ap (is_owned u) (same_Some q r e) ∙ o))
    split false h (suc i) e rise later = later k rise i e

owned_once : (u k : ℕ) (rows : List InstRow) → Rising k (own_offers u rows) → (i j : ℕ) (r s : InstRow) → slice_get rows i ≡ Some r → slice_get rows j ≡ Some s → is_owned u r ≡ true → is_owned u s ≡ true → r.offer ≡ s.offer → i ≡ j
owned_once u k [] rise i j r s e f o p same = absurd (none-some r e)
owned_once u k (q ∷ qs) rise i j r s e f o p same = split (is_owned u q) refl i j e f rise (λ n rest a b t v. owned_once u n qs rest a b r s t v o p same)
  where
    -- the first of them is owned, and no later one has its name
    apart : (t : InstRow) → is_owned u q ≡ false → q ≡ t → is_owned u t ≡ true → ⊥
    apart t h is o = both_ways (is_owned u q) h (ap (is_owned u) is ∙ o)

    split : (b : Bool) → is_owned u q ≡ b → (i j : ℕ) → slice_get (q ∷ qs) i ≡ Some r → slice_get (q ∷ qs) j ≡ Some s → Rising k (cons_option (only_if b q.offer) (own_offers u qs)) →
        ((n : ℕ) → Rising n (own_offers u qs) → (a c : ℕ) → slice_get qs a ≡ Some r → slice_get qs c ≡ Some s → a ≡ c) → i ≡ j
    split b h zero zero e f rise later = refl
    split true h zero (suc j) e f rise later = absurd (omega (arith, owned_above u (suc q.offer) qs rise.1 j s f p, ap (λ (z : InstRow). z.offer) (same_Some q r e), same))
    split true h (suc i) zero e f rise later = absurd (omega (arith, owned_above u (suc q.offer) qs rise.1 i r e o, ap (λ (z : InstRow). z.offer) (same_Some q s f), same))
    split true h (suc i) (suc j) e f rise later = ap suc (later (suc q.offer) rise.1 i j e f)
    split false h zero (suc j) e f rise later = absurd (apart r h (same_Some q r e) o)
    split false h (suc i) zero e f rise later = absurd (apart s h (same_Some q s f) p)
    split false h (suc i) (suc j) e f rise later = ap suc (later k rise i j e f)

-- Definitions

chosen_first : (b : Bool) (n : ℕ) (xs ys : List ℕ) → xs ≡ ys → cons_option (only_if b n) xs ≡ cond b (n ∷ ys) ys
chosen_first true n xs ys e = ap (λ l. n ∷ l) e
chosen_first false n xs ys e = e

-- the names of the instances that a definition leaves
own_lost : (u : ℕ) (lost : ℕ → Bool) (vs : List Verdict) (j : ℕ) (rows : List InstRow) → ((n i : ℕ) (r : InstRow) → i ≡ j + n → slice_get rows n ≡ Some r → is_owned u r ≡ true → is_replaced vs i ≡ lost r.offer) →
    own_offers u (numbered (unreplaced_row vs) j rows) ≡ filter (λ k. not (lost k)) (own_offers u rows)
own_lost u lost vs j [] h = refl
own_lost u lost vs j (r ∷ rs) h = split (is_owned u r) refl (own_lost u lost vs (j + 1) rs (λ n i q e t o. h (suc n) i q (omega (arith, e)) t o))
  where
    left : (a b c : Bool) → (a && c) ≡ true → ((a && b) && c) ≡ b
    left true true c e = e
    left true false c e = refl
    left false b c e = absurd (both_ways false refl e)

    never : (a b c : Bool) → (a && c) ≡ false → ((a && b) && c) ≡ false
    never true true c e = e
    never true false c e = refl
    never false b c e = refl

    split : (b : Bool) → is_owned u r ≡ b → own_offers u (numbered (unreplaced_row vs) (j + 1) rs) ≡ filter (λ k. not (lost k)) (own_offers u rs) →
        own_offers u (numbered (unreplaced_row vs) j (r ∷ rs)) ≡ filter (λ k. not (lost k)) (cons_option (only_if b r.offer) (own_offers u rs))
    split true o later = ap (λ b. cons_option (only_if b r.offer) (own_offers u (numbered (unreplaced_row vs) (j + 1) rs))) (left r.present (not (is_replaced vs j)) (r.unit.0 == u) o ∙ ap not (h 0 j r (omega arith) refl o))
        ∙ chosen_first (not (lost r.offer)) r.offer (own_offers u (numbered (unreplaced_row vs) (j + 1) rs)) (filter (λ k. not (lost k)) (own_offers u rs)) later
    split false o later = ap (λ b. cons_option (only_if b r.offer) (own_offers u (numbered (unreplaced_row vs) (j + 1) rs))) (never r.present (not (is_replaced vs j)) (r.unit.0 == u) o) ∙ later

-- and the names that stay live
live_lost : (lost : ℕ → Bool) (k : ℕ) (flags : List Bool) → live_places k (numbered (λ j (flag : Bool). flag && not (lost j)) k flags) ≡ filter (λ j. not (lost j)) (live_places k flags)
live_lost lost k [] = refl
live_lost lost k (true ∷ flags) = split (not (lost k)) (live_lost lost (k + 1) flags)
  where
    split : (b : Bool) → live_places (k + 1) (numbered (λ j (flag : Bool). flag && not (lost j)) (k + 1) flags) ≡ filter (λ j. not (lost j)) (live_places (k + 1) flags) →
        (if b then k ∷ live_places (k + 1) (numbered (λ j (flag : Bool). flag && not (lost j)) (k + 1) flags) else live_places (k + 1) (numbered (λ j (flag : Bool). flag && not (lost j)) (k + 1) flags)) ≡ cond b (k ∷ filter (λ j. not (lost j)) (live_places (k + 1) flags)) (filter (λ j. not (lost j)) (live_places (k + 1) flags))
    split true e = ap (λ l. k ∷ l) e
    split false e = e
live_lost lost k (false ∷ flags) = live_lost lost (k + 1) flags

-- an instance is replaced where its unit loses its name
replaced_lost : (m : Plain) (d : ℕ) (offers : List (NameId × SymFlags)) (u : ℕ) → Rising 0 (own_offers u m.rows) → (i : ℕ) (r : InstRow) → slice_get m.rows i ≡ Some r → is_owned u r ≡ true → is_replaced (verdicts m.rows d offers) i ≡ loses_name m.rows (verdicts m.rows d offers) u r.offer
replaced_lost m d offers u rise i r e o = bool_same (is_replaced vs i) (loses_name m.rows vs u r.offer) loses replaced
  where
    vs : List Verdict
    vs = verdicts m.rows d offers

    loses : is_replaced vs i ≡ true → loses_name m.rows vs u r.offer ≡ true
    loses h = any_passes_from_place (λ (b : Bool). b) (numbered (λ j (q : InstRow). is_replaced vs j && q.unit.0 == u && q.offer == r.offer) 0 m.rows) i (is_replaced vs i && r.unit.0 == u && r.offer == r.offer)
        (numbered_some (λ j (q : InstRow). is_replaced vs j && q.unit.0 == u && q.offer == r.offer) m.rows i r e)
        (and_from (is_replaced vs i && r.unit.0 == u) (r.offer == r.offer) (and_from (is_replaced vs i) (r.unit.0 == u) h (eq-eqb r.unit.0 u (owned_parts u r o).1)) (eq-eqb r.offer r.offer refl))

    replaced : loses_name m.rows vs u r.offer ≡ true → is_replaced vs i ≡ true
    replaced h = found (any_flag (numbered (λ j (q : InstRow). is_replaced vs j && q.unit.0 == u && q.offer == r.offer) 0 m.rows) h)
      where
        found : (j : ℕ) × (slice_get (numbered (λ j (q : InstRow). is_replaced vs j && q.unit.0 == u && q.offer == r.offer) 0 m.rows) j ≡ Some true) → is_replaced vs i ≡ true
        found p =
            let q = numbered_parts (λ j (q : InstRow). is_replaced vs j && q.unit.0 == u && q.offer == r.offer) m.rows p.0 true p.1 in
            let b = and_parts (is_replaced vs p.0 && q.0.unit.0 == u) (q.0.offer == r.offer) (sym q.2) in
            let a = and_parts (is_replaced vs p.0) (q.0.unit.0 == u) b.0 in
            let present = sym (test_is (λ (y : InstRow). y.present) m.rows p.0 q.0 q.1) ∙ replaced_here m.rows d offers p.0 a.0 in
            let is = owned_once u 0 m.rows rise i p.0 r q.0 e q.1 o (owned_from u q.0 present (eqb-true q.0.unit.0 u a.1)) (sym (eqb-true q.0.offer r.offer b.1)) in
            subst (λ n. is_replaced vs n ≡ true) (sym is) a.0

-- the names of a new unit's instances
new_offers : (rows : List InstRow) (d u k : ℕ) (offers : List (NameId × SymFlags)) → own_offers u (new_rows d u k offers (verdicts rows d offers)) ≡ live_places k (kept_names (verdicts rows d offers))
new_offers rows d u k [] = refl
new_offers rows d u k (offer ∷ offers) = split (is_kept (verdict rows d offer)) (new_offers rows d u (k + 1) offers)
  where
    split : (b : Bool) → own_offers u (new_rows d u (k + 1) offers (verdicts rows d offers)) ≡ live_places (k + 1) (kept_names (verdicts rows d offers)) →
        own_offers u (if b then new_row d u k offer ∷ new_rows d u (k + 1) offers (verdicts rows d offers) else new_rows d u (k + 1) offers (verdicts rows d offers)) ≡ (if b then k ∷ live_places (k + 1) (kept_names (verdicts rows d offers)) else live_places (k + 1) (kept_names (verdicts rows d offers)))
    split true e = ap (λ b. cons_option (only_if b k) (own_offers u (new_rows d u (k + 1) offers (verdicts rows d offers)))) (eq-eqb u u refl) ∙ ap (λ l. k ∷ l) e
    split false e = e

abbrev AllLive : List InstRow → List UnitRow → Type 0
AllLive rows units = (u : ℕ) (x : UnitRow) → slice_get units u ≡ Some x → is_defunct x.phase ≡ false → HasLive rows u x

defined_live : (m : Plain) (d t : ℕ) (v : Meaning) → IsSound m → AllLive m.rows m.units → AllLive (defined d t v (verdicts m.rows d v.offers) m).rows (defined d t v (verdicts m.rows d v.offers) m).units
defined_live m d t v h old u y e alive = split (pushed_cases (numbered (without_replaced m.rows vs) 0 m.units) (new_unit t v vs) u y e)
  where
    vs : List Verdict
    vs = verdicts m.rows d v.offers

    fresh : List InstRow
    fresh = new_rows d (length m.units) 0 v.offers vs

    rows : List InstRow
    rows = numbered (unreplaced_row vs) 0 m.rows ++ fresh

    parts : (w : ℕ) → own_offers w rows ≡ own_offers w (numbered (unreplaced_row vs) 0 m.rows) ++ own_offers w fresh
    parts w = filter_map-append (owned_offer w) (numbered (unreplaced_row vs) 0 m.rows) fresh

    -- an old unit has none of the new instances
    old_unit : (x : UnitRow) → slice_get m.units u ≡ Some x → y ≡ without_replaced m.rows vs u x → HasLive rows u y
    old_unit x s is = subst (HasLive rows u) (sym is) (record {
      flags = numbered_length (λ k (flag : Bool). flag && not (loses_name m.rows vs u k)) 0 x.live ∙ had.flags;
      names = parts u ∙ (ap (λ l. own_offers u (numbered (unreplaced_row vs) 0 m.rows) ++ l) none_fresh ∙ (append-nil (own_offers u (numbered (unreplaced_row vs) 0 m.rows))
          ∙ (own_lost u (loses_name m.rows vs u) vs 0 m.rows (λ n i r a t o. lost n i r a t o) ∙ (ap (filter (λ k. not (loses_name m.rows vs u k))) had.names ∙ sym (live_lost (loses_name m.rows vs u) 0 x.live)))));
    })
      where
        had : HasLive m.rows u x
        had = old u x s (ap (λ (z : UnitRow). is_defunct z.phase) (sym is) ∙ alive)

        none_fresh : own_offers u fresh ≡ []
        none_fresh = none_mapped (owned_offer u) fresh (λ i r a. unowned u r (not_owned u r (λ b. below (sym (new_rows_unit d (length m.units) 0 v.offers vs i r a) ∙ b) (element_below m.units u x s))))
          where
            below : length m.units ≡ u → suc u ≤ length m.units → ⊥
            below a lt = omega (arith, a, lt)

        rise : Rising 0 (own_offers u m.rows)
        rise = subst (Rising 0) (sym had.names) (live_rising 0 x.live)

        lost : (n i : ℕ) (r : InstRow) → i ≡ 0 + n → slice_get m.rows n ≡ Some r → is_owned u r ≡ true → is_replaced vs i ≡ loses_name m.rows vs u r.offer
        lost n i r a b o = replaced_lost m d v.offers u rise i r (ap (slice_get m.rows) (omega (arith, a)) ∙ b) o

    -- a new unit has none of the old ones
    fresh_unit : u ≡ length m.units → y ≡ new_unit t v vs → HasLive rows u y
    fresh_unit at is = subst (HasLive rows u) (sym is) (record {
      flags = mapped_length is_kept vs ∙ mapped_length (verdict m.rows d) v.offers;
      names = parts u ∙ (ap (λ l. l ++ own_offers u fresh) none_old ∙ subst (λ n. own_offers u (new_rows d n 0 v.offers vs) ≡ live_places 0 (kept_names vs)) at (new_offers m.rows d u 0 v.offers));
    })
      where
        unowned_old : (i : ℕ) (q : InstRow) → slice_get (numbered (unreplaced_row vs) 0 m.rows) i ≡ Some q → is_owned u q ≡ true → ⊥
        unowned_old i q a o =
            let r = numbered_parts (unreplaced_row vs) m.rows i q a in
            let p = owned_parts u q o in
            let present = (and_parts r.0.present (not (is_replaced vs i)) (ap (λ (z : InstRow). z.present) (sym r.2) ∙ p.0)).0 in
            let x = (h.rows_fit i r.0 r.1).here present in
            none_there (slice_get m.units u) x.0 (ap (slice_get m.units) at ∙ none_past m.units (length m.units) (le_refl (length m.units))) (ap (slice_get m.units) (sym p.1 ∙ ap (λ (z : InstRow). z.unit.0) r.2) ∙ x.1)

        none_old : own_offers u (numbered (unreplaced_row vs) 0 m.rows) ≡ []
        none_old = none_mapped (owned_offer u) (numbered (unreplaced_row vs) 0 m.rows) (λ i q a. unowned u q (false_from_ne_true (is_owned u q) (unowned_old i q a)))

    split : (slice_get (numbered (without_replaced m.rows vs) 0 m.units) u ≡ Some y) ⊎ ((u ≡ length (numbered (without_replaced m.rows vs) 0 m.units)) × (y ≡ new_unit t v vs)) → HasLive rows u y
    split (inl a) = let p = numbered_parts (without_replaced m.rows vs) m.units u y a in old_unit p.0 p.1 p.2
    split (inr a) = fresh_unit (a.0 ∙ numbered_length (without_replaced m.rows vs) 0 m.units) a.1

-- Other changes

gone_rank : (p q : UnitPhase) → is_defunct p ≡ true → is_defunct q ≡ false → rank p ≤ rank q → ⊥
gone_rank stage.Defunct stage.Unclaimed e f le = omega (arith, le)
gone_rank stage.Defunct stage.Listed e f le = omega (arith, le)
gone_rank stage.Defunct stage.Started e f le = omega (arith, le)
gone_rank stage.Defunct stage.Placed e f le = omega (arith, le)
gone_rank stage.Defunct stage.Linking e f le = omega (arith, le)
gone_rank stage.Defunct stage.Waiting e f le = omega (arith, le)
gone_rank stage.Defunct stage.Linked e f le = omega (arith, le)
gone_rank stage.Defunct stage.Finishing e f le = omega (arith, le)
gone_rank stage.Defunct stage.Done e f le = omega (arith, le)
gone_rank stage.Defunct stage.Failed e f le = omega (arith, le)
gone_rank stage.Defunct stage.Defunct e f le = both_ways true f refl
gone_rank _ q e f le = both_ways false refl e

-- a unit that isn't gone wasn't before
pub alive_before : (m : Plain) (s : ℕ) (c : Change Meaning) (u : ℕ) (x y : UnitRow) → IsSound m → Guard m s c → slice_get m.units u ≡ Some x → slice_get (changed c m).units u ≡ Some y → is_defunct y.phase ≡ false → is_defunct x.phase ≡ false
alive_before m s c u x y h g t e alive = false_from_ne_true (is_defunct x.phase) (λ gone. let z = change_rises m s c h g u x t in
    gone_rank x.phase y.phase gone alive (subst (λ (w : UnitRow). rank x.phase ≤ rank w.phase) (same_element (slice_get (changed c m).units u) z.0 y z.1 e) z.2))

other_live : (m : Plain) (s : ℕ) (c : Change Meaning) → is_define c ≡ false → IsSound m → Guard m s c → AllLive m.rows m.units → AllLive (changed c m).rows (changed c m).units
other_live m s c other h g old u y e alive = split (change_fields m c u y e)
  where
    holds : (x : UnitRow) → slice_get m.units u ≡ Some x → Holds m c u
    holds x t = record { there = (x, t); asked = λ d z. both_ways (is_define c) other d; stays = stays }
      where
        stays : (k : TrackId) → c ≡ Remove k → is_unit_of m k.0 u ≡ true → ⊥
        stays k made is =
            let same = same_element (slice_get (changed c m).units u) y (removed_unit k.0 x) e (ap (λ d. slice_get (changed d m).units u) made ∙ mapped_some (removed_unit k.0) m.units u x t) in
            both_ways (is_defunct y.phase) alive (ap (λ (z : UnitRow). is_defunct z.phase) same ∙ ap (λ b. is_defunct (if b then stage.Defunct else x.phase)) (sym (unit_of_is m k.0 u x t) ∙ is))

    split : ((x : UnitRow) × (slice_get m.units u ≡ Some x) × HasFields m c u x y) ⊎ IsNew m c u y → HasLive (changed c m).rows u y
    split (inr p) = absurd (both_ways (is_define c) other p.0)
    split (inl p) = let had = old u p.0 p.1 (alive_before m s c u p.0 y h g p.1 e alive) in record {
      flags = ap length (p.2.live other) ∙ (had.flags ∙ ap (λ (v : Meaning). length v.offers) (sym p.2.meaning));
      names = offers_kept m s c u h g (holds p.0 p.1) ∙ (had.names ∙ ap (live_places 0) (sym (p.2.live other)));
    }

-- a definition, or another change
pub define_or : (c : Change Meaning) → ((d : DylibId) × (t : TrackId) × (v : Meaning) × (found : List Verdict) × (c ≡ Define d t v found)) ⊎ (((k : GenId) × (found : List Verdict) × (c ≡ Generate k found)) ⊎ (is_define c ≡ false))
define_or (Define d t v found) = inl (d, t, v, found, refl)
define_or (Generate k found) = inr (inl (k, found, refl))
define_or _ = inr (inr refl)

live_changed : (m : Plain) (s : ℕ) (c : Change Meaning) → IsSound m → Guard m s c → AllLive m.rows m.units → AllLive (changed c m).rows (changed c m).units
live_changed m s c h g old = split (define_or c)
  where
    at_generate : (k : GenId) → AllLive (changed (Generate k (option_map_or (λ (y : GenRow). verdicts m.rows y.dylib y.meaning.offers) (slice_get m.generators k.0) [])) m).rows (changed (Generate k (option_map_or (λ (y : GenRow). verdicts m.rows y.dylib y.meaning.offers) (slice_get m.generators k.0) [])) m).units
    at_generate k = by_gen (slice_get m.generators k.0)
      where
        by_gen : (o : Option GenRow) → AllLive (option_map_or (λ x. spent k.0 (defined x.dylib x.tracker x.meaning (option_map_or (λ (y : GenRow). verdicts m.rows y.dylib y.meaning.offers) o []) m)) o m).rows (option_map_or (λ x. spent k.0 (defined x.dylib x.tracker x.meaning (option_map_or (λ (y : GenRow). verdicts m.rows y.dylib y.meaning.offers) o []) m)) o m).units
        by_gen None = old
        by_gen (Some x) = defined_live m x.dylib x.tracker x.meaning h old

    split : ((d : DylibId) × (t : TrackId) × (v : Meaning) × (found : List Verdict) × (c ≡ Define d t v found)) ⊎ (((k : GenId) × (found : List Verdict) × (c ≡ Generate k found)) ⊎ (is_define c ≡ false)) → AllLive (changed c m).rows (changed c m).units
    split (inl (d, t, v, found, is)) = subst (λ e. AllLive (changed e m).rows (changed e m).units) (sym is)
        (subst (λ vs. AllLive (defined d.0 t.0 v vs m).rows (defined d.0 t.0 v vs m).units) (sym (subst (Guard m s) is g)) (defined_live m d.0 t.0 v h old))
    split (inr (inl (k, found, is))) = subst (λ e. AllLive (changed e m).rows (changed e m).units) (sym is)
        (subst (λ vs. AllLive (changed (Generate k vs) m).rows (changed (Generate k vs) m).units) (sym (subst (Guard m s) is g)) (at_generate k))
    split (inr (inr other)) = other_live m s c other h g old

-- settling ends no unit
pub settled_alive : (m : Plain) (u : ℕ) (y : UnitRow) → slice_get (settled m).units u ≡ Some y → is_defunct y.phase ≡ false → (x : UnitRow) × (slice_get m.units u ≡ Some x) × (is_defunct x.phase ≡ false)
settled_alive m = settling_keeps (λ n. (u : ℕ) (y : UnitRow) → slice_get n.units u ≡ Some y → is_defunct y.phase ≡ false → (x : UnitRow) × (slice_get m.units u ≡ Some x) × (is_defunct x.phase ≡ false)) step 0 m.queries m (λ u y e a. (y, e, a))
  where
    step : (v k : ℕ) (q : Query) (n : Plain) → ((u : ℕ) (y : UnitRow) → slice_get n.units u ≡ Some y → is_defunct y.phase ≡ false → (x : UnitRow) × (slice_get m.units u ≡ Some x) × (is_defunct x.phase ≡ false)) → waits_for n v k ≡ true → is_met n.rows q ≡ true → q.unit ≡ Some v →
        (u : ℕ) (y : UnitRow) → slice_get (finish_listed v n).units u ≡ Some y → is_defunct y.phase ≡ false → (x : UnitRow) × (slice_get m.units u ≡ Some x) × (is_defunct x.phase ≡ false)
    step v k q n old w b d u y e alive = split (changed_cases v linked_unit n.units u y e)
      where
        split : ((u ≡ v) × ((z : UnitRow) × (slice_get n.units u ≡ Some z) × (y ≡ linked_unit z))) ⊎ ((u ≡ v → ⊥) × (slice_get n.units u ≡ Some y)) → (x : UnitRow) × (slice_get m.units u ≡ Some x) × (is_defunct x.phase ≡ false)
        split (inl p) = let z = waiting_parts n v k w in
            let same = same_element (slice_get n.units v) p.1.0 z.0 (ap (slice_get n.units) (sym p.0) ∙ p.1.1) z.1 in
            old u p.1.0 p.1.1 (ap (λ (r : UnitRow). is_defunct r.phase) same ∙ ap is_defunct z.2)
        split (inr p) = old u y p.1 alive

live_settled : (m : Plain) → IsSound m → AllLive m.rows m.units → AllLive (settled m).rows (settled m).units
live_settled m h old u y e alive =
    let a = settled_alive m u y e alive in
    let x = settled_fields m u y e in
    let had = old u x.0 x.1 (ap (λ (z : UnitRow). is_defunct z.phase) (same_element (slice_get m.units u) x.0 a.0 x.1 a.1) ∙ a.2) in
    record {
      flags = ap length x.2.live ∙ (had.flags ∙ ap (λ (v : Meaning). length v.offers) (sym x.2.meaning));
      names = ap (own_offers u) (settled_rows m) ∙ (had.names ∙ ap (live_places 0) (sym x.2.live));
    }

all_live : (jmax : ℕ) (h : List (Entry Meaning)) → IsLegal jmax h → AllLive (state h).rows (state h).units
all_live jmax h l = kept_by_changes (λ rows units queries. AllLive rows units) live_changed live_settled jmax [] h l (λ u x t. absurd (none-some x t))

-- By their numbers

named : (all : List InstRow) (u k : ℕ) (rows : List InstRow) → ((n i : ℕ) → i ≡ k + n → slice_get all i ≡ slice_get rows n) → map (offer_at all) (own_rows u k rows) ≡ own_offers u rows
named all u k [] h = refl
named all u k (r ∷ rs) h = split (is_owned u r) (named all u (k + 1) rs (λ n i e. h (suc n) i (omega (arith, e))))
  where
    split : (b : Bool) → map (offer_at all) (own_rows u (k + 1) rs) ≡ own_offers u rs → map (offer_at all) (if b then record { 0 = k } ∷ own_rows u (k + 1) rs else own_rows u (k + 1) rs) ≡ cons_option (only_if b r.offer) (own_offers u rs)
    split true e = ap₂ (λ (n : ℕ) ns. n ∷ ns) (ap (λ o. option_map_or (λ (q : InstRow). q.offer) o 0) (h 0 k (omega arith))) e
    split false e = e

pub instances_are_live : InstancesAreLive
instances_are_live jmax h l u x t alive = let had = all_live jmax h l u x t alive in
    record { flags = had.flags; instances = named (state h).rows u 0 (state h).rows (λ n i e. ap (slice_get (state h).rows) (omega (arith, e))) ∙ had.names }

-- how many names are live, wherever the first one is
same_count : (j k : ℕ) (flags : List Bool) → length (live_places j flags) ≡ length (live_places k flags)
same_count j k [] = refl
same_count j k (true ∷ flags) = ap suc (same_count (j + 1) (k + 1) flags)
same_count j k (false ∷ flags) = same_count (j + 1) (k + 1) flags

pub live_count : (flags : List Bool) → length (live_places 0 flags) ≡ count_by (λ (b : Bool). b) flags
live_count flags = is_count_by (λ bs. length (live_places 0 bs)) (λ (b : Bool). b) refl step flags
  where
    step : (b : Bool) (bs : List Bool) → length (live_places 0 (b ∷ bs)) ≡ cond b (1 + length (live_places 0 bs)) (length (live_places 0 bs))
    step true bs = omega (arith, same_count (0 + 1) 0 bs)
    step false bs = same_count (0 + 1) 0 bs

pub units_fit : UnitsFit
units_fit jmax h l u x b t alive bound = let are = instances_are_live jmax h l u x t alive in record {
  flags = are.flags;
  bindings = (done_is_bound jmax h l u x t).binds b bound;
  instances = sym (mapped_length (offer_at (state h).rows) (own_rows u 0 (state h).rows)) ∙ (ap length are.instances ∙ live_count x.live);
}
