-- Each present instance is what its unit offers at its place.
use Rattle.std.proofs.Common.{◌≡◌, ℕ, zero, suc, ◌+◌, ◌≤◌, true, false, List, [], ◌∷◌, length, slice_get, ◌⊎◌, inl, inr, arith, subst, sym, refl, ap, ap₂, ◌∙◌, Option, Some, None}
use Rattle.std.specs.Option.{option_map_or}
use Rattle.std.proofs.lemmas.Bool.{both_ways, and_parts}
use Rattle.std.proofs.lemmas.Option.{none-some, same_Some}
use Rattle.orc_ids.specs.declared.flags.SymFlags.{SymFlags}
use Rattle.orc_ids.specs.declared.ids.DylibId.{DylibId}
use Rattle.orc_ids.specs.declared.ids.GenId.{GenId}
use Rattle.orc_ids.specs.declared.ids.NameId.{NameId}
use Rattle.orc_ids.specs.declared.ids.TrackId.{TrackId}
use Rattle.orc_ids.specs.declared.ids.UnitId.{UnitId}
use Rattle.session_model.specs.Lists.{numbered}
use Rattle.session_model.specs.Change.{changed, settled, defined, spent, is_kept, unreplaced_row, new_row, new_rows, without_replaced, new_unit}
use Rattle.session_model.specs.Meaning.{Meaning}
use Rattle.session_model.specs.Plain.{Plain, UnitRow, GenRow}
use Rattle.session_model.specs.declared.change.Change.{Change}
use Rattle.session_model.specs.declared.change.Change.TheVariants.{Define, Generate}
use Rattle.session_model.specs.declared.rows.InstRow.{InstRow}
use Rattle.session_model.specs.declared.rows.Verdict.{Verdict}
use Rattle.session_laws.proofs.Declared.{new_rows_unit, same_element, none_there, element_below, appended_cases, numbered_length, numbered_parts, pushed_last, rows_from, Guard, chosen, settled_rows}
use Rattle.session_laws.specs.Sound.{IsSound}
use Rattle.closure_laws.proofs.Fields.{is_define, IsNew, HasFields, change_fields, settled_fields}
use Rattle.closure_laws.proofs.Histories.{kept_by_changes}
use Rattle.closure_laws.proofs.OwnRows.{define_or}
use Rattle.closure_laws.proofs.RowMoving.{SameRow, change_rows, run_same}
use Rattle.closure_laws.specs.Instances.{InstancesAreOffered}

-- the unit offers the instance
abbrev IsOffered : InstRow → UnitRow → Type 0
IsOffered r x = slice_get x.meaning.offers r.offer ≡ Some (r.name, r.flags)

abbrev AllOffered : List InstRow → List UnitRow → Type 0
AllOffered rows units = (i : ℕ) (r : InstRow) (x : UnitRow) → slice_get rows i ≡ Some r → r.present ≡ true → slice_get units r.unit.0 ≡ Some x → IsOffered r x

-- the same instance, of the same unit
offered_still : (r q : InstRow) (x y : UnitRow) → SameRow r q → y.meaning ≡ x.meaning → IsOffered r x → IsOffered q y
offered_still r q x y s same e = ap (λ (v : Meaning). slice_get v.offers q.offer) same ∙ (ap (slice_get x.meaning.offers) s.offer ∙ (e ∙ ap₂ (λ (n : NameId) (f : SymFlags). Some (n, f)) (sym s.name) (sym s.flags)))

-- New instances

-- an instance of a list of offers, of which the first is at k
record OfferedFrom (k : ℕ) (offers : List (NameId × SymFlags)) (r : InstRow) : Type 0 where
  place : ℕ
  at : r.offer ≡ k + place
  there : slice_get offers place ≡ Some (r.name, r.flags)

new_offered : (d u k : ℕ) (offers : List (NameId × SymFlags)) (found : List Verdict) (n : ℕ) (r : InstRow) → slice_get (new_rows d u k offers found) n ≡ Some r → OfferedFrom k offers r
new_offered d u k [] found n r e = absurd (none-some r e)
new_offered d u k (offer ∷ offers) [] n r e = absurd (none-some r e)
new_offered d u k (offer ∷ offers) (v ∷ vs) n r e = chosen (λ rs. slice_get rs n ≡ Some r → OfferedFrom k (offer ∷ offers) r) (is_kept v) (new_row d u k offer ∷ new_rows d u (k + 1) offers vs) (new_rows d u (k + 1) offers vs)
    (λ b. with_one n (λ j t. later (new_offered d u (k + 1) offers vs j r t)))
    (λ b t. later (new_offered d u (k + 1) offers vs n r t)) e
  where
    later : OfferedFrom (k + 1) offers r → OfferedFrom k (offer ∷ offers) r
    later p = record { place = suc p.place; at = omega (arith, p.at); there = p.there }

    zero_at : k ≡ k + 0
    zero_at = omega arith

    with_one : (n : ℕ) → ((j : ℕ) → slice_get (new_rows d u (k + 1) offers vs) j ≡ Some r → OfferedFrom k (offer ∷ offers) r) → slice_get (new_row d u k offer ∷ new_rows d u (k + 1) offers vs) n ≡ Some r → OfferedFrom k (offer ∷ offers) r
    with_one zero rest t = subst (OfferedFrom k (offer ∷ offers)) (same_Some (new_row d u k offer) r t) (record { place = 0; at = zero_at; there = refl })
    with_one (suc j) rest t = rest j t

-- an instance of a unit that wasn't there, after a definition
fresh_offered : (m : Plain) (d t : ℕ) (v : Meaning) (vs : List Verdict) (i : ℕ) (q : InstRow) (y : UnitRow) → ((r : InstRow) → slice_get m.rows i ≡ Some r → r.unit ≡ q.unit → q.present ≡ true → r.present ≡ true → ⊥) →
    slice_get (defined d t v vs m).rows i ≡ Some q → q.present ≡ true → slice_get (defined d t v vs m).units q.unit.0 ≡ Some y → IsOffered q y
fresh_offered m d t v vs i q y none e present at = split (appended_cases (numbered (unreplaced_row vs) 0 m.rows) (new_rows d (length m.units) 0 v.offers vs) i q e)
  where
    split : (slice_get (numbered (unreplaced_row vs) 0 m.rows) i ≡ Some q) ⊎ ((j : ℕ) × (i ≡ length (numbered (unreplaced_row vs) 0 m.rows) + j) × (slice_get (new_rows d (length m.units) 0 v.offers vs) j ≡ Some q)) → IsOffered q y
    split (inl a) = let r = numbered_parts (unreplaced_row vs) m.rows i q a in
        absurd (none r.0 r.1 (ap (λ (z : InstRow). z.unit) (sym r.2)) present (and_parts r.0.present _ (ap (λ (z : InstRow). z.present) (sym r.2) ∙ present)).0)
    split (inr a) =
        let p = new_offered d (length m.units) 0 v.offers vs a.0 q a.2 in
        let unit = new_rows_unit d (length m.units) 0 v.offers vs a.0 q a.2 in
        let last = ap (slice_get (defined d t v vs m).units) (unit ∙ sym (numbered_length (without_replaced m.rows vs) 0 m.units)) ∙ pushed_last (numbered (without_replaced m.rows vs) 0 m.units) (new_unit t v vs) in
        let is = same_element (slice_get (defined d t v vs m).units q.unit.0) y (new_unit t v vs) at last in
        ap (λ (z : UnitRow). slice_get z.meaning.offers q.offer) is ∙ (ap (slice_get v.offers) (omega (arith, p.at)) ∙ p.there)

offered_changed : (m : Plain) (s : ℕ) (c : Change Meaning) → IsSound m → Guard m s c → AllOffered m.rows m.units → AllOffered (changed c m).rows (changed c m).units
offered_changed m s c h g old i q y e present at = split (change_fields m c q.unit.0 y at)
  where
    by_old : (x : UnitRow) → slice_get m.units q.unit.0 ≡ Some x → y.meaning ≡ x.meaning → ((r : InstRow) × (slice_get m.rows i ≡ Some r) × (r.unit ≡ q.unit)) ⊎ (length m.units ≤ q.unit.0) → IsOffered q y
    by_old x t same (inr le) = absurd (past (element_below m.units q.unit.0 x t))
      where
        past : suc q.unit.0 ≤ length m.units → ⊥
        past lt = omega (arith, lt, le)
    by_old x t same (inl r) =
        let z = change_rows m s c h g i r.0 r.1 in
        let run = subst (SameRow r.0) (same_element (slice_get (changed c m).rows i) z.0 q z.1 e) (run_same m c i r.0 z.0 z.2) in
        offered_still r.0 q x y run same (old i r.0 x r.1 (run.present present) (ap (λ (u : UnitId). slice_get m.units u.0) r.2 ∙ t))

    -- no present instance is of a unit that wasn't there
    none : slice_get m.units q.unit.0 ≡ None → (r : InstRow) → slice_get m.rows i ≡ Some r → r.unit ≡ q.unit → q.present ≡ true → r.present ≡ true → ⊥
    none n r t unit p here = let x = (h.rows_fit i r t).here here in none_there (slice_get m.units q.unit.0) x.0 n (ap (λ (u : UnitId). slice_get m.units u.0) (sym unit) ∙ x.1)

    by_new : slice_get m.units q.unit.0 ≡ None → is_define c ≡ true → ((d : DylibId) × (t : TrackId) × (v : Meaning) × (found : List Verdict) × (c ≡ Define d t v found)) ⊎ (((k : GenId) × (found : List Verdict) × (c ≡ Generate k found)) ⊎ (is_define c ≡ false)) → IsOffered q y
    by_new n defines (inl p) = fresh_offered m p.0.0 p.1.0 p.2 p.3 i q y (none n)
        (ap (λ b. slice_get (changed b m).rows i) (sym p.4) ∙ e) present (ap (λ b. slice_get (changed b m).units q.unit.0) (sym p.4) ∙ at)
    by_new n defines (inr (inr other)) = absurd (both_ways (is_define c) other defines)
    by_new n defines (inr (inl p)) = by_gen (slice_get m.generators p.0.0) (ap (λ b. slice_get (changed b m).rows i) (sym p.2) ∙ e) (ap (λ b. slice_get (changed b m).units q.unit.0) (sym p.2) ∙ at)
      where
        by_gen : (o : Option GenRow) → slice_get (option_map_or (λ x. spent p.0.0 (defined x.dylib x.tracker x.meaning p.1 m)) o m).rows i ≡ Some q → slice_get (option_map_or (λ x. spent p.0.0 (defined x.dylib x.tracker x.meaning p.1 m)) o m).units q.unit.0 ≡ Some y → IsOffered q y
        by_gen None a b = none_there (slice_get m.units q.unit.0) y n b
        by_gen (Some x) a b = fresh_offered m x.dylib x.tracker x.meaning p.1 i q y (none n) a present b

    split : ((x : UnitRow) × (slice_get m.units q.unit.0 ≡ Some x) × HasFields m c q.unit.0 x y) ⊎ IsNew m c q.unit.0 y → IsOffered q y
    split (inl p) = by_old p.0 p.1 p.2.meaning (rows_from c m i q e)
    split (inr p) = by_new p.1 p.0 (define_or c)

offered_settled : (m : Plain) → IsSound m → AllOffered m.rows m.units → AllOffered (settled m).rows (settled m).units
offered_settled m h old i q y e present at = let x = settled_fields m q.unit.0 y at in
    ap (λ (v : Meaning). slice_get v.offers q.offer) x.2.meaning ∙ old i q x.0 (ap (λ l. slice_get l i) (sym (settled_rows m)) ∙ e) present x.1

pub instances_are_offered : InstancesAreOffered
instances_are_offered jmax h l = kept_by_changes (λ rows units queries. AllOffered rows units) offered_changed offered_settled jmax [] h l (λ i r x e. absurd (none-some r e))
