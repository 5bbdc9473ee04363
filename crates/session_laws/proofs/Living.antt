-- A unit that a lookup has asked for keeps its live names when others are defined.
use Rattle.std.proofs.Common.{◌≡◌, ℕ, suc, ◌+◌, Bool, true, false, not, ◌&&◌, ◌||◌, ◌==◌, nat_eq, List, [], ◌∷◌, slice_get, ◌⊎◌, inl, inr, subst, sym, refl, ap, ap₂, ◌∙◌, Option, Some, None}
use Rattle.std.specs.Bool.{if◌then◌else◌}
use Rattle.std.specs.List.{list_any}
use Rattle.std.specs.Option.{option_map_or}
use Rattle.std.proofs.lemmas.Bool.{both_ways, eqb-true, and_parts, or_cases, false_from_ne_true}
use Rattle.list_laws.proofs.Bools.{and_kept}
use Rattle.orc_ids.specs.declared.flags.SymFlags.{SymFlags}
use Rattle.orc_ids.specs.declared.ids.NameId.{NameId}
use Rattle.session_model.specs.Lists.{numbered}
use Rattle.session_model.specs.Match.{row_of}
use Rattle.session_model.specs.Plain.{Plain, UnitRow, is_unsearched, unsearched_at}
use Rattle.session_model.specs.Change.{verdict, verdicts, verdict_on, replaced_by, is_replaced, is_strong, loses_name, without_replaced}
use Rattle.session_model.specs.declared.rows.InstRow.{InstRow}
use Rattle.session_model.specs.declared.rows.Row.{Row}
use Rattle.session_model.specs.declared.rows.UnitPhase.TheVariants as stage
use Rattle.session_model.specs.declared.rows.Verdict.{Verdict}
use Rattle.session_model.specs.declared.rows.Verdict.TheVariants.{Kept, Replaces, Discarded, Clashes}
use Rattle.session_laws.proofs.Defining.{IsHere, replaced_unsearched}
use Rattle.session_laws.proofs.Elements.{numbered_parts, same_element}
use Rattle.session_laws.proofs.Facts.{test_is, unsearched_unclaimed}
use Rattle.session_laws.proofs.Replies.{row_here}
use Rattle.session_laws.proofs.RowStages.{unclaimed_row}
use Rattle.session_laws.proofs.Settling.{chosen}
use Rattle.session_laws.specs.Sound.{IsSound, fits, row_stage}

-- only present instances are replaced
pub replaced_here : (rows : List InstRow) (d : ℕ) (offers : List (NameId × SymFlags)) (i : ℕ) → is_replaced (verdicts rows d offers) i ≡ true → IsHere rows i
replaced_here rows d [] i h = absurd (both_ways false refl h)
replaced_here rows d (offer ∷ offers) i h = split (or_cases (option_map_or (nat_eq i) (replaced_by (verdict rows d offer)) false) (is_replaced (verdicts rows d offers) i) h) (replaced_here rows d offers i)
  where
    by_verdict : (flags : SymFlags) (name : ℕ) (o : Option Row) → row_of rows d name ≡ o → option_map_or (nat_eq i) (replaced_by (option_map_or (verdict_on rows flags) o Kept)) false ≡ true → IsHere rows i
    by_verdict flags name None is h = absurd (both_ways false refl h)
    by_verdict flags name (Some old) is h = chosen (λ w. option_map_or (nat_eq i) (replaced_by w) false ≡ true → IsHere rows i) (not (is_strong flags)) Discarded
        (if is_strong old.flags || not (unsearched_at rows old.inst.0) then Clashes old.inst else Replaces old.inst)
        (λ b h. absurd (both_ways false refl h))
        (λ b. chosen (λ w. option_map_or (nat_eq i) (replaced_by w) false ≡ true → IsHere rows i) (is_strong old.flags || not (unsearched_at rows old.inst.0)) (Clashes old.inst) (Replaces old.inst)
        (λ c h. absurd (both_ways false refl h))
        (λ c h. subst (IsHere rows) (sym (eqb-true i old.inst.0 h)) (row_here rows d name old is))) h

    split : (option_map_or (nat_eq i) (replaced_by (verdict rows d offer)) false ≡ true) ⊎ (is_replaced (verdicts rows d offers) i ≡ true) → (is_replaced (verdicts rows d offers) i ≡ true → IsHere rows i) → IsHere rows i
    split (inl a) rest = by_verdict offer.1 offer.0.0 (row_of rows d offer.0.0) refl a
    split (inr b) rest = rest b

pub any_flag : (bs : List Bool) → list_any (λ (b : Bool). b) bs ≡ true → (i : ℕ) × (slice_get bs i ≡ Some true)
any_flag [] e = absurd (both_ways false refl e)
any_flag (true ∷ bs) e = (0, refl)
any_flag (false ∷ bs) e = let p = any_flag bs e in (suc p.0, p.1)

pub numbered_same : {X : Type 0} (f : ℕ → X → X) → ((k : ℕ) (x : X) → f k x ≡ x) → (k : ℕ) (xs : List X) → numbered f k xs ≡ xs
numbered_same f h k [] = refl
numbered_same f h k (x ∷ xs) = ap₂ (λ y ys. y ∷ ys) (h k x) (numbered_same f h (k + 1) xs)

-- its present instances were searched
pub row_searched : (m : Plain) (u : ℕ) (x : UnitRow) (i : ℕ) (r : InstRow) → IsSound m → slice_get m.units u ≡ Some x → (x.phase ≡ stage.Unclaimed → ⊥) → slice_get m.rows i ≡ Some r → r.present ≡ true → r.unit.0 ≡ u → is_unsearched r.phase ≡ false
row_searched m u x i r s t asked e p is = false_from_ne_true (is_unsearched r.phase) (λ n. asked (unclaimed_row x (unsearched_unclaimed (row_stage x) r.phase fit n)))
  where
    fit : fits (row_stage x) r.phase ≡ true
    fit = let y = (s.rows_fit i r e).here p in
        subst (λ (z : UnitRow). fits (row_stage z) r.phase ≡ true) (same_element (slice_get m.units u) y.0 x (sym (ap (slice_get m.units) is) ∙ y.1) t) y.2

-- so none of its instances is replaced
pub unreplaced_at : (m : Plain) (d : ℕ) (offers : List (NameId × SymFlags)) (u : ℕ) (x : UnitRow) (i : ℕ) (r : InstRow) → IsSound m → slice_get m.units u ≡ Some x → (x.phase ≡ stage.Unclaimed → ⊥) → slice_get m.rows i ≡ Some r → r.unit.0 ≡ u → is_replaced (verdicts m.rows d offers) i ≡ false
unreplaced_at m d offers u x i r s t asked e is = false_from_ne_true (is_replaced (verdicts m.rows d offers) i) (λ h.
    both_ways (is_unsearched r.phase) (row_searched m u x i r s t asked e (sym (test_is (λ (y : InstRow). y.present) m.rows i r e) ∙ replaced_here m.rows d offers i h) is)
    (sym (test_is (λ (y : InstRow). is_unsearched y.phase) m.rows i r e) ∙ replaced_unsearched m.rows d offers i h))

pub live_kept : (m : Plain) (d : ℕ) (offers : List (NameId × SymFlags)) (u : ℕ) (x : UnitRow) → IsSound m → slice_get m.units u ≡ Some x → (x.phase ≡ stage.Unclaimed → ⊥) → without_replaced m.rows (verdicts m.rows d offers) u x ≡ x
live_kept m d offers u x s t asked = ap (λ l. record x { live = l }) (numbered_same (λ j (flag : Bool). flag && not (loses_name m.rows vs u j)) (λ j flag. and_kept flag (loses_name m.rows vs u j) (loses j)) 0 x.live)
  where
    vs : List Verdict
    vs = verdicts m.rows d offers

    loses : (j : ℕ) → loses_name m.rows vs u j ≡ false
    loses j = false_from_ne_true (loses_name m.rows vs u j) (λ h. clash (any_flag (numbered (λ i (r : InstRow). is_replaced vs i && r.unit.0 == u && r.offer == j) 0 m.rows) h))
      where
        clash : (i : ℕ) × (slice_get (numbered (λ i (r : InstRow). is_replaced vs i && r.unit.0 == u && r.offer == j) 0 m.rows) i ≡ Some true) → ⊥
        clash p = let q = numbered_parts (λ i (r : InstRow). is_replaced vs i && r.unit.0 == u && r.offer == j) m.rows p.0 true p.1 in
            let a = and_parts (is_replaced vs p.0) (q.0.unit.0 == u) (and_parts (is_replaced vs p.0 && q.0.unit.0 == u) (q.0.offer == j) (sym q.2)).0 in
            both_ways (is_replaced vs p.0) (unreplaced_at m d offers u x p.0 q.0 s t asked q.1 (eqb-true q.0.unit.0 u a.1)) a.0
