-- Which units wait for a query, from one listing of a Finish to the next.
use Rattle.std.proofs.Common.{◌≡◌, ℕ, ◌⊎◌, inl, inr, Bool, true, false, ◌&&◌, List, slice_get, Option, Some, None, refl, ap, sym, ◌∙◌}
use Rattle.std.specs.Bool.{if◌then◌else◌}
use Rattle.std.specs.Option.{option_map_or}
use Rattle.std.proofs.lemmas.Bool.{both_ways, false_from_ne_true}
use Rattle.session_model.proofs.Units.{waiting_from}
use Rattle.session_model.specs.Lists.{changed_at}
use Rattle.session_model.specs.Plain.{Plain, UnitRow}
use Rattle.session_model.specs.Query.{is_met}
use Rattle.session_model.specs.Change.{settled, settled_one, finish_listed, waits_for}
use Rattle.session_model.specs.declared.rows.Query.{Query}
use Rattle.session_model.specs.declared.rows.UnitPhase.TheVariants as stage
use Rattle.session_laws.proofs.Declared.{waiting_parts, changed_cases, settling_keeps, settled_one_keeps}

-- each unit that waits there waits here for the same query
abbrev pub WaitsNoMore : List UnitRow → List UnitRow → Type 0
WaitsNoMore units new = (u : ℕ) (y : UnitRow) → slice_get new u ≡ Some y → y.phase ≡ stage.Waiting → (x : UnitRow) × (slice_get units u ≡ Some x) × (x.phase ≡ stage.Waiting) × (x.query ≡ y.query)

pub waits_same : (units : List UnitRow) → WaitsNoMore units units
waits_same units u y t p = (y, t, p, refl)

pub waits_again : (units new newer : List UnitRow) → WaitsNoMore units new → WaitsNoMore new newer → WaitsNoMore units newer
waits_again units new newer a b u y t p = let x = b u y t p in let w = a u x.0 x.1 x.2 in (w.0, w.1, w.2, w.3 ∙ x.3)

-- the changed unit doesn't wait anew
pub waits_changed : (units : List UnitRow) (u : ℕ) (f : UnitRow → UnitRow) → ((x : UnitRow) → (f x).phase ≡ stage.Waiting → (x.phase ≡ stage.Waiting) × (x.query ≡ (f x).query)) → WaitsNoMore units (changed_at u f units)
waits_changed units u f h v y t p = split (changed_cases u f units v y t)
  where
    split : ((v ≡ u) × ((x : UnitRow) × (slice_get units v ≡ Some x) × (y ≡ f x))) ⊎ ((v ≡ u → ⊥) × (slice_get units v ≡ Some y)) → (x : UnitRow) × (slice_get units v ≡ Some x) × (x.phase ≡ stage.Waiting) × (x.query ≡ y.query)
    split (inl a) = let x = a.1.0 in
        let q = h x (sym (ap (λ (z : UnitRow). z.phase) a.1.2) ∙ p) in
        (x, a.1.1, q.0, q.1 ∙ sym (ap (λ (z : UnitRow). z.query) a.1.2))
    split (inr b) = (y, b.1, p, refl)

pub none_waits : (m n : Plain) (u k : ℕ) → WaitsNoMore m.units n.units → waits_for m u k ≡ false → waits_for n u k ≡ false
none_waits m n u k w f = false_from_ne_true (waits_for n u k) (λ b. clash (waiting_parts n u k b))
  where
    clash : (y : UnitRow) × (slice_get n.units u ≡ Some y) × (y.phase ≡ stage.Waiting) × (y.query ≡ Some k) → ⊥
    clash p = let x = w u p.0 p.1 p.2 in both_ways (waits_for m u k) f (waiting_from m u k x.0 x.1 x.2 (x.3 ∙ p.3))

listed_waits : (v : ℕ) (m : Plain) → WaitsNoMore m.units (finish_listed v m).units
listed_waits v m = waits_changed m.units v (λ x. record x { phase = stage.Linked }) (λ x e. absurd cc)

pub one_waits : (k : ℕ) (q : Query) (m : Plain) → WaitsNoMore m.units (settled_one k q m).units
one_waits k q m = settled_one_keeps (λ n. WaitsNoMore m.units n.units) (λ v l p n w a b c. waits_again m.units n.units (finish_listed v n).units w (listed_waits v n)) k q m (waits_same m.units)

pub settled_waits_less : (m : Plain) → WaitsNoMore m.units (settled m).units
settled_waits_less m = settling_keeps (λ n. WaitsNoMore m.units n.units) (λ v l p n w a b c. waits_again m.units n.units (finish_listed v n).units w (listed_waits v n)) 0 m.queries m (waits_same m.units)

-- where the unit of a query doesn't wait for it, its settling changes nothing
pub one_calm : (k : ℕ) (q : Query) (m : Plain) → ((u : ℕ) → q.unit ≡ Some u → is_met m.rows q ≡ true → waits_for m u k ≡ false) → settled_one k q m ≡ m
one_calm k q m h = split q.unit refl
  where
    split : (o : Option ℕ) → q.unit ≡ o → option_map_or (λ u. if is_met m.rows q && waits_for m u k then finish_listed u m else m) o m ≡ m
    split None e = refl
    split (Some u) e = by_test (is_met m.rows q) refl
      where
        by_test : (b : Bool) → is_met m.rows q ≡ b → (if b && waits_for m u k then finish_listed u m else m) ≡ m
        by_test true t = ap (λ b. if b then finish_listed u m else m) (h u e t)
        by_test false t = refl
