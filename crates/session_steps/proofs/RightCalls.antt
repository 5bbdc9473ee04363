-- A unit at which a call is right: it isn't gone, and the seat holds it.
use Rattle.std.proofs.Common.{◌≡◌, ℕ, ◌<◌, Bool, true, false, ◌==◌, length, slice_get, Option, Some, None, refl, ap, sym, subst, ◌∙◌}
use Rattle.std.specs.Bool.{if◌then◌else◌}
use Rattle.std.specs.Prelude.{◌&&◌, nat_eq, is_some}
use Rattle.std.specs.Option.{option_map_or}
use Rattle.std.proofs.lemmas.Bool.{and_parts, eqb-true}
use Rattle.orc_ids.specs.declared.ids.UnitId.{UnitId}
use Rattle.session_model.specs.Plain.{Plain, UnitRow, is_defunct, is_owned}
use Rattle.session_model.specs.Answer.{AnswersCall, Called, Gone, Wrong, Right, called, is_held}
use Rattle.session_model.specs.declared.entry.Reply.{Reply}
use Rattle.session_model.specs.declared.rows.InstRow.{InstRow}
use Rattle.session_laws.specs.Sound.{IsSound}
use Rattle.instances.specs.Graph.{NoneEmitted}
use Rattle.session_parts.proofs.Unemitted.{unemitted_held}
use Rattle.session_replies.proofs.Turning.{right_unit}
use Rattle.session_steps.specs.Stands.{AreOffered}

pub right_alive : (m : Plain) (s : ℕ) (u : UnitId) (fit : UnitRow → Bool) (x : UnitRow) → called m s u fit ≡ Right x → is_defunct x.phase ≡ false
right_alive m s u fit x e = split (slice_get m.units u.0) e
  where
    same : (y : UnitRow) → Right y ≡ Right x → y ≡ x
    same y f = cc

    tested : (gone right : Bool) (y : UnitRow) → (if gone then Gone else (if right then Right y else Wrong)) ≡ Right x → (gone ≡ false) × (y ≡ x)
    tested true right y f = absurd cc
    tested false true y f = (refl, same y f)
    tested false false y f = absurd cc

    split : (o : Option UnitRow) → option_map_or (λ y. if is_defunct y.phase then Gone else (if is_held s y && fit y then Right y else Wrong)) o Wrong ≡ Right x → is_defunct x.phase ≡ false
    split None f = absurd cc
    split (Some y) f = let t = tested (is_defunct y.phase) (is_held s y && fit y) y f in subst (λ (z : UnitRow). is_defunct z.phase ≡ false) t.1 t.0

seated : (s : ℕ) (o : Option ℕ) → option_map_or (nat_eq s) o false ≡ true → is_some o ≡ true
seated s None h = absurd cc
seated s (Some n) h = refl

-- none of its instances is emitted
pub right_unemitted : (m : Plain) (s : ℕ) (u : UnitId) (fit : UnitRow → Bool) (x : UnitRow) → IsSound m → called m s u fit ≡ Right x → NoneEmitted u.0 m.rows
right_unemitted m s u fit x sound e =
    let unit = right_unit m s u fit x e in
    unemitted_held m u.0 x sound unit.0 (sym ((sound.units_fit u.0 x unit.0).seat (right_alive m s u fit x e)) ∙ seated s x.seat unit.1)

-- its instances are of names that it offers
pub owned_offers : (m : Plain) (u : ℕ) → AreOffered m → (i : ℕ) (r : InstRow) (x : UnitRow) → slice_get m.rows i ≡ Some r → is_owned u r ≡ true → slice_get m.units u ≡ Some x → r.offer < length x.meaning.offers
owned_offers m u offered i r x at own there = let parts = and_parts r.present (r.unit.0 == u) own in offered i r x at parts.0 (ap (slice_get m.units) (eqb-true r.unit.0 u parts.1) ∙ there)

-- the answer to a right call
pub right_answer : (c : Called) (u : UnitId) (P : UnitRow → Type 0) (r : Reply) (x : UnitRow) → c ≡ Right x → P x → AnswersCall c u P r
right_answer c u P r x is p = subst (λ d. AnswersCall d u P r) (sym is) p
