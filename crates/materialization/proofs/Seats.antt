-- What a seat has after a change, and after what settles by it.
use Rattle.std.proofs.Common.{◌≡◌, ℕ, true, false, List, [], ◌∷◌, ◌++◌, slice_get, subst, sym, refl, ap, ◌∙◌, Some, None, is_some}
use Rattle.std.specs.Prelude.{nat_eq}
use Rattle.std.specs.Option.{option_map_or}
use Rattle.std.proofs.lemmas.Bool.{both_ways, eq-eqb}
use Rattle.std.proofs.lemmas.Option.{none-some}
use Rattle.orc_ids.specs.declared.ids.UnitId.{UnitId}
use Rattle.session_model.specs.Lists.{changed_at}
use Rattle.session_model.specs.Meaning.{Meaning}
use Rattle.session_model.specs.Plain.{Plain, UnitRow, empty, is_defunct}
use Rattle.session_model.specs.Query.{is_met}
use Rattle.session_model.specs.Change.{change_of, changed, settled, finish_listed, waits_for, linked_unit, let_go_unit}
use Rattle.session_model.specs.State.{state}
use Rattle.session_model.specs.declared.change.Change.TheVariants.{LetGo}
use Rattle.session_model.specs.declared.entry.Entry.{Entry}
use Rattle.session_model.specs.declared.rows.Query.{Query}
use Rattle.session_model.specs.declared.rows.UnitPhase.TheVariants as phase
use Rattle.session_laws.specs.Sound.{IsSound, is_held_phase}
use Rattle.session_laws.proofs.Declared.{state_from_push, waiting_parts, changed_elsewhere, changed_there, map_parts, same_element, sound_changed, chosen, settling_keeps}
use Rattle.closure_laws.proofs.Declared.{OneMore}
use Rattle.history_laws.proofs.Giving.{GivesNone, change_seats_none, none_settled}
use Rattle.materialization.specs.Rest.{IsAt, Has, HoldsNone, HoldsOnly}
use Rattle.materialization.specs.declared.stage.Stage.{Stage}
use Rattle.materialization.specs.declared.stage.Stage.TheVariants as stage

-- What a seat holds, where nothing gives it a unit

pub none_kept : (m n : Plain) (s : ℕ) → GivesNone s m.units n.units → HoldsNone m s → HoldsNone n s
none_kept m n s g none v x t k = let y = g v x t k in none v y.0 y.1 y.2

pub only_kept : (m n : Plain) (s u : ℕ) → GivesNone s m.units n.units → HoldsOnly m s u → HoldsOnly n s u
only_kept m n s u g only v x t k = let y = g v x t k in only v y.0 y.1 y.2

-- the unit it held has another row
pub none_left : (m n : Plain) (s u : ℕ) (f : UnitRow → UnitRow) (units : List UnitRow) → n.units ≡ changed_at u f units → ((x : UnitRow) → (f x).seat ≡ Some s → ⊥) → GivesNone s m.units n.units → HoldsOnly m s u → HoldsNone n s
none_left m n s u f units e unseats g only v y t k = unseats p.0 (ap (λ (z : UnitRow). z.seat) (sym p.2) ∙ k)
  where
    w : (x : UnitRow) × (slice_get m.units v ≡ Some x) × (x.seat ≡ Some s)
    w = g v y t k

    p : (x : UnitRow) × (slice_get units u ≡ Some x) × (y ≡ f x)
    p = map_parts f (slice_get units u) y (sym (changed_there u f units) ∙ (ap (λ l. slice_get l u) (sym e) ∙ (ap (slice_get n.units) (sym (only v w.0 w.1 w.2)) ∙ t)))

-- the seat lets go of it
pub let_go_unseats : (s : ℕ) (x : UnitRow) → (let_go_unit s x).seat ≡ Some s → ⊥
let_go_unseats s x = chosen (λ o. o ≡ Some s → ⊥) (option_map_or (nat_eq s) x.seat false) None x.seat
    (λ b e. none-some s e)
    (λ b e. both_ways (option_map_or (nat_eq s) x.seat false) b (ap (λ o. option_map_or (nat_eq s) o false) e ∙ eq-eqb s s refl))

pub let_go_none : (m : Plain) (s : ℕ) (u : UnitId) → HoldsOnly m s u.0 → HoldsNone (changed (LetGo (record { 0 = s }) u) m) s
let_go_none m s u only = none_left m (changed (LetGo (record { 0 = s }) u) m) s u.0 (let_go_unit s) m.units refl (let_go_unseats s) (change_seats_none m s (LetGo (record { 0 = s }) u) tt) only

-- Settling

-- a unit that a seat holds doesn't wait
pub seated_stays : (m : Plain) (s u : ℕ) (x : UnitRow) → IsSound m → slice_get m.units u ≡ Some x → x.seat ≡ Some s → slice_get (settled m).units u ≡ Some x
seated_stays m s u x sound t k = settling_keeps (λ n. slice_get n.units u ≡ Some x) step 0 m.queries m t
  where
    waits : x.phase ≡ phase.Waiting → ⊥
    waits w = both_ways (is_some x.seat) ((sound.units_fit u x t).seat (ap is_defunct w) ∙ ap is_held_phase w) (ap is_some k)

    step : (v k : ℕ) (q : Query) (n : Plain) → slice_get n.units u ≡ Some x → waits_for n v k ≡ true → is_met n.rows q ≡ true → q.unit ≡ Some v → slice_get (finish_listed v n).units u ≡ Some x
    step v k q n p w e f = let y = waiting_parts n v k w in
        changed_elsewhere v linked_unit n.units u (λ is. waits (ap (λ (z : UnitRow). z.phase) (same_element (slice_get n.units v) x y.0 (ap (slice_get n.units) (sym is) ∙ p) y.1) ∙ y.2)) ∙ p

-- what a seat has at any stage, moved from one session to another
pub has_moved : (m n : Plain) (s u : ℕ) → (HoldsNone m s → HoldsNone n s) → ((at : Stage) → IsAt m s u at → IsAt n s u at) → (HoldsOnly m s u → HoldsOnly n s u) → (at : Stage) → Has m s u at → Has n s u at
has_moved m n s u none at only stage.Over h = none h
has_moved m n s u none at only stage.Place h = (at stage.Place h.0, only h.1)
has_moved m n s u none at only stage.Resolve h = (at stage.Resolve h.0, only h.1)
has_moved m n s u none at only stage.Link h = (at stage.Link h.0, only h.1)
has_moved m n s u none at only (stage.Generate g) h = (at (stage.Generate g) h.0, only h.1)
has_moved m n s u none at only stage.ResolveAlias h = (at stage.ResolveAlias h.0, only h.1)
has_moved m n s u none at only stage.Emit h = (at stage.Emit h.0, only h.1)
has_moved m n s u none at only (stage.Fail why) h = (at (stage.Fail why) h.0, only h.1)

settled_has : (m : Plain) (s u : ℕ) (at : Stage) → IsSound m → Has m s u at → Has (settled m) s u at
settled_has m s u at sound h = has_moved m (settled m) s u
    (none_kept m (settled m) s (none_settled s m))
    (λ g b. record { unit = b.unit; there = seated_stays m s u b.unit sound b.there b.seat; seat = b.seat; how = b.how })
    (only_kept m (settled m) s u (none_settled s m)) at h

-- what a seat has once its entry's change is made, it has after the entry
pub after_has : (jmax : ℕ) (h : List (Entry Meaning)) (e : Entry Meaning) → OneMore jmax h e → (u : ℕ) (at : Stage) →
    Has (changed (change_of (state h) e.seat.0 e.event e.reply) (state h)) e.seat.0 u at → Has (state (h ++ e ∷ [])) e.seat.0 u at
after_has jmax h e one u at has =
    let c = change_of (state h) e.seat.0 e.event e.reply in
    has_moved (settled (changed c (state h))) (state (h ++ e ∷ [])) e.seat.0 u
    (subst (λ (m : Plain). HoldsNone m e.seat.0) (sym (state_from_push empty h e)))
    (λ a b. record { unit = b.unit; there = subst (λ (m : Plain). slice_get m.units u ≡ Some b.unit) (sym (state_from_push empty h e)) b.there; seat = b.seat; how = b.how })
    (subst (λ (m : Plain). HoldsOnly m e.seat.0 u) (sym (state_from_push empty h e)))
    at (settled_has (changed c (state h)) e.seat.0 u at (sound_changed (state h) e.seat.0 c one.sound one.guard) has)
