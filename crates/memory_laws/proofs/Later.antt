-- What was there in a session stays: each instance with its unit, and each unit with what it is and what it is bound to.
use Rattle.std.proofs.Common.{◌≡◌, ℕ, List, [], ◌∷◌, ◌++◌, slice_get, ◌⊎◌, inl, inr, subst, sym, refl, ap, ◌∙◌, Some, None}
use Rattle.std.proofs.lemmas.Option.{none-some}
use Rattle.session_model.specs.Change.{change_of, changed}
use Rattle.session_model.specs.History.{IsLegal}
use Rattle.session_model.specs.Meaning.{Meaning, Bindings}
use Rattle.session_model.specs.Plain.{Plain, UnitRow, empty}
use Rattle.session_model.specs.State.{state, after}
use Rattle.session_model.specs.declared.change.Change.{Change}
use Rattle.session_model.specs.declared.entry.Entry.{Entry}
use Rattle.session_model.specs.declared.rows.InstRow.{InstRow}
use Rattle.session_laws.proofs.Declared.{state_from_push, none_there, same_element, Guard, after_rises, finish_linked, settled_rows}
use Rattle.closure_laws.proofs.Declared.{BindsBy, HasFields, IsNew, after_fields, OneMore, kept_along, change_rows, run_same, all_work, is_unbound}

-- a unit is what it was, and is bound to what it was
pub record SameUnit (x y : UnitRow) : Type 0 where
  pub meaning : y.meaning ≡ x.meaning
  pub bound : (b : Bindings) → x.bound ≡ Some b → y.bound ≡ Some b

-- n is m later on
pub record IsLater (m n : Plain) : Type 0 where
  pub rows : (i : ℕ) (r : InstRow) → slice_get m.rows i ≡ Some r → (q : InstRow) × (slice_get n.rows i ≡ Some q) × (q.unit ≡ r.unit)
  pub units : (u : ℕ) (x : UnitRow) → slice_get m.units u ≡ Some x → (y : UnitRow) × (slice_get n.units u ≡ Some y) × SameUnit x y

later_same : (m : Plain) → IsLater m m
later_same m = record {
  rows = λ i r e. (r, e, refl);
  units = λ u x e. (x, e, record { meaning = refl; bound = λ b f. f });
}

later_again : (m n k : Plain) → IsLater m n → IsLater n k → IsLater m k
later_again m n k a b = record {
  rows = λ i r e. let q = a.rows i r e in let p = b.rows i q.0 q.1 in (p.0, p.1, p.2 ∙ q.2);
  units = λ u x e. let y = a.units u x e in let z = b.units u y.0 y.1 in
      (z.0, z.1, record { meaning = z.2.meaning ∙ y.2.meaning; bound = λ c f. z.2.bound c (y.2.bound c f) });
}

-- One entry

-- bindings are handed out to a unit that has none
unbound_before : (jmax : ℕ) (h : List (Entry Meaning)) (e : Entry Meaning) (u : ℕ) (x y : UnitRow) → OneMore jmax h e → slice_get (state h).units u ≡ Some x → BindsBy (change_of (state h) e.seat.0 e.event e.reply) u y → x.bound ≡ None
unbound_before jmax h e u x y one t (s, v, how, is, at, so) =
    let g = subst (Guard (state h) e.seat.0) is one.guard in
    let linked = finish_linked (state h) v.0 g.1 one.sound g.2 in
    let same = same_element (slice_get (state h).units u) linked.0 x (ap (slice_get (state h).units) (sym at) ∙ linked.1) t in
    (all_work jmax h one.before u x t).unbound (ap (λ (z : UnitRow). is_unbound z.phase) (sym same) ∙ ap is_unbound linked.2)

unit_after : (jmax : ℕ) (h : List (Entry Meaning)) (e : Entry Meaning) (u : ℕ) (x : UnitRow) → OneMore jmax h e → slice_get (state h).units u ≡ Some x → (y : UnitRow) × (slice_get (after (state h) e).units u ≡ Some y) × SameUnit x y
unit_after jmax h e u x one t = (y.0, y.1, split (after_fields m e u y.0 y.1))
  where
    m : Plain
    m = state h

    c : Change Meaning
    c = change_of m e.seat.0 e.event e.reply

    y : (y : UnitRow) × (slice_get (after m e).units u ≡ Some y)
    y = let r = after_rises jmax h m e one.sound one.answers u x t in (r.0, r.1)

    kept : HasFields m c u x y.0 → SameUnit x y.0
    kept f = record { meaning = f.meaning; bound = λ b is. by_bound b is f.bound }
      where
        by_bound : (b : Bindings) → x.bound ≡ Some b → (y.0.bound ≡ x.bound) ⊎ BindsBy c u y.0 → y.0.bound ≡ Some b
        by_bound b is (inl same) = same ∙ is
        by_bound b is (inr given) = absurd (none-some b (sym (unbound_before jmax h e u x y.0 one t given) ∙ is))

    split : ((z : UnitRow) × (slice_get m.units u ≡ Some z) × HasFields m c u z y.0) ⊎ IsNew m c u y.0 → SameUnit x y.0
    split (inl p) = kept (subst (λ (z : UnitRow). HasFields m c u z y.0) (same_element (slice_get m.units u) p.0 x p.1 t) p.2)
    split (inr p) = none_there (slice_get m.units u) x p.1 t

row_after : (jmax : ℕ) (h : List (Entry Meaning)) (e : Entry Meaning) (i : ℕ) (r : InstRow) → OneMore jmax h e → slice_get (state h).rows i ≡ Some r → (q : InstRow) × (slice_get (after (state h) e).rows i ≡ Some q) × (q.unit ≡ r.unit)
row_after jmax h e i r one t =
    let m = state h in
    let c = change_of m e.seat.0 e.event e.reply in
    let q = change_rows m e.seat.0 c one.sound one.guard i r t in
    (q.0, ap (λ rows. slice_get rows i) (settled_rows (changed c m)) ∙ q.1, (run_same m c i r q.0 q.2).unit)

pub one_later : (jmax : ℕ) (h : List (Entry Meaning)) (e : Entry Meaning) → OneMore jmax h e → IsLater (state h) (state (h ++ e ∷ []))
one_later jmax h e one = subst (IsLater (state h)) (sym (state_from_push empty h e)) (record {
  rows = λ i r t. row_after jmax h e i r one t;
  units = λ u x t. unit_after jmax h e u x one t;
})

-- Along a history

pub history_later : (jmax : ℕ) (h more : List (Entry Meaning)) → IsLegal jmax (h ++ more) → IsLater (state h) (state (h ++ more))
history_later jmax h more l = kept_along jmax (λ g. IsLater (state h) (state g))
    (λ g e one old. later_again (state h) (state g) (state (g ++ e ∷ [])) old (one_later jmax g e one))
    h more l (later_same (state h))
