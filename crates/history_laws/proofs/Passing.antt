-- The last replies about a unit stay the last: other seats are turned away from it.
use Rattle.std.proofs.Common.{◌≡◌, ℕ, Bool, true, false, not, ◌&&◌, ◌==◌, List, [], ◌∷◌, ◌++◌, slice_get, ◌⊎◌, inl, inr, sym, refl, ap, ◌∙◌, Some}
use Rattle.std.proofs.lemmas.Bool.{and_left, and_right, cases_eq, ne_eqb}
use Rattle.std.proofs.lemmas.Option.{same_Some}
use Rattle.orc_ids.specs.declared.ids.UnitId.{UnitId}
use Rattle.session_model.specs.Lists.{or_else, only_if}
use Rattle.session_model.specs.Meaning.{Meaning}
use Rattle.session_model.specs.Plain.{Plain, UnitRow, unit_shape}
use Rattle.session_model.specs.State.{state}
use Rattle.session_model.specs.Answer.{Answers, AnswersCall, AnswersPlace, AnswersEmit, answer_link, called, can_place, can_link, can_emit, is_turned_away, last_reply, is_link_of, is_emit_of, is_place_of}
use Rattle.session_model.specs.declared.entry.Entry.{Entry}
use Rattle.session_model.specs.declared.entry.Event.{Event}
use Rattle.session_model.specs.declared.entry.Event.TheVariants as event
use Rattle.session_model.specs.declared.entry.Reply.{Reply}
use Rattle.session_laws.proofs.Declared.{same_element, call_cases}
use Rattle.closure_laws.proofs.Declared.{OneMore}
use Rattle.history_laws.specs.Holders.{SameReplies, LastRepliesStay}
use Rattle.history_laws.proofs.Others.{others_along, one_other, IsSeated, seat_stays}

-- such an event has a reply that wasn't turned away
abbrev counts : (Event Meaning → Bool) → Event Meaning → Reply → Bool
counts test e r = test e && not (is_turned_away r)

passed_over : (test : Event Meaning → Bool) (h : List (Entry Meaning)) (e : Entry Meaning) → counts test e.event e.reply ≡ false → last_reply test (h ++ e ∷ []) ≡ last_reply test h
passed_over test [] e f = ap (λ b. only_if b e.reply) f
passed_over test (d ∷ ds) e f = ap (λ o. or_else o (only_if (counts test d.event d.reply) d.reply)) (passed_over test ds e f)

-- a call of another seat
call_passed : (m : Plain) (t s u : ℕ) (v : UnitId) (fit : UnitRow → Bool) (P : UnitRow → Type 0) (r : Reply) → (t ≡ s → ⊥) → IsSeated m s u → AnswersCall (called m t v fit) v P r → ((v.0 == u) && not (is_turned_away r)) ≡ false
call_passed m t s u v fit P r apart x a = split (cases_eq v.0 u)
  where
    turned : v.0 ≡ u → is_turned_away r ≡ true
    turned is = call_cases m t v fit P r a (λ y e d f. ap is_turned_away f) (λ f w. ap is_turned_away f)
        (λ y e d k f p. absurd (apart (same_Some t s (sym k ∙ (ap (λ (z : UnitRow). z.seat) (same_element (slice_get m.units u) y x.0 (ap (slice_get m.units) (sym is) ∙ e) x.1) ∙ x.2)))))

    split : (v.0 ≡ u) ⊎ (v.0 ≡ u → ⊥) → ((v.0 == u) && not (is_turned_away r)) ≡ false
    split (inl is) = and_right (v.0 == u) (not (is_turned_away r)) (ap not (turned is))
    split (inr n) = and_left (v.0 == u) (not (is_turned_away r)) (ne_eqb v.0 u n)

link_passed : (jmax : ℕ) (past : List (Entry Meaning)) (m : Plain) (t s u : ℕ) (e : Event Meaning) (r : Reply) → (t ≡ s → ⊥) → IsSeated m s u → Answers jmax past m t e r → counts (is_link_of u) e r ≡ false
link_passed jmax past m t s u (event.Link v) r apart x a = call_passed m t s u v can_link (λ y. r ≡ answer_link m v.0 y) r apart x a
link_passed jmax past m t s u _ r apart x a = refl

emit_passed : (jmax : ℕ) (past : List (Entry Meaning)) (m : Plain) (t s u : ℕ) (e : Event Meaning) (r : Reply) → (t ≡ s → ⊥) → IsSeated m s u → Answers jmax past m t e r → counts (is_emit_of u) e r ≡ false
emit_passed jmax past m t s u (event.Emit v groups) r apart x a = call_passed m t s u v can_emit (λ y. AnswersEmit m v.0 groups y r) r apart x a
emit_passed jmax past m t s u _ r apart x a = refl

place_passed : (jmax : ℕ) (past : List (Entry Meaning)) (m : Plain) (t s u : ℕ) (e : Event Meaning) (r : Reply) → (t ≡ s → ⊥) → IsSeated m s u → Answers jmax past m t e r → counts (is_place_of u) e r ≡ false
place_passed jmax past m t s u (event.Place v shape) r apart x a = call_passed m t s u v can_place (λ y. (unit_shape y ≡ Some shape) × AnswersPlace m shape r) r apart x a
place_passed jmax past m t s u _ r apart x a = refl

pub last_replies_stay : LastRepliesStay
last_replies_stay jmax h more l s u x o b = (others_along jmax s (λ g. IsSeated (state g) s u × SameReplies u h g) step h more l o ((x, b.there, b.seat), record { link = refl; emit = refl; place = refl })).1
  where
    step : (g : List (Entry Meaning)) (e : Entry Meaning) → (e.seat.0 ≡ s → ⊥) → OneMore jmax g e → IsSeated (state g) s u × SameReplies u h g → IsSeated (state (g ++ e ∷ [])) s u × SameReplies u h (g ++ e ∷ [])
    step g e apart one p = (
      seat_stays jmax g (e ∷ []) one.legal s u (one_other s e apart) p.0,
      record {
        link = passed_over (is_link_of u) g e (link_passed jmax g (state g) e.seat.0 s u e.event e.reply apart p.0 one.answers) ∙ p.1.link;
        emit = passed_over (is_emit_of u) g e (emit_passed jmax g (state g) e.seat.0 s u e.event e.reply apart p.0 one.answers) ∙ p.1.emit;
        place = passed_over (is_place_of u) g e (place_passed jmax g (state g) e.seat.0 s u e.event e.reply apart p.0 one.answers) ∙ p.1.place;
      },
    )
