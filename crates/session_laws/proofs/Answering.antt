-- A unit that is linked has the end of its link query, so a take always has an answer.
use Rattle.session_laws.proofs.Resting.{change_before}
use Rattle.session_model.specs.Change.{linked_unit}
use Rattle.std.proofs.Common.{◌≡◌, ℕ, suc, ◌+◌, true, ◌&&◌, List, [], ◌∷◌, ◌++◌, length, slice_get, ◌⊎◌, inl, inr, subst, sym, refl, ap, ◌∙◌, Option, Some, None}
use Rattle.std.specs.Bool.{if◌then◌else◌}
use Rattle.std.specs.Option.{option_map_or}
use Rattle.std.proofs.lemmas.Bool.{both_ways, and_parts}
use Rattle.std.proofs.lemmas.Option.{none-some}
use Rattle.session_model.specs.Plain.{Plain, UnitRow}
use Rattle.session_model.specs.declared.entry.Reply.TheVariants as reply
use Rattle.session_model.specs.declared.rows.Job.TheVariants as job
use Rattle.session_model.specs.declared.rows.UnitPhase.TheVariants as stage
use Rattle.std.proofs.Common.{arith, append_assoc, append-nil}
use Rattle.session_model.specs.Change.{settled, finish_listed, waits_for}
use Rattle.session_laws.proofs.Elements.{changed_cases, same_element}
use Rattle.session_laws.proofs.Settling.{chosen}
use Rattle.session_model.specs.Meaning.{Meaning}
use Rattle.session_model.specs.Query.{is_met}
use Rattle.session_model.specs.Change.{settled_from}
use Rattle.session_model.specs.Change.{change_of, changed}
use Rattle.session_model.specs.Answer.{Answers, AnswersTake, AnswersFinish}
use Rattle.session_model.specs.declared.entry.Entry.{Entry}
use Rattle.session_model.specs.declared.entry.Event.TheVariants as event
use Rattle.session_model.specs.declared.entry.Finishing.TheVariants as finishing
use Rattle.session_model.specs.declared.entry.Reply.{Reply}
use Rattle.session_model.specs.Plain.{empty}
use Rattle.session_model.specs.State.{after, state}
use Rattle.session_laws.proofs.Along.{state_from_push}
use Rattle.session_laws.proofs.Invariant.{legal_is_sound}
use Rattle.session_laws.proofs.Settling.{settled_rows, settled_queries}
use Rattle.std.proofs.Common.{take, le_refl}
use Rattle.std.proofs.lemmas.List.{take_all}
use Rattle.session_model.specs.State.{IsOpen, IsEnd}
use Rattle.session_laws.proofs.Ending.{query_was_asked}
use Rattle.session_model.specs.Change.{settled_one}
use Rattle.session_laws.proofs.Defining.{waiting_parts}
use Rattle.session_laws.proofs.Rising.{finish_linked}
use Rattle.session_laws.proofs.Ending.{end_stays, open_or_ended}
use Rattle.session_laws.specs.Taking.{TakeIsAnswered}
use Rattle.session_model.specs.declared.rows.Ending.{Ending}
use Rattle.session_model.specs.declared.rows.Ending.TheVariants.{Found, Lost}
use Rattle.session_model.specs.declared.rows.Query.{Query}

-- Settling, with the number of each query

settling_keeps_at : (P : Plain → Type 0) (all : List Query) → ((u k : ℕ) (q : Query) (m : Plain) → slice_get all k ≡ Some q → P m → waits_for m u k ≡ true → is_met m.rows q ≡ true → q.unit ≡ Some u → P (finish_listed u m)) →
    (j : ℕ) (qs : List Query) → ((i : ℕ) (q : Query) → slice_get qs i ≡ Some q → slice_get all (j + i) ≡ Some q) → (m : Plain) → P m → P (settled_from j qs m)
settling_keeps_at P all step j [] at m p = p
settling_keeps_at P all step j (q ∷ qs) at m p = settling_keeps_at P all step (j + 1) qs later (settled_one j q m)
    (settled_one_keeps_at (subst (λ k. slice_get all k ≡ Some q) first (at 0 q refl)))
  where
    first : j + 0 ≡ j
    first = omega arith

    later : (i : ℕ) (r : Query) → slice_get qs i ≡ Some r → slice_get all (j + 1 + i) ≡ Some r
    later i r e = subst (λ k. slice_get all k ≡ Some r) (next i) (at (suc i) r e)
      where
        next : (i : ℕ) → j + suc i ≡ j + 1 + i
        next i = omega arith

    settled_one_keeps_at : slice_get all j ≡ Some q → P (settled_one j q m)
    settled_one_keeps_at t = split q.unit refl
      where
        split : (o : Option ℕ) → q.unit ≡ o → P (option_map_or (λ u. if is_met m.rows q && waits_for m u j then finish_listed u m else m) o m)
        split None e = p
        split (Some u) e = chosen P (is_met m.rows q && waits_for m u j) (finish_listed u m) m
            (λ b. let parts = and_parts (is_met m.rows q) (waits_for m u j) b in step u j q m t p parts.1 parts.0 e) (λ b. p)

-- a linked unit's query is met now, or the unit was linked before
abbrev pub LinkedBy : Plain → List UnitRow → Type 0
LinkedBy m units = (u : ℕ) (y : UnitRow) → slice_get units u ≡ Some y → y.phase ≡ stage.Linked →
    ((x : UnitRow) × (slice_get m.units u ≡ Some x) × (x.phase ≡ stage.Linked) × (x.query ≡ y.query)) ⊎ ((k : ℕ) × (q : Query) × (y.query ≡ Some k) × (slice_get m.queries k ≡ Some q) × (is_met m.rows q ≡ true))

settled_by : (m : Plain) → LinkedBy m (settled m).units
settled_by m = (settling_keeps_at (λ n. (n.rows ≡ m.rows) × LinkedBy m n.units) m.queries step 0 m.queries first m (refl, λ u y t e. inl (y, t, e, refl))).1
  where
    first : (i : ℕ) (q : Query) → slice_get m.queries i ≡ Some q → slice_get m.queries (0 + i) ≡ Some q
    first i q t = subst (λ k. slice_get m.queries k ≡ Some q) (same i) t
      where
        same : (i : ℕ) → i ≡ 0 + i
        same i = omega arith

    step : (v k : ℕ) (q : Query) (n : Plain) → slice_get m.queries k ≡ Some q → (n.rows ≡ m.rows) × LinkedBy m n.units → waits_for n v k ≡ true → is_met n.rows q ≡ true → q.unit ≡ Some v → (n.rows ≡ m.rows) × LinkedBy m (finish_listed v n).units
    step v k q n t p w met e = (p.0, λ u y a b. split u y b (changed_cases v linked_unit n.units u y a))
      where
        split : (u : ℕ) (y : UnitRow) → y.phase ≡ stage.Linked → ((u ≡ v) × ((x : UnitRow) × (slice_get n.units u ≡ Some x) × (y ≡ linked_unit x))) ⊎ ((u ≡ v → ⊥) × (slice_get n.units u ≡ Some y)) →
            ((x : UnitRow) × (slice_get m.units u ≡ Some x) × (x.phase ≡ stage.Linked) × (x.query ≡ y.query)) ⊎ ((k : ℕ) × (q : Query) × (y.query ≡ Some k) × (slice_get m.queries k ≡ Some q) × (is_met m.rows q ≡ true))
        split u y b (inl c) = let z = waiting_parts n v k w in
            let same = same_element (slice_get n.units v) z.0 c.1.0 z.1 (ap (slice_get n.units) (sym c.0) ∙ c.1.1) in
            inr (k, q, ap (λ (r : UnitRow). r.query) c.1.2 ∙ (ap (λ (r : UnitRow). r.query) (sym same) ∙ z.3), t, subst (λ rows. is_met rows q ≡ true) p.0 met)
        split u y b (inr c) = p.1 u y c.1 b

-- Along a history

abbrev pub LinkedEnds : List (Entry Meaning) → Type 0
LinkedEnds h = (u : ℕ) (x : UnitRow) → slice_get (state h).units u ≡ Some x → x.phase ≡ stage.Linked → (k : ℕ) × (x.query ≡ Some k) × (n : ℕ) × (end : Ending) × IsEnd h k n end

one_more_ends : (h : List (Entry Meaning)) (e : Entry Meaning) → LinkedEnds h → LinkedEnds (h ++ e ∷ [])
one_more_ends h e old u y t is = split (settled_by now u y (ap (λ m. slice_get m.units u) (sym leads) ∙ t) is)
  where
    now : Plain
    now = changed (change_of (state h) e.seat.0 e.event e.reply) (state h)

    leads : state (h ++ e ∷ []) ≡ after (state h) e
    leads = state_from_push empty h e

    kept : (x : UnitRow) × (slice_get (state h).units u ≡ Some x) × (x.phase ≡ stage.Linked) × (x.query ≡ y.query) → (k : ℕ) × (y.query ≡ Some k) × (n : ℕ) × (end : Ending) × IsEnd (h ++ e ∷ []) k n end
    kept p = let o = old u p.0 p.1 p.2 in (o.0, sym p.3 ∙ o.1, o.2, o.3, end_stays h (e ∷ []) o.0 o.2 o.3 o.4)

    met_now : (k : ℕ) × (q : Query) × (y.query ≡ Some k) × (slice_get now.queries k ≡ Some q) × (is_met now.rows q ≡ true) → (k : ℕ) × (y.query ≡ Some k) × (n : ℕ) × (end : Ending) × IsEnd (h ++ e ∷ []) k n end
    met_now p = finished (open_or_ended (h ++ e ∷ []) p.0 p.1 there)
      where
        there : slice_get (state (h ++ e ∷ [])).queries p.0 ≡ Some p.1
        there = ap (λ m. slice_get m.queries p.0) leads ∙ (ap (λ l. slice_get l p.0) (settled_queries now) ∙ p.3)

        met : is_met (state (take (length (h ++ e ∷ [])) (h ++ e ∷ []))).rows p.1 ≡ true
        met = ap (λ g. is_met (state g).rows p.1) (take_all (length (h ++ e ∷ [])) (h ++ e ∷ []) (le_refl (length (h ++ e ∷ [])))) ∙ (ap (λ m. is_met m.rows p.1) leads ∙ (ap (λ rows. is_met rows p.1) (settled_rows now) ∙ p.4))

        finished : IsOpen (h ++ e ∷ []) p.1 ⊎ ((n : ℕ) × (end : Ending) × IsEnd (h ++ e ∷ []) p.0 n end) → (k : ℕ) × (y.query ≡ Some k) × (n : ℕ) × (end : Ending) × IsEnd (h ++ e ∷ []) k n end
        finished (inl o) = absurd (both_ways _ (o.unmet (length (h ++ e ∷ [])) (query_was_asked (h ++ e ∷ []) p.0 p.1 there).1 (le_refl (length (h ++ e ∷ [])))) met)
        finished (inr x) = (p.0, p.2, x.0, x.1, x.2)

    split : ((x : UnitRow) × (slice_get now.units u ≡ Some x) × (x.phase ≡ stage.Linked) × (x.query ≡ y.query)) ⊎ ((k : ℕ) × (q : Query) × (y.query ≡ Some k) × (slice_get now.queries k ≡ Some q) × (is_met now.rows q ≡ true)) → (k : ℕ) × (y.query ≡ Some k) × (n : ℕ) × (end : Ending) × IsEnd (h ++ e ∷ []) k n end
    split (inl p) = let b = change_before stage.Linked refl (change_of (state h) e.seat.0 e.event e.reply) (inr (λ w. cc)) (state h) u p.0 p.1 p.2 in kept (b.unit, b.there, b.phase_is, b.query ∙ p.3)
    split (inr p) = met_now p

all_ends : (past h : List (Entry Meaning)) → LinkedEnds past → LinkedEnds (past ++ h)
all_ends past [] l = subst LinkedEnds (sym (append-nil past)) l
all_ends past (e ∷ es) l = subst LinkedEnds (append_assoc past (e ∷ []) es) (all_ends (past ++ e ∷ []) es (one_more_ends past e l))

pub linked_ends : (h : List (Entry Meaning)) → LinkedEnds h
linked_ends h = all_ends [] h (λ u x t. absurd (none-some x t))

pub take_is_answered : TakeIsAnswered
take_is_answered jmax h s (job.Start u) js l e = (reply.Start u, subst (λ jobs. AnswersTake h (state h) jobs (reply.Start u)) (sym e) refl)
take_is_answered jmax h s (job.Finish u) js l e = finished (linked_ends h u.0 x.0 x.1 x.2)
  where
    x : (x : UnitRow) × (slice_get (state h).units u.0 ≡ Some x) × (x.phase ≡ stage.Linked)
    x = finish_linked (state h) u.0 js (legal_is_sound jmax h l) e

    by_end : (k n : ℕ) (end : Ending) → x.0.query ≡ Some k → IsEnd h k n end → (r : Reply) × AnswersFinish h (state h) u.0 r
    by_end k n (Found bound) q ended = (reply.Finish u (finishing.Bound bound), (refl, record { unit = x.0; there = x.1; query = k; its = q; at = n; ended = ended }))
    by_end k n (Lost i) q ended = (reply.Finish u (finishing.Lost i), (refl, record { unit = x.0; there = x.1; query = k; its = q; at = n; ended = ended }))

    finished : (k : ℕ) × (x.0.query ≡ Some k) × (n : ℕ) × (end : Ending) × IsEnd h k n end → (r : Reply) × Answers jmax h (state h) s event.Take r
    finished p = let a = by_end p.0 p.2 p.3 p.1 p.4 in (a.0, subst (λ jobs. AnswersTake h (state h) jobs a.0) (sym e) a.1)
