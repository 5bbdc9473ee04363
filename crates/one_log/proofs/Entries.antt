-- What is known of an entry that the caller whose turn it is makes, and that of two such entries with one event one is the other.
use Rattle.std.proofs.Common.{◌≡◌, ℕ, ◌+◌, ◌≤◌, Bool, true, false, ◌&&◌, List, [], ◌∷◌, ◌++◌, slice_get, refl, sym, ap, ap₂, ◌∙◌, subst, arith, Some, None, nat_eq}
use Rattle.std.proofs.lemmas.Bool.{both_ways, eq-eqb, ltb-false}
use Rattle.std.specs.Option.{option_map_or}
use Rattle.orc_ids.specs.declared.ids.GenId.{GenId}
use Rattle.orc_ids.specs.declared.ids.UnitId.{UnitId}
use Rattle.orc_ids.specs.declared.place.Shape.{Shape}
use Rattle.session_model.specs.Answer.{Answers, AnswersCall, AnswersPlace, HasCause, IsFree, answer_link, called, can_emit, can_link, can_place, can_resolve, is_held, AnswersEmit}
use Rattle.session_model.specs.Calls.{Lookup, lookup_event, refusal_of}
use Rattle.session_model.specs.History.{is_full, places}
use Rattle.session_model.specs.Meaning.{Meaning, Bindings}
use Rattle.session_model.specs.Plain.{Plain, UnitRow, is_defunct, kept, unit_shape}
use Rattle.session_model.specs.State.{state}
use Rattle.session_model.specs.declared.entry.Entry.{Entry}
use Rattle.session_model.specs.declared.entry.Event.{Event}
use Rattle.session_model.specs.declared.entry.Event.TheVariants as event
use Rattle.session_model.specs.declared.entry.Finishing.TheVariants.{Bound}
use Rattle.session_model.specs.declared.entry.Reply.{Reply}
use Rattle.session_model.specs.declared.entry.Reply.TheVariants as reply
use Rattle.session_model.specs.declared.entry.Why.TheVariants as why
use Rattle.session_model.proofs.Units.{call_one}
use Rattle.session_laws.proofs.Declared.{reply_is_determined, collect_unplaced, take_unplaced, entries_are, call_cases}
use Rattle.closure_laws.proofs.Declared.{OneMore}
use Rattle.one_log.proofs.Staying.{Alive, IsHeldBy}

-- The entry is of the caller whose turn it is after the past, is a right one and has its places; a place is at the lowest base; no unit is given up for
-- want of memory, none is gone, no generator is offered; and a unit is given up for a full journal only where none of its edges is out of range.
pub record Right (jmax : ℕ) (who : List (Entry Meaning) → ℕ) (past : List (Entry Meaning)) (e : Entry Meaning) : Type 0 where
  pub seat : e.seat.0 ≡ who past
  pub answers : Answers jmax past (state past) (who past) e.event e.reply
  pub one_more : OneMore jmax past e
  pub roomy : is_full jmax (state past) (who past) e.event ≡ false
  pub lowest : (u : UnitId) (shape : Shape) (base other : ℕ) → e.event ≡ event.Place u shape → e.reply ≡ reply.Placed base → IsFree (state past).units shape other → base ≤ other
  pub spare : (u : UnitId) → e.event ≡ event.Fail u why.NoMemory → ⊥
  pub told : (before more : List (Entry Meaning)) (t : Entry Meaning) (u : UnitId) (matches : Bindings) → past ≡ before ++ t ∷ more → t.event ≡ event.Take → t.reply ≡ reply.Finish u (Bound matches) → IsHeldBy t.seat.0 (state past).units u.0 → e.event ≡ event.Fail u why.Full → refusal_of (state (before ++ t ∷ [])) u ≡ None
  pub alive : Alive (state past).units
  pub link_unoffered : (u : UnitId) (g : GenId) → e.event ≡ event.Link u → e.reply ≡ reply.Offer g → ⊥
  pub ask_unoffered : (l : Lookup) (g : GenId) → e.event ≡ lookup_event l → e.reply ≡ reply.Offer g → ⊥

-- One reply

abbrev Low : Plain → Shape → Reply → Type 0
Low m shape r = (base other : ℕ) → r ≡ reply.Placed base → IsFree m.units shape other → base ≤ other

place_one : (m : Plain) (shape : Shape) (a b : Reply) → Low m shape a → Low m shape b → AnswersPlace m shape a → AnswersPlace m shape b → a ≡ b
place_one m shape (reply.Placed x) (reply.Placed y) l k p q = ap reply.Placed (omega (arith, l x y refl q, k y x refl p))
place_one m shape (reply.Placed x) (reply.NoRoom n) l k p q = absurd (q.1 x p)
place_one m shape (reply.NoRoom n) (reply.Placed y) l k p q = absurd (p.1 y q)
place_one m shape (reply.NoRoom n) (reply.NoRoom j) l k p q = ap reply.NoRoom (p.0 ∙ sym q.0)
place_one m shape (reply.Placed x) _ l k p q = absurd q
place_one m shape (reply.NoRoom n) _ l k p q = absurd q
place_one m shape _ b l k p q = absurd p

abbrev LowAt : Plain → Event Meaning → Reply → Type 0
LowAt m (event.Place u shape) r = Low m shape r
LowAt m v r = Unit {0}

pub reply_one : (jmax : ℕ) (h : List (Entry Meaning)) (s : ℕ) (v : Event Meaning) (a b : Reply) → LowAt (state h) v a → LowAt (state h) v b → Answers jmax h (state h) s v a → Answers jmax h (state h) s v b → a ≡ b
reply_one jmax h s (event.Dylib name) a b l k x y = x ∙ sym y
reply_one jmax h s (event.SetOrder d order) a b l k x y = x.1 ∙ sym y.1
reply_one jmax h s (event.Attach d t u) a b l k x y = x.1 ∙ sym y.1
reply_one jmax h s (event.Define d t u) a b l k x y = x.1 ∙ sym y.1
reply_one jmax h s (event.Generate g) a b l k x y = x ∙ sym y
reply_one jmax h s (event.Ask order wanted lev n) a b l k x y = x.2 ∙ sym y.2
reply_one jmax h s (event.Collect q) a b l k x y = reply_is_determined jmax h s (event.Collect q) a b x y (collect_unplaced h (state h) q.0 a x) (collect_unplaced h (state h) q.0 b y)
reply_one jmax h s event.Take a b l k x y = reply_is_determined jmax h s event.Take a b x y (take_unplaced h (state h) (state h).jobs a x) (take_unplaced h (state h) (state h).jobs b y)
reply_one jmax h s (event.Place u shape) a b l k x y = call_one (called (state h) s u can_place) u (λ r c. (unit_shape r ≡ Some shape) × AnswersPlace (state h) shape c) a b (λ r p q. place_one (state h) shape a b l k p.1 q.1) x y
reply_one jmax h s (event.Resolve u) a b l k x y = call_one (called (state h) s u can_resolve) u (λ r c. c ≡ reply.Resolved) a b (λ r p q. p ∙ sym q) x y
reply_one jmax h s (event.Link u) a b l k x y = call_one (called (state h) s u can_link) u (λ r c. c ≡ answer_link (state h) u.0 r) a b (λ r p q. p ∙ sym q) x y
reply_one jmax h s (event.Emit u groups) a b l k x y = call_one (called (state h) s u can_emit) u (λ r c. AnswersEmit (state h) u.0 groups r c) a b (λ r p q. p.2 ∙ sym q.2) x y
reply_one jmax h s (event.Fail u cause) a b l k x y = call_one (called (state h) s u (λ r. true)) u (λ r c. HasCause jmax h (state h) u.0 r cause × (c ≡ reply.Failed)) a b (λ r p q. p.1 ∙ sym q.1) x y
reply_one jmax h s (event.Tracker d) a b l k x y = x ∙ sym y
reply_one jmax h s (event.MoveTracker t to) a b l k x y = x ∙ sym y
reply_one jmax h s (event.Remove t) a b l k x y = x ∙ sym y
reply_one jmax h s event.Image a b l k x y = x ∙ sym y

-- One entry

same_entry : (e d : Entry Meaning) → e.seat.0 ≡ d.seat.0 → e.event ≡ d.event → e.reply ≡ d.reply → e ≡ d
same_entry e d s v r =
    let first : e ≡ record { seat = d.seat; event = d.event; reply = e.reply } = ap₂ (λ (n : ℕ) (w : Event Meaning). record { seat = record { 0 = n }; event = w; reply = e.reply }) s v in
    let second : record { seat = d.seat; event = d.event; reply = e.reply } ≡ d = ap (λ (q : Reply). record { seat = d.seat; event = d.event; reply = q }) r in
    first ∙ second

module _ (jmax : ℕ) (who : List (Entry Meaning) → ℕ) where
  low_at : (past : List (Entry Meaning)) (v : Event Meaning) (r : Reply) → ((u : UnitId) (shape : Shape) (base other : ℕ) → v ≡ event.Place u shape → r ≡ reply.Placed base → IsFree (state past).units shape other → base ≤ other) → LowAt (state past) v r
  low_at past (event.Place u shape) r l = λ base other. l u shape base other refl
  low_at past _ r l = tt

  pub entry_one : (past : List (Entry Meaning)) (e d : Entry Meaning) → Right jmax who past e → Right jmax who past d → e.event ≡ d.event → e ≡ d
  entry_one past e d a b v = same_entry e d (a.seat ∙ sym b.seat) v
      (reply_one jmax past (who past) d.event e.reply d.reply (subst (λ w. LowAt (state past) w e.reply) v (low_at past e.event e.reply a.lowest)) (low_at past d.event d.reply b.lowest)
      (subst (λ w. Answers jmax past (state past) (who past) w e.reply) v a.answers) b.answers)

  -- A call on a unit that is answered otherwise than WrongPhase is by the seat that holds it.
  pub held_at : (past : List (Entry Meaning)) (u : UnitId) (fits : UnitRow → Bool) (P : UnitRow → Type 0) (r : Reply) → Alive (state past).units → (r ≡ reply.WrongPhase u → ⊥) → AnswersCall (called (state past) (who past) u fits) u P r →
      (x : UnitRow) × (slice_get (state past).units u.0 ≡ Some x) × (x.seat ≡ Some (who past)) × P x
  held_at past u fits P r alive right a = call_cases (state past) (who past) u fits P r a
      (λ x t d e. absurd (both_ways (is_defunct x.phase) (alive u.0 x t) d))
      (λ e w. absurd (right e))
      (λ x t d h f p. (x, t, h, p))

  -- the seat holds the unit, and the event wants a place
  pub record Wants (past : List (Entry Meaning)) (u : UnitId) (v : Event Meaning) : Type 0 where
    pub unit : UnitRow
    pub there : slice_get (state past).units u.0 ≡ Some unit
    pub holds : unit.seat ≡ Some (who past)
    pub one : places (state past) (who past) v ≡ 1

  -- a unit that is given up for a full journal leaves no place for another event
  pub full_stops : (past : List (Entry Meaning)) (u : UnitId) (e d : Entry Meaning) → Right jmax who past e → e.event ≡ event.Fail u why.Full → Right jmax who past d → Wants past u d.event → ⊥
  full_stops past u e d a is b w = call_cases (state past) (who past) u (λ x. true) (λ x. HasCause jmax past (state past) u.0 x why.Full × (e.reply ≡ reply.Failed)) e.reply
      (subst (λ v. Answers jmax past (state past) (who past) v e.reply) is a.answers)
      (λ x t gone r. both_ways (is_defunct x.phase) (a.alive u.0 x t) gone)
      (λ r wrong. both_ways (is_held (who past) w.unit) (unheld (is_held (who past) w.unit) (wrong w.unit w.there).1) (holds w.unit w.holds))
      (λ x t d' h f p. omega (arith, p.0, entries_are past, w.one, ltb-false jmax ((state past).entries + kept (state past) + places (state past) (who past) d.event) b.roomy))
    where
      holds : (x : UnitRow) → x.seat ≡ Some (who past) → is_held (who past) x ≡ true
      holds x h = ap (λ o. option_map_or (nat_eq (who past)) o false) h ∙ eq-eqb (who past) (who past) refl

      unheld : (b : Bool) → (b && true) ≡ false → b ≡ false
      unheld true e = e
      unheld false e = refl
