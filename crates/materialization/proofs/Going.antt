-- A call of a job that was answered leaves the unit at the next stage, or the job over.
use Rattle.std.proofs.Common.{◌≡◌, ℕ, Bool, true, false, not, ◌&&◌, ◌||◌, ◌==◌, List, [], ◌∷◌, ◌++◌, length, map, slice_get, ◌⊎◌, inl, inr, subst, sym, refl, ap, ◌∙◌, Option, Some, None, is_some}
use Rattle.std.specs.Bool.{if◌then◌else◌}
use Rattle.std.specs.Prelude.{is_none}
use Rattle.std.specs.Option.{option_map_or}
use Rattle.std.proofs.lemmas.Bool.{and_from, and_parts, both_ways, cases_Bool, eq-eqb, eqb-true}
use Rattle.std.proofs.lemmas.Option.{none-some}
use Rattle.orc_ids.specs.declared.groups.Group.{Group}
use Rattle.orc_ids.specs.declared.ids.GenId.{GenId}
use Rattle.orc_ids.specs.declared.ids.SeatNo.{SeatNo}
use Rattle.orc_ids.specs.declared.ids.UnitId.{UnitId}
use Rattle.orc_ids.specs.declared.place.Shape.{Shape}
use Rattle.session_model.specs.Lists.{changed_at, numbered}
use Rattle.session_model.specs.Meaning.{Meaning, Refusal}
use Rattle.session_model.specs.Plain.{Plain, UnitRow, GenRow, is_alias, unit_shape}
use Rattle.session_model.specs.State.{state}
use Rattle.session_model.specs.Answer.{AnswersPlace, AnswersEmit, HasCause, answer_link, can_place, can_resolve, can_link, can_emit, is_stage, is_place_of, is_link_of, is_emit_of}
use Rattle.session_model.specs.Calls.{AfterEmit, EndsFinish, IsFail, Links, Ends, Again, is_place, is_emit}
use Rattle.session_model.specs.Change.{change_of, changed, defined, spent, all_claimed, linked_matches, generated, without_replaced, new_unit, placed_unit, resolved_unit, resolved_row, waiting_unit, done_unit, failed_unit, target_address}
use Rattle.session_model.specs.declared.change.Change.TheVariants.{Generate, Place, Resolve, Link, Emit, Fail, LetGo}
use Rattle.session_model.specs.declared.entry.Entry.{Entry}
use Rattle.session_model.specs.declared.entry.Event.{Event}
use Rattle.session_model.specs.declared.entry.Event.TheVariants as event
use Rattle.session_model.specs.declared.entry.Reply.{Reply}
use Rattle.session_model.specs.declared.entry.Reply.TheVariants as reply
use Rattle.session_model.specs.declared.entry.Why.{Why}
use Rattle.session_model.specs.declared.entry.Why.TheVariants as why
use Rattle.session_model.specs.declared.rows.UnitPhase.TheVariants as phase
use Rattle.session_model.specs.declared.rows.Verdict.{Verdict}
use Rattle.session_laws.proofs.Declared.{changed_some, front_some, numbered_some, generate_plain, is_defunct_reply}
use Rattle.closure_laws.proofs.Declared.{OneMore, one_more, shapeless}
use Rattle.history_laws.proofs.Giving.{change_seats_none}
use Rattle.materialization.specs.Rest.{Generates, Has, HoldsOnly, IsAt, Rest, fits}
use Rattle.materialization.specs.Stages.{next}
use Rattle.materialization.specs.Laws.{GoesOn, HasReason, JobGoesOn}
use Rattle.materialization.specs.declared.stage.Stage.{Stage}
use Rattle.materialization.specs.declared.stage.Stage.TheVariants as stage
use Rattle.materialization.proofs.Called.{call_at, link_reply, is_link_reply, emit_reply, is_emit_reply, last_is}
use Rattle.materialization.proofs.Seats.{after_has, let_go_none, none_left, only_kept}

abbrev entry : SeatNo → Event Meaning → Reply → Entry Meaning
entry s v r = record { seat = s; event = v; reply = r }

-- the rest of a job before an entry, by what it is after
abbrev RestBefore : Entry Meaning → UnitId → Stage → Stage → Type 0
RestBefore e u at then' = (refusal : Option Refusal) → (at ≡ stage.Emit → refusal ≡ None) → (es : List (Entry Meaning)) → Rest u refusal then' es → Rest u refusal at (e ∷ es)

-- what is shown of a call
abbrev Goes : ℕ → List (Entry Meaning) → SeatNo → UnitId → Stage → Event Meaning → Reply → Type 0
Goes jmax h s u at v r = GoesOn jmax h (entry s v r) u at (next at r)

goes_from : (jmax : ℕ) (h : List (Entry Meaning)) (e : Entry Meaning) (u : UnitId) (at then' : Stage) → OneMore jmax h e →
    Has (changed (change_of (state h) e.seat.0 e.event e.reply) (state h)) e.seat.0 u.0 then' → HasReason jmax (h ++ e ∷ []) e.seat.0 u then' → RestBefore e u at then' → GoesOn jmax h e u at then'
goes_from jmax h e u at then' one has reason rest = record { has = after_has jmax h e one u.0 then' has; reason = reason; rest = rest }

-- The unit is gone

gone_goes : (jmax : ℕ) (h : List (Entry Meaning)) (s : SeatNo) (v : Event Meaning) (r : Reply) (u : UnitId) (at : Stage) → r ≡ reply.Defunct u → OneMore jmax h (entry s v r) → HoldsOnly (state h) s.0 u.0 →
    change_of (state h) s.0 v (reply.Defunct u) ≡ LetGo (record { 0 = s.0 }) u → next at (reply.Defunct u) ≡ stage.Over → RestBefore (entry s v (reply.Defunct u)) u at stage.Over → Goes jmax h s u at v r
gone_goes jmax h s v r u at e one only lets over rest = subst (Goes jmax h s u at v) (sym e)
    (subst (GoesOn jmax h (entry s v (reply.Defunct u)) u at) (sym over)
    (goes_from jmax h (entry s v (reply.Defunct u)) u at stage.Over (subst (λ q. OneMore jmax h (entry s v q)) e one)
    (subst (λ c. Has (changed c (state h)) s.0 u.0 stage.Over) (sym lets) (let_go_none (state h) s.0 u only)) tt rest))

-- Placing

placed_fits : (x : UnitRow) (base : ℕ) → can_place x ≡ true → fits stage.Resolve (placed_unit base x) ≡ true
placed_fits x base f = split (cases_Bool (is_alias x))
  where
    split : (is_alias x ≡ true) ⊎ (is_alias x ≡ false) → fits stage.Resolve (placed_unit base x) ≡ true
    split (inl a) = shapeless x a (and_parts (is_stage phase.Started x.phase) (is_some (unit_shape x)) f).1
    split (inr a) = ap (λ b. (if b then is_stage phase.Finishing phase.Placed && is_some x.bound && is_none (Some base) else true) && not b) a

placed_goes : (jmax : ℕ) (h : List (Entry Meaning)) (s : SeatNo) (u : UnitId) (shape : Shape) (r : Reply) → OneMore jmax h (entry s (event.Place u shape) r) → HoldsOnly (state h) s.0 u.0 →
    (x : UnitRow) → slice_get (state h).units u.0 ≡ Some x → x.seat ≡ Some s.0 → can_place x ≡ true → AnswersPlace (state h) shape r → Goes jmax h s u stage.Place (event.Place u shape) r
placed_goes jmax h s u shape (reply.Placed base) one only x t k f a = goes_from jmax h (entry s (event.Place u shape) (reply.Placed base)) u stage.Place stage.Resolve one (
  record { unit = placed_unit base x; there = changed_some u.0 (placed_unit base) (state h).units x t; seat = k; how = inr (placed_fits x base f) },
  only_kept (state h) (changed (Place u base) (state h)) s.0 u.0 (change_seats_none (state h) s.0 (Place u base) tt) only,
)
    tt (λ refusal n es p. inr (eq-eqb u.0 u.0 refl, p))
placed_goes jmax h s u shape (reply.NoRoom need) one only x t k f a = goes_from jmax h (entry s (event.Place u shape) (reply.NoRoom need)) u stage.Place (stage.Fail (why.NoRoom need)) one
    (record { unit = x; there = t; seat = k; how = inr refl }, only)
    (λ y c. last_is (is_place_of u.0) h (entry s (event.Place u shape) (reply.NoRoom need)) (eq-eqb u.0 u.0 refl) refl)
    (λ refusal n es p. inr (eq-eqb u.0 u.0 refl, p))
placed_goes jmax h s u shape _ one only x t k f a = absurd a

place_goes : (jmax : ℕ) (h : List (Entry Meaning)) (s : SeatNo) (u : UnitId) (shape : Shape) (r : Reply) → OneMore jmax h (entry s (event.Place u shape) r) → IsAt (state h) s.0 u.0 stage.Place → HoldsOnly (state h) s.0 u.0 →
    Goes jmax h s u stage.Place (event.Place u shape) r
place_goes jmax h s u shape r one b only = call_at (state h) s.0 u stage.Place can_place (λ x. (unit_shape x ≡ Some shape) × AnswersPlace (state h) shape r) r b (λ x f. f) one.answers
    (λ e. gone_goes jmax h s (event.Place u shape) r u stage.Place e one only refl refl (λ refusal n es p. inr (eq-eqb u.0 u.0 refl, p)))
    (λ x t k f p. placed_goes jmax h s u shape r one only x t k f p.1)

-- Resolving

resolved_there : (m : Plain) (s : ℕ) (u : UnitId) (at : Stage) (x : UnitRow) → slice_get m.units u.0 ≡ Some x → x.seat ≡ Some s → fits at (resolved_unit x) ≡ true → IsAt (changed (Resolve u) m) s u.0 at
resolved_there m s u at x t k f = subst (λ o. IsAt (option_map_or (λ (y : UnitRow). record m { rows = map (resolved_row u.0 (resolved_unit y)) m.rows; units = changed_at u.0 resolved_unit m.units }) o m) s u.0 at) (sym t)
    (record { unit = resolved_unit x; there = changed_some u.0 resolved_unit m.units x t; seat = k; how = inr f })

-- a unit is linked once it has its addresses, and an alias emitted
resolved_links : (x : UnitRow) → fits stage.Resolve x ≡ true → fits stage.Link (resolved_unit x) ≡ true
resolved_links x f = split (is_alias x) (and_parts (can_resolve x) (not (is_alias x)) f).1
  where
    split : (b : Bool) → not b ≡ true → is_stage (if b then phase.Started else phase.Linking) (if b then x.phase else phase.Linking) ≡ true
    split true e = absurd (both_ways false refl e)
    split false e = refl

resolved_emits : (x : UnitRow) → fits stage.ResolveAlias x ≡ true → fits stage.Emit (resolved_unit x) ≡ true
resolved_emits x f = let p = and_parts (can_resolve x) (is_alias x) f in split (is_alias x) p.1 p.0
  where
    split : (b : Bool) → b ≡ true → (if b then is_stage phase.Finishing x.phase && is_some x.bound && is_none x.base else is_stage phase.Placed x.phase || is_stage phase.Started x.phase && is_none (unit_shape x)) ≡ true →
        (is_stage phase.Finishing (if b then x.phase else phase.Linking) && is_some x.bound && (not b || is_some (if b then Some (target_address x) else x.base))) ≡ true
    split true e c = and_from (is_stage phase.Finishing x.phase && is_some x.bound) true (and_parts (is_stage phase.Finishing x.phase && is_some x.bound) (is_none x.base) c).0 refl
    split false e c = absurd (both_ways false refl e)

resolved_only : (m : Plain) (s : ℕ) (u : UnitId) → HoldsOnly m s u.0 → HoldsOnly (changed (Resolve u) m) s u.0
resolved_only m s u only = only_kept m (changed (Resolve u) m) s u.0 (change_seats_none m s (Resolve u) tt) only

-- what follows once the unit has its addresses, or the alias its own
abbrev IsResolved : ℕ → List (Entry Meaning) → SeatNo → UnitId → Stage → Type 0
IsResolved jmax h s u at = OneMore jmax h (entry s (event.Resolve u) reply.Resolved) → HoldsOnly (state h) s.0 u.0 →
    (x : UnitRow) → slice_get (state h).units u.0 ≡ Some x → x.seat ≡ Some s.0 → fits at x ≡ true → Goes jmax h s u at (event.Resolve u) reply.Resolved

addressed_goes : (jmax : ℕ) (h : List (Entry Meaning)) (s : SeatNo) (u : UnitId) → IsResolved jmax h s u stage.Resolve
addressed_goes jmax h s u one only x t k f = goes_from jmax h (entry s (event.Resolve u) reply.Resolved) u stage.Resolve stage.Link one
    (resolved_there (state h) s.0 u stage.Link x t k (resolved_links x f), resolved_only (state h) s.0 u only) tt (λ refusal n es p. inr (refl, p))

alias_goes : (jmax : ℕ) (h : List (Entry Meaning)) (s : SeatNo) (u : UnitId) → IsResolved jmax h s u stage.ResolveAlias
alias_goes jmax h s u one only x t k f = goes_from jmax h (entry s (event.Resolve u) reply.Resolved) u stage.ResolveAlias stage.Emit one
    (resolved_there (state h) s.0 u stage.Emit x t k (resolved_emits x f), resolved_only (state h) s.0 u only) tt (λ refusal n es p. inr (refl, p))

resolve_goes : (jmax : ℕ) (h : List (Entry Meaning)) (s : SeatNo) (u : UnitId) (at : Stage) (r : Reply) → ((x : UnitRow) → fits at x ≡ true → can_resolve x ≡ true) → next at (reply.Defunct u) ≡ stage.Over →
    RestBefore (entry s (event.Resolve u) (reply.Defunct u)) u at stage.Over → IsResolved jmax h s u at →
    OneMore jmax h (entry s (event.Resolve u) r) → IsAt (state h) s.0 u.0 at → HoldsOnly (state h) s.0 u.0 → Goes jmax h s u at (event.Resolve u) r
resolve_goes jmax h s u at r may over gone resolved one b only = call_at (state h) s.0 u at can_resolve (λ x. r ≡ reply.Resolved) r b may one.answers
    (λ e. gone_goes jmax h s (event.Resolve u) r u at e one only refl over gone)
    (λ x t k f e. subst (Goes jmax h s u at (event.Resolve u)) (sym e) (resolved (subst (λ q. OneMore jmax h (entry s (event.Resolve u) q)) e one) only x t k f))

-- Linking

offered_rest : (s : SeatNo) (u : UnitId) (g : GenId) (es : List (Entry Meaning)) → Generates u g es → Links u (entry s (event.Link u) (reply.Offer g) ∷ es)
offered_rest s u g [] c = absurd c
offered_rest s u g (f ∷ fs) (inl c) = Ends (entry s (event.Link u) (reply.Offer g)) (f ∷ fs) refl c
offered_rest s u g (f ∷ fs) (inr p) = Again (entry s (event.Link u) (reply.Offer g)) f g fs refl refl p.0 p.1

-- a unit that was linked waits, and no seat has it
linked_none : (m : Plain) (s : ℕ) (u : UnitId) → HoldsOnly m s u.0 → Has (changed (Link u (linked_matches m u.0)) m) s u.0 stage.Over
linked_none m s u only = none_left m (changed (Link u (linked_matches m u.0)) m) s u.0 (waiting_unit (length m.queries)) (all_claimed (linked_matches m u.0) m).units refl (λ x e. none-some s e) (change_seats_none m s (Link u (linked_matches m u.0)) tt) only

linked_goes : (jmax : ℕ) (h : List (Entry Meaning)) (s : SeatNo) (u : UnitId) (r : Reply) → OneMore jmax h (entry s (event.Link u) r) → HoldsOnly (state h) s.0 u.0 →
    (x : UnitRow) → slice_get (state h).units u.0 ≡ Some x → x.seat ≡ Some s.0 → can_link x ≡ true → is_link_reply r ≡ true → Goes jmax h s u stage.Link (event.Link u) r
linked_goes jmax h s u (reply.Offer g) one only x t k f a = goes_from jmax h (entry s (event.Link u) (reply.Offer g)) u stage.Link (stage.Generate g) one
    (record { unit = x; there = t; seat = k; how = inr f }, only) tt (λ refusal n es p. offered_rest s u g es p)
linked_goes jmax h s u (reply.InError i) one only x t k f a = goes_from jmax h (entry s (event.Link u) (reply.InError i)) u stage.Link (stage.Fail (why.InError i)) one
    (record { unit = x; there = t; seat = k; how = inr refl }, only)
    (λ y c. inl (last_is (is_link_of u.0) h (entry s (event.Link u) (reply.InError i)) (eq-eqb u.0 u.0 refl) refl))
    (λ refusal n es p. Ends (entry s (event.Link u) (reply.InError i)) es refl p)
linked_goes jmax h s u (reply.Missing name) one only x t k f a = goes_from jmax h (entry s (event.Link u) (reply.Missing name)) u stage.Link (stage.Fail (why.Missing name)) one
    (record { unit = x; there = t; seat = k; how = inr refl }, only)
    (λ y c. last_is (is_link_of u.0) h (entry s (event.Link u) (reply.Missing name)) (eq-eqb u.0 u.0 refl) refl)
    (λ refusal n es p. Ends (entry s (event.Link u) (reply.Missing name)) es refl p)
linked_goes jmax h s u (reply.AliasCycle i) one only x t k f a = goes_from jmax h (entry s (event.Link u) (reply.AliasCycle i)) u stage.Link (stage.Fail (why.AliasCycle i)) one
    (record { unit = x; there = t; seat = k; how = inr refl }, only)
    (λ y c. last_is (is_link_of u.0) h (entry s (event.Link u) (reply.AliasCycle i)) (eq-eqb u.0 u.0 refl) refl)
    (λ refusal n es p. Ends (entry s (event.Link u) (reply.AliasCycle i)) es refl p)
linked_goes jmax h s u (reply.Done q) one only x t k f a = goes_from jmax h (entry s (event.Link u) (reply.Done q)) u stage.Link stage.Over one
    (linked_none (state h) s.0 u only) tt (λ refusal n es p. Ends (entry s (event.Link u) (reply.Done q)) es refl p)
linked_goes jmax h s u (reply.Pending q) one only x t k f a = goes_from jmax h (entry s (event.Link u) (reply.Pending q)) u stage.Link stage.Over one
    (linked_none (state h) s.0 u only) tt (λ refusal n es p. Ends (entry s (event.Link u) (reply.Pending q)) es refl p)
linked_goes jmax h s u _ one only x t k f a = absurd (both_ways false refl a)

link_goes : (jmax : ℕ) (h : List (Entry Meaning)) (s : SeatNo) (u : UnitId) (r : Reply) → OneMore jmax h (entry s (event.Link u) r) → IsAt (state h) s.0 u.0 stage.Link → HoldsOnly (state h) s.0 u.0 →
    Goes jmax h s u stage.Link (event.Link u) r
link_goes jmax h s u r one b only = call_at (state h) s.0 u stage.Link can_link (λ x. r ≡ answer_link (state h) u.0 x) r b (λ x f. f) one.answers
    (λ e. gone_goes jmax h s (event.Link u) r u stage.Link e one only refl refl (λ refusal n es p. Ends (entry s (event.Link u) (reply.Defunct u)) es refl p))
    (λ x t k f e. linked_goes jmax h s u r one only x t k f (ap is_link_reply e ∙ link_reply (state h) u.0 x))

-- Using a generator

-- the unit is as it was, but that it may have lost names
defined_at : (m : Plain) (d t : ℕ) (v : Meaning) (vs : List Verdict) (s u : ℕ) (b : IsAt m s u stage.Link) → IsAt (defined d t v vs m) s u stage.Link
defined_at m d t v vs s u b = record {
  unit = without_replaced m.rows vs u b.unit;
  there = front_some (numbered (without_replaced m.rows vs) 0 m.units) (new_unit t v vs ∷ []) u (without_replaced m.rows vs u b.unit) (numbered_some (without_replaced m.rows vs) m.units u b.unit b.there);
  seat = b.seat;
  how = b.how;
}

generated_at : (m : Plain) (g : GenId) (found : List Verdict) (s u : ℕ) → IsAt m s u stage.Link → IsAt (changed (Generate g found) m) s u stage.Link
generated_at m g found s u b = split (slice_get m.generators g.0)
  where
    split : (o : Option GenRow) → IsAt (option_map_or (λ x. spent g.0 (defined x.dylib x.tracker x.meaning found m)) o m) s u stage.Link
    split None = b
    split (Some x) = let d = defined_at m x.dylib x.tracker x.meaning found s u b in record { unit = d.unit; there = d.there; seat = d.seat; how = d.how }

-- what a use of a generator changes
generate_change : (m : Plain) (s : ℕ) (u : ℕ) (g : GenId) (r : Reply) → is_defunct_reply r ≡ false → IsAt m s u stage.Link → HoldsOnly m s u → Has (changed (change_of m s (event.Generate g) r) m) s u stage.Link
generate_change m s u g (reply.Defined v first count) d b only = (generated_at m g (generated m g.0) s u b, only_kept m (changed (Generate g (generated m g.0)) m) s u (change_seats_none m s (Generate g (generated m g.0)) tt) only)
generate_change m s u g reply.TooMany d b only = (record { unit = b.unit; there = b.there; seat = b.seat; how = b.how }, only)
generate_change m s u g (reply.Duplicate name i) d b only = (record { unit = b.unit; there = b.there; seat = b.seat; how = b.how }, only)
generate_change m s u g (reply.Defunct v) d b only = absurd (both_ways true d refl)
generate_change m s u g _ d b only = (b, only)

generate_goes : (jmax : ℕ) (h : List (Entry Meaning)) (s : SeatNo) (u : UnitId) (g : GenId) (r : Reply) → OneMore jmax h (entry s (event.Generate g) r) → IsAt (state h) s.0 u.0 (stage.Generate g) → HoldsOnly (state h) s.0 u.0 →
    GoesOn jmax h (entry s (event.Generate g) r) u (stage.Generate g) stage.Link
generate_goes jmax h s u g r one b only = goes_from jmax h (entry s (event.Generate g) r) u (stage.Generate g) stage.Link one
    (generate_change (state h) s.0 u.0 g r (ap is_defunct_reply one.answers ∙ generate_plain (state h) g) (record { unit = b.unit; there = b.there; seat = b.seat; how = b.how }) only)
    tt (λ refusal n es p. inr (refl, p))

-- Emitting

emit_rest : (s : SeatNo) (u : UnitId) (groups : List Group) (r : Reply) (then' : Stage) → ((refusal : Option Refusal) (es : List (Entry Meaning)) → Rest u refusal then' es → AfterEmit u r es) → RestBefore (entry s (event.Emit u groups) r) u stage.Emit then'
emit_rest s u groups r then' follows refusal n es p = inr (subst (λ q. EndsFinish u q (entry s (event.Emit u groups) r ∷ es)) (sym (n refl)) (eq-eqb u.0 u.0 refl, follows refusal es p))

emitted_goes : (jmax : ℕ) (h : List (Entry Meaning)) (s : SeatNo) (u : UnitId) (groups : List Group) (r : Reply) → OneMore jmax h (entry s (event.Emit u groups) r) → HoldsOnly (state h) s.0 u.0 →
    (x : UnitRow) → slice_get (state h).units u.0 ≡ Some x → x.seat ≡ Some s.0 → is_emit_reply r ≡ true → Goes jmax h s u stage.Emit (event.Emit u groups) r
emitted_goes jmax h s u groups reply.Emitted one only x t k a = goes_from jmax h (entry s (event.Emit u groups) reply.Emitted) u stage.Emit stage.Over one
    (none_left (state h) (changed (Emit u groups) (state h)) s.0 u.0 done_unit (state h).units refl (λ y e. none-some s.0 e) (change_seats_none (state h) s.0 (Emit u groups) tt) only)
    tt (emit_rest s u groups reply.Emitted stage.Over (λ refusal es p. p))
emitted_goes jmax h s u groups (reply.BadDep i) one only x t k a = goes_from jmax h (entry s (event.Emit u groups) (reply.BadDep i)) u stage.Emit (stage.Fail (why.BadDep i)) one
    (record { unit = x; there = t; seat = k; how = inr refl }, only)
    (λ y c. last_is (is_emit_of u.0) h (entry s (event.Emit u groups) (reply.BadDep i)) (eq-eqb u.0 u.0 refl) refl)
    (emit_rest s u groups (reply.BadDep i) (stage.Fail (why.BadDep i)) (λ refusal es p. p))
emitted_goes jmax h s u groups _ one only x t k a = absurd (both_ways false refl a)

emit_goes : (jmax : ℕ) (h : List (Entry Meaning)) (s : SeatNo) (u : UnitId) (groups : List Group) (r : Reply) → OneMore jmax h (entry s (event.Emit u groups) r) → IsAt (state h) s.0 u.0 stage.Emit → HoldsOnly (state h) s.0 u.0 →
    Goes jmax h s u stage.Emit (event.Emit u groups) r
emit_goes jmax h s u groups r one b only = call_at (state h) s.0 u stage.Emit can_emit (λ x. AnswersEmit (state h) u.0 groups x r) r b (λ x f. f) one.answers
    (λ e. gone_goes jmax h s (event.Emit u groups) r u stage.Emit e one only refl refl (emit_rest s u groups (reply.Defunct u) stage.Over (λ refusal es p. p)))
    (λ x t k f p. emitted_goes jmax h s u groups r one only x t k (ap is_emit_reply p.2 ∙ emit_reply (state h).rows groups))

-- Giving up

fail_rest : (s : SeatNo) (u : UnitId) (cause : Why) (r : Reply) → RestBefore (entry s (event.Fail u cause) r) u (stage.Fail cause) stage.Over
fail_rest s u cause r refusal n es p = subst (λ l. IsFail u cause (entry s (event.Fail u cause) r ∷ l)) (sym p) refl

fail_goes : (jmax : ℕ) (h : List (Entry Meaning)) (s : SeatNo) (u : UnitId) (cause : Why) (r : Reply) → OneMore jmax h (entry s (event.Fail u cause) r) → IsAt (state h) s.0 u.0 (stage.Fail cause) → HoldsOnly (state h) s.0 u.0 →
    GoesOn jmax h (entry s (event.Fail u cause) r) u (stage.Fail cause) stage.Over
fail_goes jmax h s u cause r one b only = call_at (state h) s.0 u (stage.Fail cause) (λ x. true) (λ x. HasCause jmax h (state h) u.0 x cause × (r ≡ reply.Failed)) r b (λ x f. refl) one.answers
    (λ e. gone_goes jmax h s (event.Fail u cause) r u (stage.Fail cause) e one only refl refl (fail_rest s u cause (reply.Defunct u)))
    (λ x t k f p. goes_from jmax h (entry s (event.Fail u cause) r) u (stage.Fail cause) stage.Over one
    (subst (λ q. Has (changed (change_of (state h) s.0 (event.Fail u cause) q) (state h)) s.0 u.0 stage.Over) (sym p.1)
    (none_left (state h) (changed (Fail u) (state h)) s.0 u.0 failed_unit (state h).units refl (λ y e. none-some s.0 e) (change_seats_none (state h) s.0 (Fail u) tt) only))
    tt (fail_rest s u cause r))

-- The call of a stage

abbrev unit_of : ℕ → UnitId
unit_of n = record { 0 = n }

same_unit : (v u : UnitId) → (v.0 == u.0) ≡ true → u ≡ v
same_unit v u e = ap unit_of (sym (eqb-true v.0 u.0 e))

-- what is shown of a call that is written out
called_goes : (jmax : ℕ) (h : List (Entry Meaning)) (e : Entry Meaning) (u : UnitId) (at then' : Stage) (v : Event Meaning) → OneMore jmax h e → e.event ≡ v → (OneMore jmax h (entry e.seat v e.reply) → GoesOn jmax h (entry e.seat v e.reply) u at then') → GoesOn jmax h e u at then'
called_goes jmax h e u at then' v one is goes = subst (λ w. OneMore jmax h (entry e.seat w e.reply) → GoesOn jmax h (entry e.seat w e.reply) u at then') (sym is) goes one

place_called : (jmax : ℕ) (h : List (Entry Meaning)) (s : SeatNo) (u : UnitId) (v : Event Meaning) (r : Reply) → is_place u v ≡ true → OneMore jmax h (entry s v r) → IsAt (state h) s.0 u.0 stage.Place → HoldsOnly (state h) s.0 u.0 → Goes jmax h s u stage.Place v r
place_called jmax h s u (event.Place w shape) r c one b only = called_goes jmax h (entry s (event.Place w shape) r) u stage.Place (next stage.Place r) (event.Place u shape) one
    (ap (λ (n : UnitId). event.Place n shape) (sym (same_unit w u c))) (λ o. place_goes jmax h s u shape r o b only)
place_called jmax h s u _ r c one b only = absurd (both_ways false refl c)

emit_called : (jmax : ℕ) (h : List (Entry Meaning)) (s : SeatNo) (u : UnitId) (v : Event Meaning) (r : Reply) → is_emit u v ≡ true → OneMore jmax h (entry s v r) → IsAt (state h) s.0 u.0 stage.Emit → HoldsOnly (state h) s.0 u.0 → Goes jmax h s u stage.Emit v r
emit_called jmax h s u (event.Emit w groups) r c one b only = called_goes jmax h (entry s (event.Emit w groups) r) u stage.Emit (next stage.Emit r) (event.Emit u groups) one
    (ap (λ (n : UnitId). event.Emit n groups) (sym (same_unit w u c))) (λ o. emit_goes jmax h s u groups r o b only)
emit_called jmax h s u _ r c one b only = absurd (both_ways false refl c)

pub job_goes_on : JobGoesOn
job_goes_on jmax h e u stage.Place l has c = place_called jmax h e.seat u e.event e.reply c (one_more jmax h e l) has.0 has.1
job_goes_on jmax h e u stage.Resolve l has c = called_goes jmax h e u stage.Resolve (next stage.Resolve e.reply) (event.Resolve u) (one_more jmax h e l) c
    (λ one. resolve_goes jmax h e.seat u stage.Resolve e.reply (λ x f. (and_parts (can_resolve x) (not (is_alias x)) f).0) refl (λ refusal n es p. inr (refl, p)) (addressed_goes jmax h e.seat u) one has.0 has.1)
job_goes_on jmax h e u stage.Link l has c = called_goes jmax h e u stage.Link (next stage.Link e.reply) (event.Link u) (one_more jmax h e l) c (λ one. link_goes jmax h e.seat u e.reply one has.0 has.1)
job_goes_on jmax h e u (stage.Generate g) l has c = called_goes jmax h e u (stage.Generate g) stage.Link (event.Generate g) (one_more jmax h e l) c (λ one. generate_goes jmax h e.seat u g e.reply one has.0 has.1)
job_goes_on jmax h e u stage.ResolveAlias l has c = called_goes jmax h e u stage.ResolveAlias (next stage.ResolveAlias e.reply) (event.Resolve u) (one_more jmax h e l) c
    (λ one. resolve_goes jmax h e.seat u stage.ResolveAlias e.reply (λ x f. (and_parts (can_resolve x) (is_alias x) f).0) refl (λ refusal n es p. inr (refl, p)) (alias_goes jmax h e.seat u) one has.0 has.1)
job_goes_on jmax h e u stage.Emit l has c = emit_called jmax h e.seat u e.event e.reply c (one_more jmax h e l) has.0 has.1
job_goes_on jmax h e u (stage.Fail cause) l has c = called_goes jmax h e u (stage.Fail cause) stage.Over (event.Fail u cause) (one_more jmax h e l) c (λ one. fail_goes jmax h e.seat u cause e.reply one has.0 has.1)
job_goes_on jmax h e u stage.Over l has c = absurd c
