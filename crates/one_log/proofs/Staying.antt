-- Units that are not removed, and one that a seat took and still holds.
use Rattle.std.proofs.Common.{◌≡◌, ℕ, Bool, true, false, ◌==◌, map, List, [], ◌∷◌, ◌++◌, length, slice_get, ◌⊎◌, inl, inr, refl, sym, ap, ◌∙◌, subst, Option, Some, None}
use Rattle.std.specs.Option.{option_map_or}
use Rattle.std.specs.Bool.{if◌then◌else◌}
use Rattle.std.proofs.lemmas.Bool.{both_ways, cases_eq}
use Rattle.orc_ids.specs.declared.ids.InstId.{InstId}
use Rattle.orc_ids.specs.declared.ids.UnitId.{UnitId}
use Rattle.session_model.specs.Change.{all_claimed, change_of, changed, claimed, claimed_for, defined, done_unit, failed_unit, finishing_unit, gone_tracker, let_go_unit, linked_unit, listed_unit, moved_generator, moved_unit, new_unit, placed_unit, resolved_row, resolved_unit, settled, spent, started_unit, waiting_unit, without_replaced}
use Rattle.session_model.specs.Lists.{changed_at, numbered}
use Rattle.session_model.specs.Meaning.{Meaning}
use Rattle.session_model.specs.Plain.{Plain, GenRow, UnitRow, empty, is_alias, is_defunct, is_unsearched}
use Rattle.session_model.specs.State.{after, state}
use Rattle.session_model.specs.declared.change.Change.{Change}
use Rattle.session_model.specs.declared.change.Change.TheVariants.{Nothing, MakeDylib, MakeTracker, SetOrder, Attach, Define, Generate, Spend, Ask, Start, Finish, Place, Resolve, Link, Emit, Fail, Move, Remove, LetGo}
use Rattle.session_model.specs.declared.entry.Entry.{Entry}
use Rattle.session_model.specs.declared.entry.Event.{Event}
use Rattle.session_model.specs.declared.entry.Event.TheVariants as event
use Rattle.session_model.specs.declared.entry.Finishing.{Finishing}
use Rattle.session_model.specs.declared.entry.Reply.{Reply}
use Rattle.session_model.specs.declared.entry.Reply.TheVariants as reply
use Rattle.session_model.specs.declared.rows.InstRow.{InstRow}
use Rattle.session_model.specs.declared.rows.Job.{Job}
use Rattle.session_model.specs.declared.rows.Job.TheVariants as job
use Rattle.session_model.specs.declared.rows.UnitPhase.TheVariants as stage
use Rattle.session_model.specs.declared.rows.Verdict.{Verdict}
use Rattle.session_laws.proofs.Declared.{state_from_push, changed_cases, changed_elsewhere, changed_some, mapped_parts, numbered_parts, pushed_cases, Guard, finish_linked, chosen, settling_keeps}
use Rattle.closure_laws.proofs.Declared.{OneMore}

-- No unit is gone

abbrev pub Alive : List UnitRow → Type 0
Alive units = (u : ℕ) (x : UnitRow) → slice_get units u ≡ Some x → is_defunct x.phase ≡ false

abbrev pub is_removal : Event Meaning → Bool
is_removal (event.Remove t) = true
is_removal v = false

abbrev is_removing : Change Meaning → Bool
is_removing (Remove t) = true
is_removing c = false

unremoving : (m : Plain) (s : ℕ) (v : Event Meaning) (r : Reply) → is_removal v ≡ false → is_removing (change_of m s v r) ≡ false
unremoving m s (event.Dylib name) (reply.Defunct u) n = refl
unremoving m s (event.Dylib name) _ n = refl
unremoving m s (event.SetOrder d order) (reply.Defunct u) n = refl
unremoving m s (event.SetOrder d order) _ n = refl
unremoving m s (event.Attach d t u) (reply.Defunct v) n = refl
unremoving m s (event.Attach d t u) _ n = refl
unremoving m s (event.Define d t u) (reply.Defunct v) n = refl
unremoving m s (event.Define d t u) _ n = refl
unremoving m s (event.Generate g) (reply.Defunct v) n = refl
unremoving m s (event.Generate g) _ n = refl
unremoving m s (event.Ask order wanted lev n0) (reply.Defunct v) n = refl
unremoving m s (event.Ask order wanted lev n0) _ n = refl
unremoving m s (event.Collect q) (reply.Defunct v) n = refl
unremoving m s (event.Collect q) _ n = refl
unremoving m s event.Take (reply.Defunct v) n = refl
unremoving m s event.Take _ n = refl
unremoving m s (event.Place u shape) (reply.Defunct v) n = refl
unremoving m s (event.Place u shape) _ n = refl
unremoving m s (event.Resolve u) (reply.Defunct v) n = refl
unremoving m s (event.Resolve u) _ n = refl
unremoving m s (event.Link u) (reply.Defunct v) n = refl
unremoving m s (event.Link u) _ n = refl
unremoving m s (event.Emit u groups) (reply.Defunct v) n = refl
unremoving m s (event.Emit u groups) _ n = refl
unremoving m s (event.Fail u cause) (reply.Defunct v) n = refl
unremoving m s (event.Fail u cause) _ n = refl
unremoving m s (event.Tracker d) (reply.Defunct v) n = refl
unremoving m s (event.Tracker d) _ n = refl
unremoving m s (event.MoveTracker t to) (reply.Defunct v) n = refl
unremoving m s (event.MoveTracker t to) _ n = refl
unremoving m s event.Image (reply.Defunct v) n = refl
unremoving m s event.Image _ n = refl
unremoving m s (event.Remove t) r n = absurd (both_ways true n refl)

alive_changed_at : (k : ℕ) (f : UnitRow → UnitRow) (units : List UnitRow) → ((x : UnitRow) → is_defunct x.phase ≡ false → is_defunct (f x).phase ≡ false) → Alive units → Alive (changed_at k f units)
alive_changed_at k f units keeps old u y e = split (changed_cases k f units u y e)
  where
    split : ((u ≡ k) × ((x : UnitRow) × (slice_get units u ≡ Some x) × (y ≡ f x))) ⊎ ((u ≡ k → ⊥) × (slice_get units u ≡ Some y)) → is_defunct y.phase ≡ false
    split (inl p) = ap (λ (z : UnitRow). is_defunct z.phase) p.1.2 ∙ keeps p.1.0 (old u p.1.0 p.1.1)
    split (inr p) = old u y p.1

alive_mapped : (f : UnitRow → UnitRow) (units : List UnitRow) → ((x : UnitRow) → is_defunct x.phase ≡ false → is_defunct (f x).phase ≡ false) → Alive units → Alive (map f units)
alive_mapped f units keeps old u y e = let p = mapped_parts f units u y e in ap (λ (z : UnitRow). is_defunct z.phase) p.2 ∙ keeps p.0 (old u p.0 p.1)

alive_defined : (m : Plain) (d t : ℕ) (u : Meaning) (found : List Verdict) → Alive m.units → Alive (defined d t u found m).units
alive_defined m d t u found old k y e = split (pushed_cases (numbered (without_replaced m.rows found) 0 m.units) (new_unit t u found) k y e)
  where
    split : (slice_get (numbered (without_replaced m.rows found) 0 m.units) k ≡ Some y) ⊎ ((k ≡ length (numbered (without_replaced m.rows found) 0 m.units)) × (y ≡ new_unit t u found)) → is_defunct y.phase ≡ false
    split (inl a) = let p = numbered_parts (without_replaced m.rows found) m.units k y a in ap (λ (z : UnitRow). is_defunct z.phase) p.2 ∙ old k p.0 p.1
    split (inr a) = ap (λ (z : UnitRow). is_defunct z.phase) a.1

alive_claimed : (i : InstId) (m : Plain) → Alive m.units → Alive (claimed_for i m).units
alive_claimed i m old = split (slice_get m.rows i.0)
  where
    split : (o : Option InstRow) → Alive (option_map_or (λ (r : InstRow). if is_unsearched r.phase then claimed r.unit.0 m else m) o m).units
    split None = old
    split (Some r) = chosen (λ (n : Plain). Alive n.units) (is_unsearched r.phase) (claimed r.unit.0 m) m (λ b. alive_changed_at r.unit.0 listed_unit m.units (λ x a. refl) old) (λ b. old)

alive_claims : (os : List (Option InstId)) (m : Plain) → Alive m.units → Alive (all_claimed os m).units
alive_claims [] m old = old
alive_claims (None ∷ os) m old = alive_claims os m old
alive_claims (Some i ∷ os) m old = alive_claims os (claimed_for i m) (alive_claimed i m old)

alive_resolved : (x : UnitRow) → is_defunct x.phase ≡ false → is_defunct (resolved_unit x).phase ≡ false
alive_resolved x a = chosen (λ p. is_defunct p ≡ false) (is_alias x) x.phase stage.Linking (λ b. a) (λ b. refl)

alive_changed : (m : Plain) (c : Change Meaning) → is_removing c ≡ false → Alive m.units → Alive (changed c m).units
alive_changed m Nothing n old = old
alive_changed m (MakeDylib name) n old = old
alive_changed m (MakeTracker d) n old = old
alive_changed m (SetOrder d order) n old = old
alive_changed m (Attach d t u) n old = old
alive_changed m (Define d t u found) n old = alive_defined m d.0 t.0 u found old
alive_changed m (Generate k found) n old = split (slice_get m.generators k.0)
  where
    split : (o : Option GenRow) → Alive (option_map_or (λ (x : GenRow). spent k.0 (defined x.dylib x.tracker x.meaning found m)) o m).units
    split None = old
    split (Some x) = alive_defined m x.dylib x.tracker x.meaning found old
alive_changed m (Spend k) n old = old
alive_changed m (Ask found lev n0) n old = alive_claims found m old
alive_changed m (Start t u) n old = alive_changed_at u.0 (started_unit t.0) m.units (λ x a. refl) old
alive_changed m (Finish t u how) n old = alive_changed_at u.0 (finishing_unit t.0 how) m.units (λ x a. refl) old
alive_changed m (Place u base) n old = alive_changed_at u.0 (placed_unit base) m.units (λ x a. refl) old
alive_changed m (Resolve u) n old = split (slice_get m.units u.0)
  where
    split : (o : Option UnitRow) → Alive (option_map_or (λ (x : UnitRow). record m { rows = map (resolved_row u.0 (resolved_unit x)) m.rows; units = changed_at u.0 resolved_unit m.units }) o m).units
    split None = old
    split (Some x) = alive_changed_at u.0 resolved_unit m.units alive_resolved old
alive_changed m (Link u found) n old = alive_changed_at u.0 (waiting_unit (length m.queries)) (all_claimed found m).units (λ x a. refl) (alive_claims found m old)
alive_changed m (Emit u groups) n old = alive_changed_at u.0 done_unit m.units (λ x a. refl) old
alive_changed m (Fail u) n old = alive_changed_at u.0 failed_unit m.units (λ x a. refl) old
alive_changed m (Move t to) n old = chosen (λ (k : Plain). Alive k.units) (t.0 == to.0) m (record m { units = map (moved_unit t.0 to.0) m.units; generators = map (moved_generator t.0 to.0) m.generators; trackers = changed_at t.0 gone_tracker m.trackers })
    (λ b. old) (λ b. alive_mapped (moved_unit t.0 to.0) m.units (λ x a. a) old)
alive_changed m (Remove t) n old = absurd (both_ways true n refl)
alive_changed m (LetGo t u) n old = alive_changed_at u.0 (let_go_unit t.0) m.units (λ x a. a) old

alive_settled : (m : Plain) → Alive m.units → Alive (settled m).units
alive_settled m old = settling_keeps (λ n. Alive n.units) (λ u k q n p w b e. alive_changed_at u linked_unit n.units (λ x a. refl) p) 0 m.queries m old

pub after_alive : (m : Plain) (e : Entry Meaning) → is_removal e.event ≡ false → Alive m.units → Alive (after m e).units
after_alive m e n old = alive_settled (changed (change_of m e.seat.0 e.event e.reply) m) (alive_changed m (change_of m e.seat.0 e.event e.reply) (unremoving m e.seat.0 e.event e.reply n) old)

-- A unit that is held

pub record IsHeldBy (s : ℕ) (units : List UnitRow) (u : ℕ) : Type 0 where
  pub unit : UnitRow
  pub there : slice_get units u ≡ Some unit
  pub holds : unit.seat ≡ Some s

settled_held : (s u : ℕ) (m : Plain) → IsHeldBy s m.units u → IsHeldBy s (settled m).units u
settled_held s u m held = settling_keeps (λ n. IsHeldBy s n.units u) (λ v k q n p w b e. step v n.units p (cases_eq u v)) 0 m.queries m held
  where
    step : (v : ℕ) (units : List UnitRow) → IsHeldBy s units u → (u ≡ v) ⊎ (u ≡ v → ⊥) → IsHeldBy s (changed_at v linked_unit units) u
    step v units p (inl is) = record { unit = linked_unit p.unit; there = ap (λ k. slice_get (changed_at k linked_unit units) u) (sym is) ∙ changed_some u linked_unit units p.unit p.there; holds = p.holds }
    step v units p (inr apart) = record { unit = p.unit; there = changed_elsewhere v linked_unit units u apart ∙ p.there; holds = p.holds }

held_after : (past : List (Entry Meaning)) (e : Entry Meaning) (c : Change Meaning) (s u : ℕ) → change_of (state past) e.seat.0 e.event e.reply ≡ c → IsHeldBy s (changed c (state past)).units u → IsHeldBy s (state (past ++ e ∷ [])).units u
held_after past e c s u is held = subst (λ (m : Plain). IsHeldBy s m.units u) (sym (state_from_push empty past e))
    (settled_held s u (changed (change_of (state past) e.seat.0 e.event e.reply) (state past)) (subst (λ d. IsHeldBy s (changed d (state past)).units u) (sym is) held))

-- the unit of a job Finish that was taken is held
pub taken_held : (jmax : ℕ) (past : List (Entry Meaning)) (t : Entry Meaning) (u : UnitId) (how : Finishing) → OneMore jmax past t → t.event ≡ event.Take → t.reply ≡ reply.Finish u how → IsHeldBy t.seat.0 (state (past ++ t ∷ [])).units u.0
taken_held jmax past t u how one takes is = held_after past t (Finish t.seat u how) t.seat.0 u.0 change (record { unit = finishing_unit t.seat.0 how x.0; there = changed_some u.0 (finishing_unit t.seat.0 how) (state past).units x.0 x.1; holds = refl })
  where
    change : change_of (state past) t.seat.0 t.event t.reply ≡ Finish t.seat u how
    change = ap (λ v. change_of (state past) t.seat.0 v t.reply) takes ∙ ap (change_of (state past) t.seat.0 event.Take) is

    guard : (t.seat.0 ≡ t.seat.0) × (js : List Job) × ((state past).jobs ≡ job.Finish u ∷ js)
    guard = subst (Guard (state past) t.seat.0) change one.guard

    x : (y : UnitRow) × (slice_get (state past).units u.0 ≡ Some y) × (y.phase ≡ stage.Linked)
    x = finish_linked (state past) u.0 guard.1 one.sound guard.2

-- and still is, once its unit was resolved
pub resolved_held : (past : List (Entry Meaning)) (e : Entry Meaning) (u : UnitId) (s : ℕ) → e.event ≡ event.Resolve u → e.reply ≡ reply.Resolved → IsHeldBy s (state past).units u.0 → IsHeldBy s (state (past ++ e ∷ [])).units u.0
resolved_held past e u s is r held = held_after past e (Resolve u) s u.0 change (subst (λ (o : Option UnitRow). IsHeldBy s (option_map_or (λ (x : UnitRow). record (state past) { rows = map (resolved_row u.0 (resolved_unit x)) (state past).rows; units = changed_at u.0 resolved_unit (state past).units }) o (state past)).units u.0) (sym held.there)
    (record { unit = resolved_unit held.unit; there = changed_some u.0 resolved_unit (state past).units held.unit held.there; holds = held.holds }))
  where
    change : change_of (state past) e.seat.0 e.event e.reply ≡ Resolve u
    change = ap (λ v. change_of (state past) e.seat.0 v e.reply) is ∙ ap (change_of (state past) e.seat.0 (event.Resolve u)) r
