-- How many units are held, along a history.
use Rattle.session_model.specs.Change.{new_unit, listed_unit, started_unit, finishing_unit, placed_unit, resolved_unit, resolved_row, waiting_unit, done_unit, failed_unit, removed_unit, moved_unit, moved_generator, gone_tracker, let_go_unit, linked_unit}
use Rattle.session_model.specs.declared.rows.Verdict.{Verdict}
use Rattle.std.proofs.Common.{◌≡◌, ℕ, zero, suc, ◌+◌, Bool, true, false, ◌&&◌, ◌==◌, nat_eq, cond, map, List, [], ◌∷◌, ◌++◌, length, slice_get, ◌⊎◌, inl, inr, subst, sym, refl, ap, ◌∙◌, Option, Some, None, is_some}
use Rattle.std.specs.Bool.{if◌then◌else◌}
use Rattle.std.specs.Option.{option_map_or}
use Rattle.std.proofs.lemmas.Bool.{both_ways, cases_Bool, eq-eqb, and_from}
use Rattle.std.proofs.lemmas.Option.{none-some, same_Some}
use Rattle.orc_ids.specs.declared.ids.InstId.{InstId}
use Rattle.orc_ids.specs.declared.ids.UnitId.{UnitId}
use Rattle.session_model.specs.Lists.{changed_at, numbered}
use Rattle.session_model.specs.Plain.{Plain, UnitRow, GenRow, is_unsearched}
use Rattle.session_model.specs.declared.entry.Reply.TheVariants as reply
use Rattle.session_model.specs.declared.rows.InstRow.{InstRow}
use Rattle.std.proofs.Common.{arith}
use Rattle.session_model.specs.Change.{settled, claimed}
use Rattle.session_laws.proofs.Settling.{chosen}
use Rattle.session_model.specs.Meaning.{Meaning}
use Rattle.session_model.specs.Change.{without_replaced, defined, all_claimed, claimed_for}
use Rattle.session_laws.proofs.Settling.{settling_keeps}
use Rattle.session_model.specs.Change.{change_of, changed}
use Rattle.session_model.specs.declared.change.Change.{Change}
use Rattle.session_model.specs.declared.change.Change.TheVariants.{Nothing, MakeDylib, MakeTracker, SetOrder, Attach, Define, Generate, Spend, Ask, Start, Finish, Place, Resolve, Link, Emit, Fail, Move, Remove, LetGo}
use Rattle.session_model.specs.Answer.{Answers, HasCause, is_held}
use Rattle.session_model.specs.declared.entry.Entry.{Entry}
use Rattle.session_model.specs.declared.entry.Event.{Event}
use Rattle.session_model.specs.declared.entry.Event.TheVariants as event
use Rattle.session_model.specs.declared.entry.Reply.{Reply}
use Rattle.session_model.specs.declared.entry.Why.{Why}
use Rattle.session_model.specs.Plain.{empty}
use Rattle.session_model.specs.State.{after, state, state_from}
use Rattle.session_model.specs.History.{LegalFrom, IsLegal}
use Rattle.session_model.specs.Change.{removed, spent}
use Rattle.session_laws.proofs.Along.{prefixes_legal}
use Rattle.std.proofs.Common.{◌≤◌, le_refl}
use Rattle.session_laws.proofs.Readying.{state_from_joined, legal_rest}
use Rattle.std.proofs.Common.{sum_by}
use Rattle.std.proofs.lemmas.List.Sums.{sum_by-cons}
use Rattle.session_model.specs.Plain.{kept}
use Rattle.std.proofs.lemmas.Bool.{ltb-false, le-ltb, lt-ltb}
use Rattle.std.proofs.lemmas.List.Sums.{sum_by-append}
use Rattle.session_model.specs.History.{is_full, places, HasPlaces, HasPlacesFrom}
use Rattle.session_laws.proofs.Guards.{call_cases, its_seat}
use Rattle.session_laws.specs.Journal.{KeptWithin, FullStays, HolderCanFail, FullStopsOthers}

-- Sums over units

-- 1 for a held unit, and else 0
abbrev pub held_one : UnitRow → ℕ
held_one x = cond (is_some x.seat) 1 0

pub held_in : List UnitRow → ℕ
held_in xs = sum_by held_one xs

kept_is : (m : Plain) → kept m ≡ held_in m.units
unfolding held_in
kept_is m = refl

held_cons : (x : UnitRow) (xs : List UnitRow) → held_in (x ∷ xs) ≡ held_one x + held_in xs
unfolding held_in
held_cons x xs = sum_by-cons held_one x xs

held_appended : (xs ys : List UnitRow) → held_in (xs ++ ys) ≡ held_in xs + held_in ys
unfolding held_in
held_appended xs ys = sum_by-append held_one xs ys

held_nil : held_in [] ≡ 0
unfolding held_in
held_nil = refl

one_at_most : (x : UnitRow) → held_one x ≤ 1
one_at_most x = split (is_some x.seat)
  where
    split : (b : Bool) → cond b 1 0 ≤ 1
    split true = omega arith
    split false = omega arith

held_numbered : (f : ℕ → UnitRow → UnitRow) → ((k : ℕ) (x : UnitRow) → (f k x).seat ≡ x.seat) → (k : ℕ) (xs : List UnitRow) → held_in (numbered f k xs) ≡ held_in xs
held_numbered f h k [] = refl
held_numbered f h k (x ∷ xs) = let one : held_one (f k x) ≡ held_one x = ap (λ s. cond (is_some s) 1 0) (h k x) in
    omega (arith, held_cons (f k x) (numbered f (k + 1) xs), held_cons x xs, one, held_numbered f h (k + 1) xs)

held_mapped : (f : UnitRow → UnitRow) → ((x : UnitRow) → (f x).seat ≡ x.seat) → (xs : List UnitRow) → held_in (map f xs) ≡ held_in xs
held_mapped f h [] = refl
held_mapped f h (x ∷ xs) = let one : held_one (f x) ≡ held_one x = ap (λ s. cond (is_some s) 1 0) (h x) in
    omega (arith, held_cons (f x) (map f xs), held_cons x xs, one, held_mapped f h xs)

-- a change of one unit
held_changed_same : (u : ℕ) (f : UnitRow → UnitRow) → ((x : UnitRow) → (f x).seat ≡ x.seat) → (xs : List UnitRow) → held_in (changed_at u f xs) ≡ held_in xs
held_changed_same u f h [] = refl
held_changed_same zero f h (x ∷ xs) = let one : held_one (f x) ≡ held_one x = ap (λ s. cond (is_some s) 1 0) (h x) in omega (arith, held_cons (f x) xs, held_cons x xs, one)
held_changed_same (suc u) f h (x ∷ xs) = omega (arith, held_cons x (changed_at u f xs), held_cons x xs, held_changed_same u f h xs)

held_changed_up : (u : ℕ) (f : UnitRow → UnitRow) (xs : List UnitRow) → held_in (changed_at u f xs) ≤ held_in xs + 1
held_changed_up u f [] = omega arith
held_changed_up zero f (x ∷ xs) = omega (arith, held_cons (f x) xs, held_cons x xs, one_at_most (f x))
held_changed_up (suc u) f (x ∷ xs) = omega (arith, held_cons x (changed_at u f xs), held_cons x xs, held_changed_up u f xs)

held_changed_down : (u : ℕ) (f : UnitRow → UnitRow) (xs : List UnitRow) → held_in xs ≤ held_in (changed_at u f xs) + 1
held_changed_down u f [] = omega arith
held_changed_down zero f (x ∷ xs) = omega (arith, held_cons (f x) xs, held_cons x xs, one_at_most x)
held_changed_down (suc u) f (x ∷ xs) = omega (arith, held_cons x (changed_at u f xs), held_cons x xs, held_changed_down u f xs)

held_changed_less : (u : ℕ) (f : UnitRow → UnitRow) → ((x : UnitRow) → held_one (f x) ≤ held_one x) → (xs : List UnitRow) → held_in (changed_at u f xs) ≤ held_in xs
held_changed_less u f h [] = omega arith
held_changed_less zero f h (x ∷ xs) = omega (arith, held_cons (f x) xs, held_cons x xs, h x)
held_changed_less (suc u) f h (x ∷ xs) = omega (arith, held_cons x (changed_at u f xs), held_cons x xs, held_changed_less u f h xs)

held_released : (u : ℕ) (f : UnitRow → UnitRow) (x : UnitRow) (xs : List UnitRow) → slice_get xs u ≡ Some x → is_some x.seat ≡ true → is_some (f x).seat ≡ false → held_in (changed_at u f xs) + 1 ≡ held_in xs
held_released u f x [] t s n = absurd (none-some x t)
held_released zero f x (y ∷ ys) t s n =
    let one : ◌≡◌ {A = ℕ} (held_one y) 1 = ap (λ b. cond b 1 0) (ap (λ (z : UnitRow). is_some z.seat) (same_Some y x t) ∙ s) in
    let none : ◌≡◌ {A = ℕ} (held_one (f y)) 0 = ap (λ b. cond b 1 0) (ap (λ (z : UnitRow). is_some (f z).seat) (same_Some y x t) ∙ n) in
    omega (arith, held_cons (f y) ys, held_cons y ys, one, none)
held_released (suc u) f x (y ∷ ys) t s n = omega (arith, held_cons y (changed_at u f ys), held_cons y ys, held_released u f x ys t s n)

none_less : (x : UnitRow) → 0 ≤ held_one x
none_less x = omega arith

let_go_less : (k : ℕ) (x : UnitRow) → held_one (let_go_unit k x) ≤ held_one x
let_go_less k x = chosen (λ s. cond (is_some s) 1 0 ≤ held_one x) (option_map_or (nat_eq k) x.seat false) None x.seat (λ b. omega arith) (λ b. le_refl (held_one x))

-- Changes

-- no more units are held, and at most one less
pub record HoldsLess (units new : List UnitRow) : Type 0 where
  pub up : held_in new ≤ held_in units
  pub down : held_in units ≤ held_in new + 1

holds_same : (units new : List UnitRow) → held_in new ≡ held_in units → HoldsLess units new
holds_same units new e = record { up = omega (arith, e); down = omega (arith, e) }

holds_one : (units : List UnitRow) (u : ℕ) (f : UnitRow → UnitRow) → ((x : UnitRow) → held_one (f x) ≤ held_one x) → HoldsLess units (changed_at u f units)
holds_one units u f h = record { up = held_changed_less u f h units; down = held_changed_down u f units }

claimed_for_held : (i : InstId) (m : Plain) → held_in (claimed_for i m).units ≡ held_in m.units
claimed_for_held i m = split (slice_get m.rows i.0)
  where
    split : (o : Option InstRow) → held_in (option_map_or (λ (r : InstRow). if is_unsearched r.phase then claimed r.unit.0 m else m) o m).units ≡ held_in m.units
    split None = refl
    split (Some r) = chosen (λ n. held_in n.units ≡ held_in m.units) (is_unsearched r.phase) (claimed r.unit.0 m) m (λ b. held_changed_same r.unit.0 listed_unit (λ x. refl) m.units) (λ b. refl)

claims_held : (os : List (Option InstId)) (m : Plain) → held_in (all_claimed os m).units ≡ held_in m.units
claims_held [] m = refl
claims_held (None ∷ os) m = claims_held os m
claims_held (Some i ∷ os) m = claims_held os (claimed_for i m) ∙ claimed_for_held i m

defined_held : (m : Plain) (d t : ℕ) (v : Meaning) (vs : List Verdict) → held_in (defined d t v vs m).units ≡ held_in m.units
defined_held m d t v vs = omega (arith, held_appended (numbered (without_replaced m.rows vs) 0 m.units) (new_unit t v vs ∷ []), held_numbered (without_replaced m.rows vs) (λ k x. refl) 0 m.units, held_cons (new_unit t v vs) [], held_nil, none)
  where
    none : held_one (new_unit t v vs) ≡ 0
    none = refl

settled_held : (m : Plain) → held_in (settled m).units ≡ held_in m.units
settled_held m = settling_keeps (λ n. held_in n.units ≡ held_in m.units) (λ u k q n p w b e. held_changed_same u linked_unit (λ x. refl) n.units ∙ p) 0 m.queries m refl

-- only a take makes a unit held
abbrev pub is_take_change : Change Meaning → Bool
is_take_change (Start s u) = true
is_take_change (Finish s u how) = true
is_take_change _ = false

change_holds : (c : Change Meaning) (m : Plain) → is_take_change c ≡ false → HoldsLess m.units (changed c m).units
change_holds Nothing m n = holds_same m.units m.units refl
change_holds (MakeDylib name) m n = holds_same m.units m.units refl
change_holds (MakeTracker d) m n = holds_same m.units m.units refl
change_holds (SetOrder d order) m n = holds_same m.units m.units refl
change_holds (Attach d t u) m n = holds_same m.units m.units refl
change_holds (Define d t u found) m n = holds_same m.units (defined d.0 t.0 u found m).units (defined_held m d.0 t.0 u found)
change_holds (Generate k found) m n = split (slice_get m.generators k.0)
  where
    split : (o : Option GenRow) → HoldsLess m.units (option_map_or (λ x. spent k.0 (defined x.dylib x.tracker x.meaning found m)) o m).units
    split None = holds_same m.units m.units refl
    split (Some x) = holds_same m.units (defined x.dylib x.tracker x.meaning found m).units (defined_held m x.dylib x.tracker x.meaning found)
change_holds (Spend k) m n = holds_same m.units m.units refl
change_holds (Ask found lev w) m n = holds_same m.units (all_claimed found m).units (claims_held found m)
change_holds (Start t u) m n = absurd (both_ways true n refl)
change_holds (Finish t u how) m n = absurd (both_ways true n refl)
change_holds (Place u base) m n = holds_same m.units (changed (Place u base) m).units (held_changed_same u.0 (placed_unit base) (λ x. refl) m.units)
change_holds (Resolve u) m n = split (slice_get m.units u.0)
  where
    split : (o : Option UnitRow) → HoldsLess m.units (option_map_or (λ (x : UnitRow). record m { rows = map (resolved_row u.0 (resolved_unit x)) m.rows; units = changed_at u.0 resolved_unit m.units }) o m).units
    split None = holds_same m.units m.units refl
    split (Some x) = holds_same m.units (changed_at u.0 resolved_unit m.units) (held_changed_same u.0 resolved_unit (λ x. refl) m.units)
change_holds (Link u found) m n = let c = claims_held found m in
    let p = holds_one (all_claimed found m).units u.0 (waiting_unit (length m.queries)) none_less in
    record { up = omega (arith, c, p.up); down = omega (arith, c, p.down) }
change_holds (Emit u groups) m n = holds_one m.units u.0 done_unit none_less
change_holds (Fail u) m n = holds_one m.units u.0 failed_unit none_less
change_holds (Move t to) m n = chosen (λ k. HoldsLess m.units k.units) (t.0 == to.0) m (record m { units = map (moved_unit t.0 to.0) m.units; generators = map (moved_generator t.0 to.0) m.generators; trackers = changed_at t.0 gone_tracker m.trackers })
    (λ b. holds_same m.units m.units refl) (λ b. holds_same m.units (map (moved_unit t.0 to.0) m.units) (held_mapped (moved_unit t.0 to.0) (λ x. refl) m.units))
change_holds (Remove t) m n = holds_same m.units (removed t.0 m).units (held_mapped (removed_unit t.0) (λ x. refl) m.units)
change_holds (LetGo t u) m n = holds_one m.units u.0 (let_go_unit t.0) (let_go_less t.0)

take_held : (t u : ℕ) (x : UnitRow) → held_one x ≤ 1
take_held t u x = one_at_most x

-- a take holds at most one more, and none less
take_holds : (c : Change Meaning) (m : Plain) → is_take_change c ≡ true → (held_in (changed c m).units ≤ held_in m.units + 1) × (held_in m.units ≤ held_in (changed c m).units + 1)
take_holds (Start t u) m e = (held_changed_up u.0 (started_unit t.0) m.units, held_changed_down u.0 (started_unit t.0) m.units)
take_holds (Finish t u how) m e = (held_changed_up u.0 (finishing_unit t.0 how) m.units, held_changed_down u.0 (finishing_unit t.0 how) m.units)
take_holds _ m e = absurd (both_ways false refl e)

-- any change: at most one more and at most one less
any_holds : (c : Change Meaning) (m : Plain) → (held_in (changed c m).units ≤ held_in m.units + 1) × (held_in m.units ≤ held_in (changed c m).units + 1)
any_holds c m = split (cases_Bool (is_take_change c))
  where
    split : (is_take_change c ≡ true) ⊎ (is_take_change c ≡ false) → (held_in (changed c m).units ≤ held_in m.units + 1) × (held_in m.units ≤ held_in (changed c m).units + 1)
    split (inl e) = take_holds c m e
    split (inr n) = let p = change_holds c m n in ((omega (arith, p.up)), p.down)

-- Events that don't take

abbrev pub is_take : Event Meaning → Bool
is_take event.Take = true
is_take _ = false

not_taking : (m : Plain) (s : ℕ) (e : Event Meaning) (r : Reply) → is_take e ≡ false → is_take_change (change_of m s e r) ≡ false
not_taking m s event.Take r n = absurd (both_ways true n refl)
not_taking m s (event.Dylib name) (reply.Made d) n = refl
not_taking m s (event.Dylib name) (reply.Defunct u) n = refl
not_taking m s (event.Dylib name) _ n = refl
not_taking m s (event.Tracker d) (reply.Tracker t) n = refl
not_taking m s (event.Tracker d) (reply.Defunct u) n = refl
not_taking m s (event.Tracker d) _ n = refl
not_taking m s (event.SetOrder d order) reply.Set n = refl
not_taking m s (event.SetOrder d order) (reply.Defunct u) n = refl
not_taking m s (event.SetOrder d order) _ n = refl
not_taking m s (event.Attach d t u) (reply.Generator g) n = refl
not_taking m s (event.Attach d t u) (reply.Defunct v) n = refl
not_taking m s (event.Attach d t u) _ n = refl
not_taking m s (event.Define d t u) (reply.Defined v first count) n = refl
not_taking m s (event.Define d t u) (reply.Defunct v) n = refl
not_taking m s (event.Define d t u) _ n = refl
not_taking m s (event.Generate g) (reply.Defined v first count) n = refl
not_taking m s (event.Generate g) reply.TooMany n = refl
not_taking m s (event.Generate g) (reply.Duplicate name i) n = refl
not_taking m s (event.Generate g) (reply.Defunct v) n = refl
not_taking m s (event.Generate g) _ n = refl
not_taking m s (event.Ask order wanted lev w) (reply.Done q) n = refl
not_taking m s (event.Ask order wanted lev w) (reply.Pending q) n = refl
not_taking m s (event.Ask order wanted lev w) (reply.Defunct v) n = refl
not_taking m s (event.Ask order wanted lev w) _ n = refl
not_taking m s (event.Collect q) (reply.Defunct v) n = refl
not_taking m s (event.Collect q) _ n = refl
not_taking m s (event.Place u shape) (reply.Placed base) n = refl
not_taking m s (event.Place u shape) (reply.Defunct v) n = refl
not_taking m s (event.Place u shape) _ n = refl
not_taking m s (event.Resolve u) reply.Resolved n = refl
not_taking m s (event.Resolve u) (reply.Defunct v) n = refl
not_taking m s (event.Resolve u) _ n = refl
not_taking m s (event.Link u) (reply.Done q) n = refl
not_taking m s (event.Link u) (reply.Pending q) n = refl
not_taking m s (event.Link u) (reply.Defunct v) n = refl
not_taking m s (event.Link u) _ n = refl
not_taking m s (event.Emit u groups) reply.Emitted n = refl
not_taking m s (event.Emit u groups) (reply.Defunct v) n = refl
not_taking m s (event.Emit u groups) _ n = refl
not_taking m s (event.Fail u cause) reply.Failed n = refl
not_taking m s (event.Fail u cause) (reply.Defunct v) n = refl
not_taking m s (event.Fail u cause) _ n = refl
not_taking m s (event.MoveTracker t to) reply.Moved n = refl
not_taking m s (event.MoveTracker t to) (reply.Defunct v) n = refl
not_taking m s (event.MoveTracker t to) _ n = refl
not_taking m s (event.Remove t) reply.Removed n = refl
not_taking m s (event.Remove t) (reply.Defunct v) n = refl
not_taking m s (event.Remove t) _ n = refl
not_taking m s event.Image (reply.Defunct v) n = refl
not_taking m s event.Image _ n = refl

-- A fail by the holder lets its unit go

seat_held : (s : ℕ) (x : UnitRow) → is_held s x ≡ true → is_some x.seat ≡ true
seat_held s x h = ap is_some (its_seat s x.seat h)

fail_releases : (jmax : ℕ) (past : List (Entry Meaning)) (m : Plain) (s : ℕ) (u : UnitId) (cause : Why) (r : Reply) → Answers jmax past m s (event.Fail u cause) r → (x : UnitRow) → slice_get m.units u.0 ≡ Some x → is_held s x ≡ true → held_in (changed (change_of m s (event.Fail u cause) r) m).units + 1 ≡ held_in m.units
fail_releases jmax past m s u cause r a x t h = call_cases m s u (λ y. true) (λ y. HasCause jmax past m u.0 y cause × (r ≡ reply.Failed)) r a
    (λ y e d is. subst (λ k. held_in (changed (change_of m s (event.Fail u cause) k) m).units + 1 ≡ held_in m.units) (sym is)
    (held_released u.0 (let_go_unit s) x m.units t (seat_held s x h) (ap (λ b. is_some (if b then None else x.seat)) h)))
    (λ is wrong. absurd (both_ways (is_held s x && true) (wrong x t).1 (and_from (is_held s x) true h refl)))
    (λ y e d k f p. subst (λ q. held_in (changed (change_of m s (event.Fail u cause) q) m).units + 1 ≡ held_in m.units) (sym p.1)
    (held_released u.0 failed_unit x m.units t (seat_held s x h) refl))

-- One more entry

up_to_places : (jmax : ℕ) (past : List (Entry Meaning)) (m : Plain) (s : ℕ) (e : Event Meaning) (r : Reply) → Answers jmax past m s e r → held_in (changed (change_of m s e r) m).units + 1 ≤ held_in m.units + places m s e
up_to_places jmax past m s event.Take r a = omega (arith, (any_holds (change_of m s event.Take r) m).0)
up_to_places jmax past m s (event.Fail u cause) r a = split (slice_get m.units u.0) refl
  where
    other : held_in (changed (change_of m s (event.Fail u cause) r) m).units ≤ held_in m.units
    other = (change_holds (change_of m s (event.Fail u cause) r) m (not_taking m s (event.Fail u cause) r refl)).up

    split : (o : Option UnitRow) → slice_get m.units u.0 ≡ o → held_in (changed (change_of m s (event.Fail u cause) r) m).units + 1 ≤ held_in m.units + (if option_map_or (is_held s) o false then 0 else 1)
    split None t = omega (arith, other)
    split (Some x) t = by_holder (is_held s x) refl
      where
        by_holder : (b : Bool) → is_held s x ≡ b → held_in (changed (change_of m s (event.Fail u cause) r) m).units + 1 ≤ held_in m.units + (if b then 0 else 1)
        by_holder true h = omega (arith, fail_releases jmax past m s u cause r a x t h)
        by_holder false h = omega (arith, other)
up_to_places jmax past m s (event.Dylib name) r a = omega (arith, (change_holds (change_of m s (event.Dylib name) r) m (not_taking m s (event.Dylib name) r refl)).up)
up_to_places jmax past m s (event.Tracker d) r a = omega (arith, (change_holds (change_of m s (event.Tracker d) r) m (not_taking m s (event.Tracker d) r refl)).up)
up_to_places jmax past m s (event.SetOrder d order) r a = omega (arith, (change_holds (change_of m s (event.SetOrder d order) r) m (not_taking m s (event.SetOrder d order) r refl)).up)
up_to_places jmax past m s (event.Attach d t u) r a = omega (arith, (change_holds (change_of m s (event.Attach d t u) r) m (not_taking m s (event.Attach d t u) r refl)).up)
up_to_places jmax past m s (event.Define d t u) r a = omega (arith, (change_holds (change_of m s (event.Define d t u) r) m (not_taking m s (event.Define d t u) r refl)).up)
up_to_places jmax past m s (event.Generate g) r a = omega (arith, (change_holds (change_of m s (event.Generate g) r) m (not_taking m s (event.Generate g) r refl)).up)
up_to_places jmax past m s (event.Ask order wanted lev w) r a = omega (arith, (change_holds (change_of m s (event.Ask order wanted lev w) r) m (not_taking m s (event.Ask order wanted lev w) r refl)).up)
up_to_places jmax past m s (event.Collect q) r a = omega (arith, (change_holds (change_of m s (event.Collect q) r) m (not_taking m s (event.Collect q) r refl)).up)
up_to_places jmax past m s (event.Place u shape) r a = omega (arith, (change_holds (change_of m s (event.Place u shape) r) m (not_taking m s (event.Place u shape) r refl)).up)
up_to_places jmax past m s (event.Resolve u) r a = omega (arith, (change_holds (change_of m s (event.Resolve u) r) m (not_taking m s (event.Resolve u) r refl)).up)
up_to_places jmax past m s (event.Link u) r a = omega (arith, (change_holds (change_of m s (event.Link u) r) m (not_taking m s (event.Link u) r refl)).up)
up_to_places jmax past m s (event.Emit u groups) r a = omega (arith, (change_holds (change_of m s (event.Emit u groups) r) m (not_taking m s (event.Emit u groups) r refl)).up)
up_to_places jmax past m s (event.MoveTracker t to) r a = omega (arith, (change_holds (change_of m s (event.MoveTracker t to) r) m (not_taking m s (event.MoveTracker t to) r refl)).up)
up_to_places jmax past m s (event.Remove t) r a = omega (arith, (change_holds (change_of m s (event.Remove t) r) m (not_taking m s (event.Remove t) r refl)).up)
up_to_places jmax past m s event.Image r a = omega (arith, (change_holds (change_of m s event.Image r) m (not_taking m s event.Image r refl)).up)

-- what is taken of the journal: never less, and never more than its places
after_taken : (jmax : ℕ) (past : List (Entry Meaning)) (m : Plain) (e : Entry Meaning) → Answers jmax past m e.seat.0 e.event e.reply → is_full jmax m e.seat.0 e.event ≡ false →
    (m.entries + held_in m.units ≤ (after m e).entries + held_in (after m e).units) × ((after m e).entries + held_in (after m e).units ≤ jmax)
after_taken jmax past m e a f = (
  (omega (arith, settled_held n, (any_holds (change_of m e.seat.0 e.event e.reply) m).1)),
  (omega (arith, settled_held n, up_to_places jmax past m e.seat.0 e.event e.reply a, room)),
)
  where
    n : Plain
    n = changed (change_of m e.seat.0 e.event e.reply) m

    room : m.entries + held_in m.units + places m e.seat.0 e.event ≤ jmax
    room = subst (λ k. m.entries + k + places m e.seat.0 e.event ≤ jmax) (kept_is m) (ltb-false jmax (m.entries + kept m + places m e.seat.0 e.event) f)

taken_from : (jmax : ℕ) (past : List (Entry Meaning)) (m : Plain) (h : List (Entry Meaning)) → m.entries + held_in m.units ≤ jmax → LegalFrom jmax past m h → HasPlacesFrom jmax m h →
    (m.entries + held_in m.units ≤ (state_from m h).entries + held_in (state_from m h).units) × ((state_from m h).entries + held_in (state_from m h).units ≤ jmax)
taken_from jmax past m [] b l p = (le_refl (m.entries + held_in m.units), b)
taken_from jmax past m (e ∷ es) b l p =
    let one = after_taken jmax past m e l.0 p.0 in
    let rest = taken_from jmax (past ++ e ∷ []) (after m e) es one.1 l.1 p.1 in
    ((omega (arith, one.0, rest.0)), rest.1)

kept_bound : (jmax : ℕ) (h : List (Entry Meaning)) → IsLegal jmax h → HasPlaces jmax h → (state h).entries + held_in (state h).units ≤ jmax
kept_bound jmax h l p = (taken_from jmax [] empty h (omega (arith, held_nil)) l p).1

pub kept_within : KeptWithin
kept_within jmax h l p = subst (λ k. (state h).entries + k ≤ jmax) (sym (kept_is (state h))) (kept_bound jmax h l p)

places_rest : (jmax : ℕ) (m : Plain) (h more : List (Entry Meaning)) → HasPlacesFrom jmax m (h ++ more) → HasPlacesFrom jmax (state_from m h) more
places_rest jmax m [] more p = p
places_rest jmax m (e ∷ es) more p = places_rest jmax (after m e) es more p.1

pub full_stays : FullStays
full_stays jmax h more l p full = subst (λ m. m.entries + kept m ≡ jmax) (sym (state_from_joined empty h more))
    (omega (arith, kept_is (state_from (state h) more), both, full, kept_is (state h)))
  where
    both : ((state h).entries + held_in (state h).units ≤ (state_from (state h) more).entries + held_in (state_from (state h) more).units) × ((state_from (state h) more).entries + held_in (state_from (state h) more).units ≤ jmax)
    both = taken_from jmax h (state h) more (kept_bound jmax h ((prefixes_legal jmax h more).0 l) ((prefixes_legal jmax h more).1 p)) (legal_rest jmax [] empty h more l) (places_rest jmax empty h more p)

pub holder_can_fail : HolderCanFail
holder_can_fail jmax h l p s u x cause t held = le-ltb jmax ((state h).entries + kept (state h) + places (state h) s (event.Fail u cause))
    (subst (λ k. (state h).entries + kept (state h) + k ≤ jmax) (sym none) (omega (arith, kept_within jmax h l p)))
  where
    none : places (state h) s (event.Fail u cause) ≡ 0
    none = ap (λ o. if option_map_or (is_held s) o false then 0 else 1) t ∙ ap (λ (b : Bool). if b then 0 else 1) (ap (λ o. option_map_or (nat_eq s) o false) held ∙ eq-eqb s s refl)

pub full_stops_others : FullStopsOthers
full_stops_others jmax m s e full one = lt-ltb jmax (m.entries + kept m + places m s e) (omega (arith, full, one))
