-- A session has few instances: a definition that would make too many is refused, and nothing else makes any.
use Rattle.std.proofs.Common.{◌≡◌, ℕ, ◌+◌, ◌<◌, ◌≤◌, Bool, true, false, List, [], ◌∷◌, ◌++◌, length, slice_get, get_or, Option, Some, None, ◌⊎◌, inl, inr, subst, sym, refl, ap, ◌∙◌, arith, length-append}
use Rattle.std.specs.Prelude.{nat_le, nat_lt, not, ◌||◌, if◌then◌else◌, unwrap_or}
use Rattle.std.specs.Option.{option_map_or}
use Rattle.std.proofs.lemmas.Bool.{ltb-false, both_ways, or_parts}
use Rattle.std.proofs.lemmas.Option.{none-some, slice_get_cases, slice_get_past}
use Rattle.std.proofs.Math.Nat.{le_refl}
use Rattle.orc_ids.specs.declared.flags.SymFlags.{SymFlags}
use Rattle.orc_ids.specs.declared.ids.DylibId.{DylibId}
use Rattle.orc_ids.specs.declared.ids.GenId.{GenId}
use Rattle.orc_ids.specs.declared.ids.NameId.{NameId}
use Rattle.orc_ids.specs.declared.ids.TrackId.{TrackId}
use Rattle.orc_ids.specs.declared.limits.TheConstants.{UNIT_LIMIT, INSTANCE_LIMIT}
use Rattle.session_model.specs.Lists.{numbered, only_if}
use Rattle.session_model.specs.Meaning.{Meaning}
use Rattle.session_model.specs.Plain.{Plain, GenRow, empty, has_dylib, is_tracker_of}
use Rattle.session_model.specs.Answer.{Answers, no_dylib, not_tracker_of, answer_define, answer_unit}
use Rattle.session_model.specs.Change.{change_of, changed, is_kept, new_row, new_rows, unreplaced_row, defined, generated, spent, verdicts}
use Rattle.session_model.specs.State.{state}
use Rattle.session_model.specs.declared.change.Change.{Change}
use Rattle.session_model.specs.declared.entry.Entry.{Entry}
use Rattle.session_model.specs.declared.entry.Event.{Event}
use Rattle.session_model.specs.declared.entry.Event.TheVariants as event
use Rattle.session_model.specs.declared.entry.Reply.{Reply}
use Rattle.session_model.specs.declared.entry.Reply.TheVariants as reply
use Rattle.session_model.specs.declared.rows.InstRow.{InstRow}
use Rattle.session_model.specs.declared.rows.Verdict.{Verdict}
use Rattle.session_laws.proofs.Declared.{chosen, numbered_length, none_given, replies_first, replies_only, settled_rows, state_from_push, Guard}
use Rattle.session_laws.specs.Sound.{IsSound}
use Rattle.closure_laws.proofs.Declared.{OneMore, is_define, kept_along, row_was}
use Rattle.session_promises.specs.Laws.{RowsAreFew}

-- a definition makes at most as many instances as its unit offers names
new_few : (d u k : ℕ) (offers : List (NameId × SymFlags)) (found : List Verdict) → length (new_rows d u k offers found) ≤ length offers
new_few d u k [] found = omega arith
new_few d u k (o ∷ os) [] = omega arith
new_few d u k (o ∷ os) (v ∷ vs) = let h = new_few d u (k + 1) os vs in
    chosen (λ (l : List InstRow). length l ≤ length (o ∷ os)) (is_kept v) (new_row d u k o ∷ new_rows d u (k + 1) os vs) (new_rows d u (k + 1) os vs) (λ b. omega (arith, h)) (λ b. omega (arith, h))

-- within the limit
abbrev IsFew : Plain → Type 0
IsFew m = length m.rows ≤ INSTANCE_LIMIT

defined_few : (m : Plain) (d t : ℕ) (u : Meaning) (found : List Verdict) → length m.rows + length u.offers ≤ INSTANCE_LIMIT → IsFew (defined d t u found m)
defined_few m d t u found room = omega (
  arith,
  length-append (numbered (unreplaced_row found) 0 m.rows) (new_rows d (length m.units) 0 u.offers found),
  numbered_length (unreplaced_row found) 0 m.rows,
  new_few d (length m.units) 0 u.offers found,
  room,
)

-- A right reply says that the room is there

abbrev is_defined : Reply → Bool
is_defined (reply.Defined v first count) = true
is_defined _ = false

-- TooMany wasn't answered
not_many : (b : Bool) (last : Reply) → is_defined (unwrap_or (only_if b reply.TooMany) last) ≡ true → b ≡ false
not_many true last e = absurd (both_ways false refl e)
not_many false last e = refl

abbrev Refuses : Reply → Type 0
Refuses r = is_defined r ≡ false

unit_room : (m : Plain) (d : ℕ) (u : Meaning) → is_defined (answer_unit m d u) ≡ true → length m.rows + length u.offers ≤ INSTANCE_LIMIT
unit_room m d u e = ltb-false INSTANCE_LIMIT (length m.rows + length u.offers)
    (or_parts (nat_le UNIT_LIMIT (length m.units)) (nat_lt INSTANCE_LIMIT (length m.rows + length u.offers)) (not_many (nat_le UNIT_LIMIT (length m.units) || nat_lt INSTANCE_LIMIT (length m.rows + length u.offers)) _ e)).1

define_room : (m : Plain) (d : DylibId) (t : TrackId) (u : Meaning) → is_defined (answer_define m d t u) ≡ true → length m.rows + length u.offers ≤ INSTANCE_LIMIT
define_room m d t u e = unit_room m d.0 u
    (none_given is_defined (not_tracker_of m d t) (answer_unit m d.0 u) (replies_only Refuses (not (is_tracker_of m d.0 t.0)) (reply.TrackerGone t) refl)
    (none_given is_defined (no_dylib m (d ∷ [])) _ (replies_first Refuses (λ (x : DylibId). only_if (not (has_dylib m x.0)) (reply.NoDylib x)) (λ x. replies_only Refuses (not (has_dylib m x.0)) (reply.NoDylib x) refl) (d ∷ [])) e).1).1

generated_few : (m : Plain) (g : GenId) (found : List Verdict) (o : Option GenRow) → IsFew m → is_defined (option_map_or (λ x. if x.spent then reply.Spent g else answer_unit m x.dylib x.meaning) o (reply.NoGen g)) ≡ true →
    IsFew (option_map_or (λ x. spent g.0 (defined x.dylib x.tracker x.meaning found m)) o m)
generated_few m g found None few e = few
generated_few m g found (Some x) few e = defined_few m x.dylib x.tracker x.meaning found (unit_room m x.dylib x.meaning (unspent x.spent e))
  where
    unspent : (b : Bool) → is_defined (if b then reply.Spent g else answer_unit m x.dylib x.meaning) ≡ true → is_defined (answer_unit m x.dylib x.meaning) ≡ true
    unspent true i = absurd (both_ways false refl i)
    unspent false i = i

-- an entry makes no instances, or has room for those that it makes
grows : (jmax : ℕ) (past : List (Entry Meaning)) (m : Plain) (s : ℕ) (e : Event Meaning) (r : Reply) → Answers jmax past m s e r → (is_define (change_of m s e r) ≡ false) ⊎ (IsFew m → IsFew (changed (change_of m s e r) m))
grows jmax past m s (event.Define d t u) (reply.Defined v first count) a = inr (λ few. defined_few m d.0 t.0 u (verdicts m.rows d.0 u.offers) (define_room m d t u (ap is_defined (sym a.1))))
grows jmax past m s (event.Define d t u) _ a = inl refl
grows jmax past m s (event.Generate g) (reply.Defined v first count) a = inr (λ few. generated_few m g (generated m g.0) (slice_get m.generators g.0) few (ap is_defined (sym a)))
grows jmax past m s (event.Generate g) _ a = inl refl
grows jmax past m s (event.Dylib name) (reply.Made d) a = inl refl
grows jmax past m s (event.Dylib name) _ a = inl refl
grows jmax past m s (event.Tracker d) (reply.Tracker t) a = inl refl
grows jmax past m s (event.Tracker d) _ a = inl refl
grows jmax past m s (event.SetOrder d order) reply.Set a = inl refl
grows jmax past m s (event.SetOrder d order) _ a = inl refl
grows jmax past m s (event.Attach d t u) (reply.Generator g) a = inl refl
grows jmax past m s (event.Attach d t u) _ a = inl refl
grows jmax past m s (event.Ask order wanted lev n) (reply.Done q) a = inl refl
grows jmax past m s (event.Ask order wanted lev n) _ a = inl refl
grows jmax past m s (event.Collect q) (reply.Defunct u) a = inl refl
grows jmax past m s (event.Collect q) _ a = inl refl
grows jmax past m s event.Take (reply.Start u) a = inl refl
grows jmax past m s event.Take _ a = inl refl
grows jmax past m s (event.Place u shape) (reply.Placed base) a = inl refl
grows jmax past m s (event.Place u shape) _ a = inl refl
grows jmax past m s (event.Resolve u) reply.Resolved a = inl refl
grows jmax past m s (event.Resolve u) _ a = inl refl
grows jmax past m s (event.Link u) (reply.Done q) a = inl refl
grows jmax past m s (event.Link u) _ a = inl refl
grows jmax past m s (event.Emit u groups) reply.Emitted a = inl refl
grows jmax past m s (event.Emit u groups) _ a = inl refl
grows jmax past m s (event.Fail u why) reply.Failed a = inl refl
grows jmax past m s (event.Fail u why) _ a = inl refl
grows jmax past m s (event.MoveTracker t to) reply.Moved a = inl refl
grows jmax past m s (event.MoveTracker t to) _ a = inl refl
grows jmax past m s (event.Remove t) reply.Removed a = inl refl
grows jmax past m s (event.Remove t) _ a = inl refl
grows jmax past m s event.Image (reply.Defunct u) a = inl refl
grows jmax past m s event.Image _ a = inl refl

-- what makes none leaves none behind that wasn't there
kept_few : (m : Plain) (s : ℕ) (c : Change Meaning) → is_define c ≡ false → IsSound m → Guard m s c → IsFew m → IsFew (changed c m)
kept_few m s c other sound guard few = by (slice_get_cases (changed c m).rows (length m.rows)).1
  where
    by : ((q : InstRow) × (length m.rows < length (changed c m).rows) × (slice_get (changed c m).rows (length m.rows) ≡ Some q) × (get_or (changed c m).rows (length m.rows) q ≡ q)) ⊎ ((length (changed c m).rows ≤ length m.rows) × (slice_get (changed c m).rows (length m.rows) ≡ None)) → IsFew (changed c m)
    by (inl (q, more, there, _)) = let was = row_was m s c other sound guard (length m.rows) q there in absurd (none-some was.0 (sym (slice_get_past m.rows (length m.rows) (le_refl (length m.rows))) ∙ was.1))
    by (inr (few', _)) = omega (arith, few', few)

one_few : (jmax : ℕ) (h : List (Entry Meaning)) (e : Entry Meaning) → OneMore jmax h e → IsFew (state h) → IsFew (state (h ++ e ∷ []))
one_few jmax h e one few = subst IsFew (sym (state_from_push empty h e)) (subst (λ rows. length rows ≤ INSTANCE_LIMIT) (sym (settled_rows (changed c (state h)))) (by (grows jmax h (state h) e.seat.0 e.event e.reply one.answers)))
  where
    c : Change Meaning
    c = change_of (state h) e.seat.0 e.event e.reply

    by : (is_define c ≡ false) ⊎ (IsFew (state h) → IsFew (changed c (state h))) → IsFew (changed c (state h))
    by (inl other) = kept_few (state h) e.seat.0 c other one.sound one.guard few
    by (inr room) = room few

pub rows_are_few : RowsAreFew
rows_are_few jmax h legal = kept_along jmax (λ g. IsFew (state g)) (one_few jmax) [] h legal (omega arith)
