-- The calls that a job and a lookup make, as lists of entries of the caller's seat.
use Rattle.std.specs.Prelude.{◌≡◌, ℕ, ℤ, MatchBool, ◌+◌, Bool, true, false, ◌==◌, ◌⊎◌, List, [], ◌∷◌, ◌++◌, take, slice_get, map, Option, Some, None, is_some, unwrap_or, if◌then◌else◌}
use Rattle.std.specs.Option.{option_map_or}
use Rattle.orc_ids.specs.declared.ids.GenId.{GenId}
use Rattle.orc_ids.specs.declared.ids.QueryId.{QueryId}
use Rattle.orc_ids.specs.declared.ids.UnitId.{UnitId}
use Rattle.orc_ids.specs.declared.lookup.Level.{Level}
use Rattle.orc_ids.specs.declared.lookup.OrderItem.{OrderItem}
use Rattle.orc_ids.specs.declared.lookup.Wanted.{Wanted}
use Rattle.orc_ids.specs.declared.place.Place.{Place}
use Rattle.session_model.specs.Meaning.{Meaning}
use Rattle.session_model.specs.Plain.{Plain, Query, UnitRow, is_alias, unit_shape}
use Rattle.session_model.specs.State.{state, IsOpen}
use Rattle.session_model.specs.declared.entry.Entry.{Entry}
use Rattle.session_model.specs.declared.entry.Event.{Event}
use Rattle.session_model.specs.declared.entry.Event.TheVariants as event
use Rattle.session_model.specs.declared.entry.Finishing.TheVariants as finishing
use Rattle.session_model.specs.declared.entry.Reply.{Reply}
use Rattle.session_model.specs.declared.entry.Reply.TheVariants as reply
use Rattle.session_model.specs.declared.entry.Why.{Why}
use Rattle.session_model.specs.declared.entry.Why.TheVariants as why

-- the entries of one seat, in order, each with its number in the history; the first is number n
abbrev pub numbered_calls : ℕ → ℕ → List (Entry Meaning) → List (ℕ × Entry Meaning)
numbered_calls s n [] = []
numbered_calls s n (e ∷ es) = if e.seat.0 == s then (n, e) ∷ numbered_calls s (n + 1) es else numbered_calls s (n + 1) es

-- one fail of the unit, with this cause
abbrev pub IsFail : UnitId → Why → List (Entry Meaning) → Type 0
IsFail u cause (e ∷ []) = e.event ≡ event.Fail u cause
IsFail u cause _ = ⊥

-- a call was answered that memory or the journal ran out: the rest of the job is one fail so
abbrev pub IsCut : UnitId → List (Entry Meaning) → Type 0
IsCut u es = IsFail u why.NoMemory es ⊎ IsFail u why.Full es

-- A link, after which the job is over; or it was answered Offer, the generator is used, and the
-- unit is linked again.
abbrev pub EndsLink : UnitId → Reply → List (Entry Meaning) → Type 0
EndsLink u (reply.Done q) es = es ≡ []
EndsLink u (reply.Pending q) es = es ≡ []
EndsLink u (reply.Defunct v) es = es ≡ []
EndsLink u (reply.Missing name) es = IsFail u (why.Missing name) es
EndsLink u (reply.InError i) es = IsFail u (why.InError i) es
EndsLink u (reply.AliasCycle i) es = IsFail u (why.AliasCycle i) es
EndsLink u (reply.Offer g) es = IsCut u es
EndsLink u _ es = ⊥

pub data Links (u : UnitId) : List (Entry Meaning) → Type 0 where
  Cut : (es : List (Entry Meaning)) → IsCut u es → Links u es
  Ends : (e : Entry Meaning) (es : List (Entry Meaning)) → e.event ≡ event.Link u → EndsLink u e.reply es → Links u (e ∷ es)
  Again : (e f : Entry Meaning) (g : GenId) (es : List (Entry Meaning)) → e.event ≡ event.Link u → e.reply ≡ reply.Offer g → f.event ≡ event.Generate g → Links u es → Links u (e ∷ f ∷ es)

-- a resolve, and what comes next
abbrev pub AfterResolve : (List (Entry Meaning) → Type 0) → Reply → List (Entry Meaning) → Type 0
AfterResolve Next reply.Resolved es = Next es
AfterResolve Next (reply.Defunct v) es = es ≡ []
AfterResolve Next _ es = ⊥

abbrev pub Resolves : (List (Entry Meaning) → Type 0) → UnitId → List (Entry Meaning) → Type 0
Resolves Next u [] = ⊥
Resolves Next u (e ∷ es) = IsCut u (e ∷ es) ⊎ (e.event ≡ event.Resolve u) × AfterResolve Next e.reply es

abbrev pub AfterPlace : UnitId → Reply → List (Entry Meaning) → Type 0
AfterPlace u (reply.Placed base) es = Resolves (Links u) u es
AfterPlace u (reply.NoRoom need) es = IsFail u (why.NoRoom need) es
AfterPlace u (reply.Defunct v) es = es ≡ []
AfterPlace u _ es = ⊥

abbrev pub is_place : UnitId → Event Meaning → Bool
is_place u (event.Place v shape) = v.0 == u.0
is_place u _ = false

abbrev pub Places : UnitId → List (Entry Meaning) → Type 0
Places u [] = ⊥
Places u (e ∷ es) = IsCut u (e ∷ es) ⊎ (is_place u e.event ≡ true) × AfterPlace u e.reply es

abbrev pub AfterEmit : UnitId → Reply → List (Entry Meaning) → Type 0
AfterEmit u reply.Emitted es = es ≡ []
AfterEmit u (reply.BadDep i) es = IsFail u (why.BadDep i) es
AfterEmit u (reply.Defunct v) es = es ≡ []
AfterEmit u _ es = ⊥

abbrev pub is_emit : UnitId → Event Meaning → Bool
is_emit u (event.Emit v groups) = v.0 == u.0
is_emit u _ = false

-- a unit with an edge out of range is failed so, any other one emitted
abbrev pub EndsFinish : UnitId → Option (Place × ℕ × ℤ) → List (Entry Meaning) → Type 0
EndsFinish u (Some (place, kind, v)) es = IsFail u (why.Refused place kind v) es
EndsFinish u None [] = ⊥
EndsFinish u None (e ∷ es) = (is_emit u e.event ≡ true) × AfterEmit u e.reply es

-- something of a unit's row, where there is one
abbrev pub unit_test : (UnitRow → Bool) → Plain → UnitId → Bool
unit_test test m u = option_map_or test (slice_get m.units u.0) false

-- the first edge of the unit that is out of range, at its base and with its bindings
abbrev pub refusal_of : Plain → UnitId → Option (Place × ℕ × ℤ)
refusal_of m u = option_map_or (λ x. x.meaning.refusal x.live (unwrap_or x.base 0) (unwrap_or x.bound [])) (slice_get m.units u.0) None

-- an emit, or the fail that a refused edge asks for
abbrev pub Emits : UnitId → Option (Place × ℕ × ℤ) → List (Entry Meaning) → Type 0
Emits u refusal es = IsCut u es ⊎ EndsFinish u refusal es

-- an alias is linked at once; a unit without a shape needs no place
abbrev pub AfterStart : Plain → UnitId → List (Entry Meaning) → Type 0
AfterStart m u es = MatchBool (unit_test is_alias m u) (Links u es) (MatchBool (unit_test (λ x. is_some (unit_shape x)) m u) (Places u es) (Resolves (Links u) u es))

-- an alias is resolved now
abbrev pub AfterBound : Plain → UnitId → List (Entry Meaning) → Type 0
AfterBound m u es = MatchBool (unit_test is_alias m u) (Resolves (Emits u (refusal_of m u)) u es) (Emits u (refusal_of m u) es)

-- what follows a take, after which the session is m
abbrev pub AfterTake : Plain → Reply → List (Entry Meaning) → Type 0
AfterTake m (reply.Start u) es = AfterStart m u es
AfterTake m (reply.Finish u (finishing.Bound matches)) es = AfterBound m u es
AfterTake m (reply.Finish u (finishing.Lost i)) es = IsFail u (why.InError i) es
AfterTake m _ es = ⊥

-- the entries of one job, each with its number in the history
abbrev pub IsJob : List (Entry Meaning) → List (ℕ × Entry Meaning) → Type 0
IsJob h [] = ⊥
IsJob h (c ∷ cs) = (c.1.event ≡ event.Take) × AfterTake (state (take c.0 h)) c.1.reply (map (λ d. d.1) cs)

abbrev pub is_collected : Reply → Bool
is_collected (reply.Found n matches) = true
is_collected (reply.Lost n i) = true
is_collected _ = false

-- Jobs while the query is open, and then its end. Number n is the seat's entry before.
pub data Works (h : List (Entry Meaning)) (q : QueryId) : ℕ → List (ℕ × Entry Meaning) → Type 0 where
  Collects : (n m : ℕ) (e : Entry Meaning) → e.event ≡ event.Collect q → is_collected e.reply ≡ true → Works h q n ((m, e) ∷ [])
  Job : (n m : ℕ) (query : Query) (last : ℕ × Entry Meaning) (before rest : List (ℕ × Entry Meaning)) →
      slice_get (state (take n h)).queries q.0 ≡ Some query → IsOpen (take n h) query →
      IsJob h (before ++ last ∷ []) →
      Works h q last.0 rest → Works h q n (before ++ last ∷ rest)

-- a lookup: its order, names, level and note
pub record Lookup : Type 0 where
  pub order : List OrderItem
  pub wanted : List Wanted
  pub level : Level
  pub note : Option ℕ

abbrev pub lookup_event : Lookup → Event Meaning
lookup_event l = event.Ask l.order l.wanted l.level l.note

abbrev pub EndsAsk : List (Entry Meaning) → ℕ → Reply → List (ℕ × Entry Meaning) → Type 0
EndsAsk h n (reply.Done q) cs = Works h q n cs
EndsAsk h n (reply.Pending q) cs = Works h q n cs
EndsAsk h n (reply.InError i) cs = cs ≡ []
EndsAsk h n (reply.Missing name) cs = cs ≡ []
EndsAsk h n (reply.NoDylib d) cs = cs ≡ []
EndsAsk h n _ cs = ⊥

-- the entries of a lookup: each generator that is offered is used, and the names are asked for again
pub data Looks (h : List (Entry Meaning)) (l : Lookup) : List (ℕ × Entry Meaning) → Type 0 where
  Asks : (n : ℕ) (e : Entry Meaning) (cs : List (ℕ × Entry Meaning)) → e.event ≡ lookup_event l → EndsAsk h n e.reply cs → Looks h l ((n, e) ∷ cs)
  Again : (n m : ℕ) (e f : Entry Meaning) (g : GenId) (cs : List (ℕ × Entry Meaning)) → e.event ≡ lookup_event l → e.reply ≡ reply.Offer g → f.event ≡ event.Generate g → Looks h l cs → Looks h l ((n, e) ∷ (m, f) ∷ cs)

-- A line that was stopped has a beginning of such a list. Where it was stopped in a job, the job's one
-- fail is the end of that beginning.
pub record IsStopped (whole : List (ℕ × Entry Meaning) → Type 0) (cs : List (ℕ × Entry Meaning)) : Type 0 where
  pub rest : List (ℕ × Entry Meaning)
  pub would : whole (cs ++ rest)
