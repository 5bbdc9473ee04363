-- Which replies are right. For each event the answers are tried in the order written here.
use Rattle.std.specs.Prelude.{◌≡◌, ℕ, ◌+◌, ◌%◌, ◌≤◌, Bool, true, false, ◌&&◌, ◌||◌, ◌==◌, ◌⊎◌, not, nat_eq, nat_lt, nat_le, List, [], ◌∷◌, length, slice_get, map, count_by, flat_map, filter_map, All, Option, Some, None, IfSome, is_some, is_none, option_map, unwrap_or, if◌then◌else◌}
use Rattle.std.specs.List.{position_from}
use Rattle.std.specs.Option.{option_map_or}
use Rattle.orc_ids.specs.declared.ids.DylibId.{DylibId}
use Rattle.orc_ids.specs.declared.ids.GenId.{GenId}
use Rattle.orc_ids.specs.declared.ids.InstId.{InstId}
use Rattle.orc_ids.specs.declared.ids.NameId.{NameId}
use Rattle.orc_ids.specs.declared.ids.QueryId.{QueryId}
use Rattle.orc_ids.specs.declared.ids.TrackId.{TrackId}
use Rattle.orc_ids.specs.declared.ids.UnitId.{UnitId}
use Rattle.orc_ids.specs.declared.flags.SymFlags.{SymFlags}
use Rattle.orc_ids.specs.declared.groups.Group.{Group}
use Rattle.orc_ids.specs.declared.lookup.Level.{Level}
use Rattle.orc_ids.specs.declared.lookup.Level.TheVariants as level
use Rattle.orc_ids.specs.declared.lookup.OrderItem.{OrderItem}
use Rattle.orc_ids.specs.declared.lookup.Wanted.{Wanted}
use Rattle.orc_ids.specs.declared.place.Shape.{Shape}
use Rattle.orc_ids.specs.declared.limits.TheConstants.{CODE_START, CODE_END, DYLIB_LIMIT, TRACKER_LIMIT, UNIT_LIMIT, GENERATOR_LIMIT, INSTANCE_LIMIT, ORDER_LIMIT, WANTED_LIMIT}
use Rattle.session_model.specs.Lists.{or_else, first_some, only_if}
use Rattle.session_model.specs.Meaning.{Meaning, Bindings}
use Rattle.session_model.specs.Plain.{Plain, UnitRow, Range, is_alias, unit_shape, placements, has_dylib, has_tracker, is_tracker_of, tracker_dylib, kept, failed_at, present_at, unsearched_at, own_rows, is_defunct}
use Rattle.session_model.specs.Match.{Match, Instance, Offered, match_of}
use Rattle.session_model.specs.Query.{Ending, Found, Lost, all_at}
use Rattle.session_model.specs.Chain.{comes_to_unit}
use Rattle.session_model.specs.Change.{Verdict, Clashes, verdict, verdicts, kept_names, matched, link_order, link_matches}
use Rattle.session_model.specs.State.{IsEnd}
use Rattle.session_model.specs.declared.entry.Entry.{Entry}
use Rattle.session_model.specs.declared.entry.Event.{Event}
use Rattle.session_model.specs.declared.entry.Event.TheVariants as event
use Rattle.session_model.specs.declared.entry.Finishing.TheVariants as finishing
use Rattle.session_model.specs.declared.entry.Reply.{Reply}
use Rattle.session_model.specs.declared.entry.Reply.TheVariants as reply
use Rattle.session_model.specs.declared.entry.Why.{Why}
use Rattle.session_model.specs.declared.entry.Why.TheVariants as why
use Rattle.session_model.specs.declared.rows.InstRow.{InstRow}
use Rattle.session_model.specs.declared.rows.Job.{Job}
use Rattle.session_model.specs.declared.rows.Job.TheVariants as job
use Rattle.session_model.specs.declared.rows.UnitPhase.{UnitPhase}
use Rattle.session_model.specs.declared.rows.UnitPhase.TheVariants as stage

-- the first reply that is there, or else the last
abbrev pub first_reply : List (Option Reply) → Reply → Reply
first_reply [] last = last
first_reply (r ∷ rs) last = unwrap_or r (first_reply rs last)

-- Dylibs, orders and trackers

-- the first dylib that doesn't exist
abbrev pub no_dylib : Plain → List DylibId → Option Reply
no_dylib m ds = first_some (λ (d : DylibId). only_if (not (has_dylib m d.0)) (reply.NoDylib d)) ds

abbrev pub order_dylibs : List OrderItem → List DylibId
order_dylibs order = map (λ (item : OrderItem). item.dylib) order

abbrev pub answer_dylib : Plain → NameId → Reply
answer_dylib m name = first_reply
    (option_map (λ d. reply.NameTaken (record { 0 = d })) (position_from (λ d. d.name == name.0) 0 m.dylibs)
    ∷ only_if (nat_le DYLIB_LIMIT (length m.dylibs)) reply.TooMany ∷ [])
    (reply.Made (record { 0 = length m.dylibs }))

abbrev pub answer_set_order : Plain → DylibId → List OrderItem → Reply
answer_set_order m d order = first_reply (no_dylib m (d ∷ order_dylibs order) ∷ []) reply.Set

abbrev pub answer_tracker : Plain → DylibId → Reply
answer_tracker m d = first_reply
    (no_dylib m (d ∷ []) ∷ only_if (nat_le TRACKER_LIMIT (length m.trackers)) reply.TooMany ∷ [])
    (reply.Tracker (record { 0 = length m.trackers }))

abbrev pub tracker_gone : Plain → TrackId → Option Reply
tracker_gone m t = only_if (not (has_tracker m t.0)) (reply.TrackerGone t)

abbrev pub answer_move : Plain → TrackId → TrackId → Reply
answer_move m t to = first_reply
    (tracker_gone m t ∷ tracker_gone m to
    ∷ only_if (not (tracker_dylib m t.0 == tracker_dylib m to.0)) reply.OtherDylib ∷ [])
    reply.Moved

abbrev pub answer_remove : Plain → TrackId → Reply
answer_remove m t = first_reply (tracker_gone m t ∷ []) reply.Removed

-- Definitions and generators

-- the tracker is not this dylib's
abbrev pub not_tracker_of : Plain → DylibId → TrackId → Option Reply
not_tracker_of m d t = only_if (not (is_tracker_of m d.0 t.0)) (reply.TrackerGone t)

abbrev pub clash : NameId → Verdict → Option Reply
clash name (Clashes i) = Some (reply.Duplicate name i)
clash name _ = None

-- a unit that is an alias looks its target up in a dylib that exists
abbrev pub HasSource : Plain → Meaning → Type 0
HasSource m u = IfSome u.source (λ (d : DylibId). has_dylib m d.0 ≡ true)

-- what defining a unit in a dylib is answered
abbrev pub answer_unit : Plain → ℕ → Meaning → Reply
answer_unit m d u = first_reply
    (only_if (nat_le UNIT_LIMIT (length m.units) || nat_lt INSTANCE_LIMIT (length m.rows + length u.offers)) reply.TooMany
    ∷ first_some (λ (offer : NameId × SymFlags). clash offer.0 (verdict m.rows d offer)) u.offers ∷ [])
    (reply.Defined (record { 0 = length m.units }) (record { 0 = length m.rows }) (count_by (λ (b : Bool). b) (kept_names (verdicts m.rows d u.offers))))

abbrev pub answer_define : Plain → DylibId → TrackId → Meaning → Reply
answer_define m d t u = first_reply (no_dylib m (d ∷ []) ∷ not_tracker_of m d t ∷ []) (answer_unit m d.0 u)

abbrev pub answer_attach : Plain → DylibId → TrackId → Reply
answer_attach m d t = first_reply
    (no_dylib m (d ∷ []) ∷ not_tracker_of m d t ∷ only_if (nat_le GENERATOR_LIMIT (length m.generators)) reply.TooMany ∷ [])
    (reply.Generator (record { 0 = length m.generators }))

abbrev pub answer_generate : Plain → GenId → Reply
answer_generate m g = option_map_or
    (λ x. if x.spent then reply.Spent g else answer_unit m x.dylib x.meaning)
    (slice_get m.generators g.0)
    (reply.NoGen g)

-- Lookups

abbrev pub offer_of : Option Match → Option Reply
offer_of (Some (Offered g)) = Some (reply.Offer g)
offer_of _ = None

abbrev pub error_of : Plain → Option Match → Option Reply
error_of m (Some (Instance i)) = only_if (failed_at m.rows i.0) (reply.InError i)
error_of m _ = None

-- a required name without a match
abbrev pub missing_of : Plain → List OrderItem → Wanted → Option Reply
missing_of m order w = only_if (not w.weak && is_none (match_of m order w.name.0)) (reply.Missing w.name)

-- why names can't be asked for in this order: one is offered, failed, or has no match
abbrev pub refused_lookup : Plain → List OrderItem → List Wanted → Option Reply
refused_lookup m order wanted = or_else (first_some (λ (w : Wanted). offer_of (match_of m order w.name.0)) wanted)
    (or_else (first_some (λ (w : Wanted). error_of m (match_of m order w.name.0)) wanted)
    (first_some (missing_of m order) wanted))

-- a query for what was matched; with all at its level at once it is done
abbrev pub lodged_reply : Plain → Level → List (Option InstId) → Reply
lodged_reply m lev found =
    let q : QueryId = record { 0 = length m.queries } in
    if all_at m.rows lev found then reply.Done q else reply.Pending q

abbrev pub answer_lookup : Plain → List OrderItem → List Wanted → Level → Reply
answer_lookup m order wanted lev = unwrap_or (refused_lookup m order wanted) (lodged_reply m lev (matched m order wanted))

abbrev pub answer_ask : Plain → List OrderItem → List Wanted → Level → Reply
answer_ask m order wanted lev = first_reply (no_dylib m (order_dylibs order) ∷ []) (answer_lookup m order wanted lev)

-- a query's end, once it settled; an open one makes no entry
abbrev pub AnswersCollect : List (Entry Meaning) → Plain → ℕ → Reply → Type 0
AnswersCollect past m q (reply.Unknown r) = (r.0 ≡ q) × (length m.queries ≤ q)
AnswersCollect past m q (reply.Found n matches) = IsEnd past q n (Found matches)
AnswersCollect past m q (reply.Lost n i) = IsEnd past q n (Lost i)
AnswersCollect past m q _ = ⊥

-- Jobs

-- the unit's link query ended so
pub record LinkEnded (past : List (Entry Meaning)) (m : Plain) (u : ℕ) (end : Ending) : Type 0 where
  pub unit : UnitRow
  pub there : slice_get m.units u ≡ Some unit
  pub query : ℕ
  pub its : unit.query ≡ Some query
  pub at : ℕ
  pub ended : IsEnd past query at end

abbrev pub AnswersFinish : List (Entry Meaning) → Plain → ℕ → Reply → Type 0
AnswersFinish past m u (reply.Finish v (finishing.Bound matches)) = (v.0 ≡ u) × LinkEnded past m u (Found matches)
AnswersFinish past m u (reply.Finish v (finishing.Lost i)) = (v.0 ≡ u) × LinkEnded past m u (Lost i)
AnswersFinish past m u _ = ⊥

-- the oldest job; with none listed there is no entry
abbrev pub AnswersTake : List (Entry Meaning) → Plain → List Job → Reply → Type 0
AnswersTake past m [] r = ⊥
AnswersTake past m (job.Start u ∷ js) r = r ≡ reply.Start u
AnswersTake past m (job.Finish u ∷ js) r = AnswersFinish past m u.0 r

-- Calls on a unit

-- the unit is gone; or it isn't at the phase of the call, or not held by the seat; or here it is
pub data Called : Type 0 where
  Gone : Called
  Wrong : Called
  Right : UnitRow → Called

abbrev pub is_held : ℕ → UnitRow → Bool
is_held s x = option_map_or (nat_eq s) x.seat false

abbrev pub called : Plain → ℕ → UnitId → (UnitRow → Bool) → Called
called m s u fits = option_map_or
    (λ x. if is_defunct x.phase then Gone else (if is_held s x && fits x then Right x else Wrong))
    (slice_get m.units u.0)
    Wrong

abbrev pub AnswersCall : Called → UnitId → (UnitRow → Type 0) → Reply → Type 0
AnswersCall Gone u P r = r ≡ reply.Defunct u
AnswersCall Wrong u P r = r ≡ reply.WrongPhase u
AnswersCall (Right x) u P r = P x

abbrev pub is_stage : UnitPhase → UnitPhase → Bool
is_stage stage.Started stage.Started = true
is_stage stage.Placed stage.Placed = true
is_stage stage.Linking stage.Linking = true
is_stage stage.Finishing stage.Finishing = true
is_stage _ _ = false

-- Which call may come now

abbrev pub can_place : UnitRow → Bool
can_place x = is_stage stage.Started x.phase && is_some (unit_shape x)

-- an alias is resolved once it is bound, and once
abbrev pub can_resolve : UnitRow → Bool
can_resolve x =
    if is_alias x then is_stage stage.Finishing x.phase && is_some x.bound && is_none x.base
    else is_stage stage.Placed x.phase || is_stage stage.Started x.phase && is_none (unit_shape x)

-- an alias is linked before it has an address
abbrev pub can_link : UnitRow → Bool
can_link x = is_stage (if is_alias x then stage.Started else stage.Linking) x.phase

-- an alias is emitted after it was resolved
abbrev pub can_emit : UnitRow → Bool
can_emit x = is_stage stage.Finishing x.phase && is_some x.bound && (not (is_alias x) || is_some x.base)

-- Placing

abbrev pub Apart : Range → ℕ → ℕ → Type 0
Apart r base need = (r.base + r.need ≤ base) ⊎ (base + need ≤ r.base)

-- a range that may be given out: aligned, in code memory, and apart from all placements
pub record IsFree (units : List UnitRow) (shape : Shape) (base : ℕ) : Type 0 where
  pub aligned : base % shape.align ≡ 0
  pub starts : CODE_START ≤ base
  pub ends : base + shape.need ≤ CODE_END
  pub apart : All (λ r. Apart r base shape.need) (placements units)

-- any free range will do; with none there is no room
abbrev pub AnswersPlace : Plain → Shape → Reply → Type 0
AnswersPlace m shape (reply.Placed base) = IsFree m.units shape base
AnswersPlace m shape (reply.NoRoom need) = (need ≡ shape.need) × ((base : ℕ) → IsFree m.units shape base → ⊥)
AnswersPlace m shape _ = ⊥

-- Linking

-- the first instance that the target of an alias matched, where the alias itself is what it stands for
abbrev pub alias_cycle : Plain → ℕ → UnitRow → Option Reply
alias_cycle m u x = first_some (λ (i : InstId). only_if (comes_to_unit m.rows m.units m.queries u i.0) (reply.AliasCycle i))
    (if is_alias x then filter_map (λ (o : Option InstId). o) (link_matches m x) else [])

abbrev pub answer_link : Plain → ℕ → UnitRow → Reply
answer_link m u x = unwrap_or
    (or_else (refused_lookup m (link_order m x) (x.meaning.externals x.live)) (alias_cycle m u x))
    (lodged_reply m level.Resolved (link_matches m x))

-- Emitting

-- the first dependency, in group order, that can't be depended on
abbrev pub bad_dep : List InstRow → List Group → Option Reply
bad_dep rows groups = first_some
    (λ (i : InstId). only_if (failed_at rows i.0 || not (present_at rows i.0) || unsearched_at rows i.0) (reply.BadDep i))
    (flat_map (λ (g : Group). g.deps) groups)

-- the groups are the unit's own, and no edge of it is out of range
abbrev pub AnswersEmit : Plain → ℕ → List Group → UnitRow → Reply → Type 0
AnswersEmit m u groups x r =
    let base = unwrap_or x.base 0 in
    let bound = unwrap_or x.bound [] in
    (groups ≡ x.meaning.groups x.live base bound (own_rows u 0 m.rows))
    × (x.meaning.refusal x.live base bound ≡ None)
    × (r ≡ first_reply (bad_dep m.rows groups ∷ []) reply.Emitted)

-- Failing, and its cause

-- Defunct and WrongPhase
abbrev pub is_turned_away : Reply → Bool
is_turned_away (reply.Defunct u) = true
is_turned_away (reply.WrongPhase u) = true
is_turned_away _ = false

-- the last other reply that such an event was given
abbrev pub last_reply : (Event Meaning → Bool) → List (Entry Meaning) → Option Reply
last_reply test [] = None
last_reply test (e ∷ es) = or_else (last_reply test es) (only_if (test e.event && not (is_turned_away e.reply)) e.reply)

abbrev pub is_link_of : ℕ → Event Meaning → Bool
is_link_of u (event.Link v) = v.0 == u
is_link_of u _ = false

abbrev pub is_emit_of : ℕ → Event Meaning → Bool
is_emit_of u (event.Emit v groups) = v.0 == u
is_emit_of u _ = false

abbrev pub is_place_of : ℕ → Event Meaning → Bool
is_place_of u (event.Place v shape) = v.0 == u
is_place_of u _ = false

abbrev pub HasCause : ℕ → List (Entry Meaning) → Plain → ℕ → UnitRow → Why → Type 0
HasCause jmax past m u x (why.Refused place kind v) = (is_stage stage.Finishing x.phase ≡ true) × ((bound : Bindings) × (x.bound ≡ Some bound) × (x.meaning.refusal x.live (unwrap_or x.base 0) bound ≡ Some (place, kind, v)))
HasCause jmax past m u x (why.Missing name) = last_reply (is_link_of u) past ≡ Some (reply.Missing name)
HasCause jmax past m u x (why.AliasCycle i) = last_reply (is_link_of u) past ≡ Some (reply.AliasCycle i)
HasCause jmax past m u x (why.InError i) = (last_reply (is_link_of u) past ≡ Some (reply.InError i)) ⊎ ((is_stage stage.Finishing x.phase ≡ true) × (x.bound ≡ None) × LinkEnded past m u (Lost i))
HasCause jmax past m u x (why.BadDep i) = last_reply (is_emit_of u) past ≡ Some (reply.BadDep i)
HasCause jmax past m u x (why.NoRoom need) = last_reply (is_place_of u) past ≡ Some (reply.NoRoom need)
HasCause jmax past m u x why.NoMemory = Unit {0}
HasCause jmax past m u x why.Full = length past + kept m ≡ jmax

-- The reply to an event of a seat, after these entries, which lead to m. JMAX is how many places
-- the journal has.
abbrev pub Answers : ℕ → List (Entry Meaning) → Plain → ℕ → Event Meaning → Reply → Type 0
Answers jmax past m s (event.Dylib name) r = r ≡ answer_dylib m name
Answers jmax past m s (event.SetOrder d order) r = (length order ≤ ORDER_LIMIT) × (r ≡ answer_set_order m d order)
Answers jmax past m s (event.Attach d t u) r = HasSource m u × (r ≡ answer_attach m d t)
Answers jmax past m s (event.Define d t u) r = HasSource m u × (r ≡ answer_define m d t u)
Answers jmax past m s (event.Generate g) r = r ≡ answer_generate m g
Answers jmax past m s (event.Ask order wanted lev _) r = (length order ≤ ORDER_LIMIT) × (length wanted ≤ WANTED_LIMIT) × (r ≡ answer_ask m order wanted lev)
Answers jmax past m s (event.Collect q) r = AnswersCollect past m q.0 r
Answers jmax past m s event.Take r = AnswersTake past m m.jobs r
Answers jmax past m s (event.Place u shape) r = AnswersCall (called m s u can_place) u (λ x. (unit_shape x ≡ Some shape) × AnswersPlace m shape r) r
Answers jmax past m s (event.Resolve u) r = AnswersCall (called m s u can_resolve) u (λ x. r ≡ reply.Resolved) r
Answers jmax past m s (event.Link u) r = AnswersCall (called m s u can_link) u (λ x. r ≡ answer_link m u.0 x) r
Answers jmax past m s (event.Emit u groups) r = AnswersCall (called m s u can_emit) u (λ x. AnswersEmit m u.0 groups x r) r
Answers jmax past m s (event.Fail u why) r = AnswersCall (called m s u (λ x. true)) u (λ x. HasCause jmax past m u.0 x why × (r ≡ reply.Failed)) r
Answers jmax past m s (event.Tracker d) r = r ≡ answer_tracker m d
Answers jmax past m s (event.MoveTracker t to) r = r ≡ answer_move m t to
Answers jmax past m s (event.Remove t) r = r ≡ answer_remove m t
Answers jmax past m s event.Image r = r ≡ reply.Image
