-- Only an ask and a link lodge a query, and only where they are answered so.
use Rattle.std.proofs.Common.{◌≡◌, ℕ, ◌+◌, Bool, true, false, not, ◌&&◌, ◌||◌, ◌==◌, map, List, [], ◌∷◌, ◌++◌, length, slice_get, flat_map, Option, Some, None, option_map, unwrap_or, refl, ap, sym, subst, ◌∙◌}
use Rattle.std.specs.Bool.{if◌then◌else◌}
use Rattle.std.specs.List.{position_from}
use Rattle.std.specs.Option.{option_map_or}
use Rattle.std.specs.Prelude.{nat_lt, nat_le}
use Rattle.std.proofs.lemmas.Bool.{both_ways}
use Rattle.orc_ids.specs.declared.ids.DylibId.{DylibId}
use Rattle.orc_ids.specs.declared.ids.GenId.{GenId}
use Rattle.orc_ids.specs.declared.ids.InstId.{InstId}
use Rattle.orc_ids.specs.declared.ids.NameId.{NameId}
use Rattle.orc_ids.specs.declared.ids.TrackId.{TrackId}
use Rattle.orc_ids.specs.declared.ids.UnitId.{UnitId}
use Rattle.orc_ids.specs.declared.flags.SymFlags.{SymFlags}
use Rattle.orc_ids.specs.declared.groups.Group.{Group}
use Rattle.orc_ids.specs.declared.limits.TheConstants.{DYLIB_LIMIT, TRACKER_LIMIT, UNIT_LIMIT, GENERATOR_LIMIT, INSTANCE_LIMIT}
use Rattle.orc_ids.specs.declared.lookup.Level.{Level}
use Rattle.orc_ids.specs.declared.lookup.Level.TheVariants as level
use Rattle.orc_ids.specs.declared.place.Shape.{Shape}
use Rattle.session_model.specs.Lists.{changed_at, first_some, only_if}
use Rattle.session_model.specs.Meaning.{Meaning}
use Rattle.session_model.specs.Plain.{Plain, UnitRow, GenRow, empty, has_dylib, has_tracker, is_tracker_of, tracker_dylib, failed_at, present_at, unsearched_at}
use Rattle.session_model.specs.Answer.{Answers, AnswersCall, AnswersCollect, AnswersFinish, AnswersTake, AnswersPlace, called, can_place, can_resolve, can_emit, no_dylib, order_dylibs, tracker_gone, not_tracker_of, clash, bad_dep, answer_dylib, answer_move, answer_unit, answer_generate}
use Rattle.session_model.specs.Change.{verdict, change_of, changed, defined, spent, lodged, resolved_unit, resolved_row, moved_unit, moved_generator, gone_tracker}
use Rattle.session_model.specs.State.{state}
use Rattle.session_model.specs.declared.change.Change.{Change}
use Rattle.session_model.specs.declared.change.Change.TheVariants.{Nothing, MakeDylib, MakeTracker, SetOrder, Attach, Define, Generate, Spend, Ask, Start, Finish, Place, Resolve, Link, Emit, Fail, Move, Remove, LetGo}
use Rattle.session_model.specs.declared.entry.Entry.{Entry}
use Rattle.session_model.specs.declared.entry.Event.{Event}
use Rattle.session_model.specs.declared.entry.Event.TheVariants as event
use Rattle.session_model.specs.declared.entry.Reply.{Reply}
use Rattle.session_model.specs.declared.entry.Reply.TheVariants as reply
use Rattle.session_model.specs.declared.rows.InstRow.{InstRow}
use Rattle.session_model.specs.declared.rows.Job.{Job}
use Rattle.session_model.specs.declared.rows.Job.TheVariants as job
use Rattle.session_model.specs.declared.rows.Query.{Query}
use Rattle.session_model.specs.declared.rows.Verdict.{Verdict}
use Rattle.session_model.specs.declared.rows.Verdict.TheVariants.{Kept, Replaces, Discarded, Clashes}
use Rattle.session_laws.proofs.Declared.{state_from_push, all_claimed_queries, call_cases, AllReplies, replies_map, replies_only, replies_first, replies_or, chosen, settled_queries}
use Rattle.closure_laws.specs.Quiet.{stirs}
use Rattle.session_steps.specs.Fires.{is_lodged}
use Rattle.history_laws.specs.Laws.{may_settle, may_lodge}
use Rattle.history_laws.specs.Notes.{event_note}

-- Replies to the other events

abbrev NotLodged : Reply → Type 0
NotLodged r = is_lodged r ≡ false

no_dylib_unlodged : (m : Plain) (ds : List DylibId) → AllReplies NotLodged (no_dylib m ds)
no_dylib_unlodged m ds = replies_first NotLodged (λ (d : DylibId). only_if (not (has_dylib m d.0)) (reply.NoDylib d)) (λ d. replies_only NotLodged (not (has_dylib m d.0)) (reply.NoDylib d) refl) ds

gone_unlodged : (m : Plain) (t : TrackId) → AllReplies NotLodged (tracker_gone m t)
gone_unlodged m t = replies_only NotLodged (not (has_tracker m t.0)) (reply.TrackerGone t) refl

not_tracker_unlodged : (m : Plain) (d : DylibId) (t : TrackId) → AllReplies NotLodged (not_tracker_of m d t)
not_tracker_unlodged m d t = replies_only NotLodged (not (is_tracker_of m d.0 t.0)) (reply.TrackerGone t) refl

clash_unlodged : (name : NameId) (v : Verdict) → AllReplies NotLodged (clash name v)
clash_unlodged name (Clashes i) = refl
clash_unlodged name Kept = tt
clash_unlodged name (Replaces i) = tt
clash_unlodged name Discarded = tt

bad_dep_unlodged : (rows : List InstRow) (groups : List Group) → AllReplies NotLodged (bad_dep rows groups)
bad_dep_unlodged rows groups = replies_first NotLodged (λ (i : InstId). only_if (failed_at rows i.0 || not (present_at rows i.0) || unsearched_at rows i.0) (reply.BadDep i))
    (λ i. replies_only NotLodged (failed_at rows i.0 || not (present_at rows i.0) || unsearched_at rows i.0) (reply.BadDep i) refl) (flat_map (λ (g : Group). g.deps) groups)

-- a limit that is reached, or what comes after
limit_unlodged : (b : Bool) (last : Reply) → NotLodged last → NotLodged (unwrap_or (only_if b reply.TooMany) last)
limit_unlodged b last h = replies_or NotLodged (only_if b reply.TooMany) last (replies_only NotLodged b reply.TooMany refl) h

dylib_unlodged : (m : Plain) (name : NameId) → NotLodged (answer_dylib m name)
dylib_unlodged m name = replies_or NotLodged (option_map (λ d. reply.NameTaken (record { 0 = d })) (position_from (λ d. d.name == name.0) 0 m.dylibs)) _
    (replies_map NotLodged (λ d. reply.NameTaken (record { 0 = d })) (λ d. refl) (position_from (λ d. d.name == name.0) 0 m.dylibs))
    (limit_unlodged (nat_le DYLIB_LIMIT (length m.dylibs)) (reply.Made (record { 0 = length m.dylibs })) refl)

unit_unlodged : (m : Plain) (d : ℕ) (u : Meaning) → NotLodged (answer_unit m d u)
unit_unlodged m d u = limit_unlodged (nat_le UNIT_LIMIT (length m.units) || nat_lt INSTANCE_LIMIT (length m.rows + length u.offers)) _
    (replies_or NotLodged (first_some (λ (offer : NameId × SymFlags). clash offer.0 (verdict m.rows d offer)) u.offers) _
    (replies_first NotLodged (λ (offer : NameId × SymFlags). clash offer.0 (verdict m.rows d offer)) (λ offer. clash_unlodged offer.0 (verdict m.rows d offer)) u.offers) refl)

generate_unlodged : (m : Plain) (g : GenId) → NotLodged (answer_generate m g)
generate_unlodged m g = split (slice_get m.generators g.0)
  where
    split : (o : Option GenRow) → NotLodged (option_map_or (λ x. if x.spent then reply.Spent g else answer_unit m x.dylib x.meaning) o (reply.NoGen g))
    split None = refl
    split (Some x) = chosen NotLodged x.spent (reply.Spent g) (answer_unit m x.dylib x.meaning) (λ b. refl) (λ b. unit_unlodged m x.dylib x.meaning)

move_unlodged : (m : Plain) (t to : TrackId) → NotLodged (answer_move m t to)
move_unlodged m t to = replies_or NotLodged (tracker_gone m t) _ (gone_unlodged m t) (replies_or NotLodged (tracker_gone m to) _ (gone_unlodged m to)
    (replies_or NotLodged (only_if (not (tracker_dylib m t.0 == tracker_dylib m to.0)) reply.OtherDylib) _ (replies_only NotLodged (not (tracker_dylib m t.0 == tracker_dylib m to.0)) reply.OtherDylib refl) refl))

collect_unlodged : (past : List (Entry Meaning)) (m : Plain) (q : ℕ) (r : Reply) → AnswersCollect past m q r → NotLodged r
collect_unlodged past m q (reply.Done k) a = absurd a
collect_unlodged past m q (reply.Pending k) a = absurd a
collect_unlodged past m q _ a = refl

finish_unlodged : (past : List (Entry Meaning)) (m : Plain) (u : ℕ) (r : Reply) → AnswersFinish past m u r → NotLodged r
finish_unlodged past m u (reply.Done k) a = absurd a
finish_unlodged past m u (reply.Pending k) a = absurd a
finish_unlodged past m u _ a = refl

take_unlodged : (past : List (Entry Meaning)) (m : Plain) (jobs : List Job) (r : Reply) → AnswersTake past m jobs r → NotLodged r
take_unlodged past m [] r a = absurd a
take_unlodged past m (job.Start u ∷ js) r a = ap is_lodged a
take_unlodged past m (job.Finish u ∷ js) r a = finish_unlodged past m u.0 r a

place_unlodged : (m : Plain) (shape : Shape) (r : Reply) → AnswersPlace m shape r → NotLodged r
place_unlodged m shape (reply.Done k) a = absurd a
place_unlodged m shape (reply.Pending k) a = absurd a
place_unlodged m shape _ a = refl

-- a call on a unit, where its own answer isn't one
call_unlodged : (m : Plain) (s : ℕ) (u : UnitId) (test : UnitRow → Bool) (P : UnitRow → Type 0) (r : Reply) → AnswersCall (called m s u test) u P r → ((x : UnitRow) → P x → NotLodged r) → NotLodged r
call_unlodged m s u test P r a h = call_cases m s u test P r a (λ x t d e. ap is_lodged e) (λ e w. ap is_lodged e) (λ x t d g f p. h x p)

pub unlodged : (jmax : ℕ) (past : List (Entry Meaning)) (m : Plain) (s : ℕ) (e : Event Meaning) (r : Reply) → Answers jmax past m s e r → may_lodge e ≡ false → NotLodged r
unlodged jmax past m s (event.Dylib name) r a l = ap is_lodged a ∙ dylib_unlodged m name
unlodged jmax past m s (event.SetOrder d order) r a l = ap is_lodged a.1 ∙ replies_or NotLodged (no_dylib m (d ∷ order_dylibs order)) _ (no_dylib_unlodged m (d ∷ order_dylibs order)) refl
unlodged jmax past m s (event.Attach d t u) r a l = ap is_lodged a.1 ∙ replies_or NotLodged (no_dylib m (d ∷ [])) _ (no_dylib_unlodged m (d ∷ [])) (replies_or NotLodged (not_tracker_of m d t) _ (not_tracker_unlodged m d t)
    (limit_unlodged (nat_le GENERATOR_LIMIT (length m.generators)) (reply.Generator (record { 0 = length m.generators })) refl))
unlodged jmax past m s (event.Define d t u) r a l = ap is_lodged a.1 ∙ replies_or NotLodged (no_dylib m (d ∷ [])) _ (no_dylib_unlodged m (d ∷ [])) (replies_or NotLodged (not_tracker_of m d t) _ (not_tracker_unlodged m d t) (unit_unlodged m d.0 u))
unlodged jmax past m s (event.Generate g) r a l = ap is_lodged a ∙ generate_unlodged m g
unlodged jmax past m s (event.Ask order wanted lev n) r a l = absurd (both_ways true l refl)
unlodged jmax past m s (event.Collect q) r a l = collect_unlodged past m q.0 r a
unlodged jmax past m s event.Take r a l = take_unlodged past m m.jobs r a
unlodged jmax past m s (event.Place u shape) r a l = call_unlodged m s u can_place _ r a (λ x p. place_unlodged m shape r p.1)
unlodged jmax past m s (event.Resolve u) r a l = call_unlodged m s u can_resolve _ r a (λ x p. ap is_lodged p)
unlodged jmax past m s (event.Link u) r a l = absurd (both_ways true l refl)
unlodged jmax past m s (event.Emit u groups) r a l = call_unlodged m s u can_emit _ r a (λ x p. ap is_lodged p.2 ∙ replies_or NotLodged (bad_dep m.rows groups) reply.Emitted (bad_dep_unlodged m.rows groups) refl)
unlodged jmax past m s (event.Fail u why) r a l = call_unlodged m s u (λ x. true) _ r a (λ x p. ap is_lodged p.1)
unlodged jmax past m s (event.Tracker d) r a l = ap is_lodged a ∙ replies_or NotLodged (no_dylib m (d ∷ [])) _ (no_dylib_unlodged m (d ∷ [])) (limit_unlodged (nat_le TRACKER_LIMIT (length m.trackers)) (reply.Tracker (record { 0 = length m.trackers })) refl)
unlodged jmax past m s (event.MoveTracker t to) r a l = ap is_lodged a ∙ move_unlodged m t to
unlodged jmax past m s (event.Remove t) r a l = ap is_lodged a ∙ replies_or NotLodged (tracker_gone m t) _ (gone_unlodged m t) refl
unlodged jmax past m s event.Image r a l = ap is_lodged a

-- Changes

-- the note that a change lodges a query with
abbrev lodged_note : Change Meaning → Option (Option ℕ)
lodged_note (Ask found lev n) = Some n
lodged_note (Link u found) = Some None
lodged_note _ = None

-- the change stirs only for an event that may settle, and lodges just for one that may lodge and is answered so
abbrev IsOf : Event Meaning → Reply → Change Meaning → Type 0
IsOf e r c = ((stirs c && not (may_settle e)) ≡ false) × (lodged_note c ≡ only_if (may_lodge e && is_lodged r) (event_note e))

change_is_of : (m : Plain) (s : ℕ) (e : Event Meaning) (r : Reply) → IsOf e r (change_of m s e r)
change_is_of m s (event.Dylib name) (reply.Made d) = (refl, refl)
change_is_of m s (event.Dylib name) _ = (refl, refl)
change_is_of m s (event.SetOrder d order) reply.Set = (refl, refl)
change_is_of m s (event.SetOrder d order) _ = (refl, refl)
change_is_of m s (event.Attach d t u) (reply.Generator g) = (refl, refl)
change_is_of m s (event.Attach d t u) _ = (refl, refl)
change_is_of m s (event.Define d t u) (reply.Defined v first count) = (refl, refl)
change_is_of m s (event.Define d t u) _ = (refl, refl)
change_is_of m s (event.Generate g) (reply.Defined v first count) = (refl, refl)
change_is_of m s (event.Generate g) _ = (refl, refl)
change_is_of m s (event.Ask order wanted lev n) (reply.Done q) = (refl, refl)
change_is_of m s (event.Ask order wanted lev n) _ = (refl, refl)
change_is_of m s (event.Collect q) (reply.Defunct u) = (refl, refl)
change_is_of m s (event.Collect q) _ = (refl, refl)
change_is_of m s event.Take (reply.Start u) = (refl, refl)
change_is_of m s event.Take _ = (refl, refl)
change_is_of m s (event.Place u shape) (reply.Placed base) = (refl, refl)
change_is_of m s (event.Place u shape) _ = (refl, refl)
change_is_of m s (event.Resolve u) reply.Resolved = (refl, refl)
change_is_of m s (event.Resolve u) _ = (refl, refl)
change_is_of m s (event.Link u) (reply.Done q) = (refl, refl)
change_is_of m s (event.Link u) _ = (refl, refl)
change_is_of m s (event.Emit u groups) reply.Emitted = (refl, refl)
change_is_of m s (event.Emit u groups) _ = (refl, refl)
change_is_of m s (event.Fail u why) reply.Failed = (refl, refl)
change_is_of m s (event.Fail u why) _ = (refl, refl)
change_is_of m s (event.Tracker d) (reply.Tracker t) = (refl, refl)
change_is_of m s (event.Tracker d) _ = (refl, refl)
change_is_of m s (event.MoveTracker t to) reply.Moved = (refl, refl)
change_is_of m s (event.MoveTracker t to) _ = (refl, refl)
change_is_of m s (event.Remove t) reply.Removed = (refl, refl)
change_is_of m s (event.Remove t) _ = (refl, refl)
change_is_of m s event.Image (reply.Defunct u) = (refl, refl)
change_is_of m s event.Image _ = (refl, refl)

-- an event that settles nothing stirs nothing
pub unstirred : (m : Plain) (s : ℕ) (e : Event Meaning) (r : Reply) → may_settle e ≡ false → stirs (change_of m s e r) ≡ false
unstirred m s e r quiet = split (stirs (change_of m s e r)) (may_settle e) quiet (change_is_of m s e r).0
  where
    split : (b c : Bool) → c ≡ false → (b && not c) ≡ false → b ≡ false
    split true true q h = absurd (both_ways true q refl)
    split true false q h = h
    split false c q h = refl

-- Queries

-- the queries stay, or one more is asked, with this note
abbrev pub Lodges : Option (Option ℕ) → Plain → List Query → Type 0
Lodges (Some note) m qs = (q : Query) × (qs ≡ m.queries ++ q ∷ []) × (q.asked ≡ m.entries + 1) × (q.note ≡ note)
Lodges None m qs = qs ≡ m.queries

one_lodged : (m : Plain) (found : List (Option InstId)) (lev : Level) (unit n : Option ℕ) → Lodges (Some n) m (lodged found lev unit n m).queries
one_lodged m found lev unit n =
    let q : Query = record { asked = m.entries + 1; matched = found; level = lev; unit = unit; note = n } in
    (q, ap (λ qs. qs ++ q ∷ []) (all_claimed_queries found m), refl, refl)

change_lodges : (c : Change Meaning) (m : Plain) → Lodges (lodged_note c) m (changed c m).queries
change_lodges Nothing m = refl
change_lodges (MakeDylib name) m = refl
change_lodges (MakeTracker d) m = refl
change_lodges (SetOrder d order) m = refl
change_lodges (Attach d t u) m = refl
change_lodges (Define d t u found) m = refl
change_lodges (Generate k found) m = split (slice_get m.generators k.0)
  where
    split : (o : Option GenRow) → (option_map_or (λ x. spent k.0 (defined x.dylib x.tracker x.meaning found m)) o m).queries ≡ m.queries
    split None = refl
    split (Some x) = refl
change_lodges (Spend k) m = refl
change_lodges (Ask found lev n) m = one_lodged m found lev None n
change_lodges (Start t u) m = refl
change_lodges (Finish t u how) m = refl
change_lodges (Place u base) m = refl
change_lodges (Resolve u) m = split (slice_get m.units u.0)
  where
    split : (o : Option UnitRow) → (option_map_or (λ (x : UnitRow). record m { rows = map (resolved_row u.0 (resolved_unit x)) m.rows; units = changed_at u.0 resolved_unit m.units }) o m).queries ≡ m.queries
    split None = refl
    split (Some x) = refl
change_lodges (Link u found) m = one_lodged m found level.Resolved (Some u.0) None
change_lodges (Emit u groups) m = refl
change_lodges (Fail u) m = refl
change_lodges (Move t to) m = chosen (λ n. n.queries ≡ m.queries) (t.0 == to.0) m (record m { units = map (moved_unit t.0 to.0) m.units; generators = map (moved_generator t.0 to.0) m.generators; trackers = changed_at t.0 gone_tracker m.trackers }) (λ b. refl) (λ b. refl)
change_lodges (Remove t) m = refl
change_lodges (LetGo t u) m = refl

-- one more entry, whether or not it is a right one
pub lodges : (h : List (Entry Meaning)) (e : Entry Meaning) → Lodges (only_if (may_lodge e.event && is_lodged e.reply) (event_note e.event)) (state h) (state (h ++ e ∷ [])).queries
lodges h e = subst (Lodges (only_if (may_lodge e.event && is_lodged e.reply) (event_note e.event)) m) (sym (ap (λ (n : Plain). n.queries) (state_from_push empty h e) ∙ settled_queries (changed c m)))
    (subst (λ o. Lodges o m (changed c m).queries) (change_is_of m e.seat.0 e.event e.reply).1 (change_lodges c m))
  where
    m : Plain
    m = state h

    c : Change Meaning
    c = change_of m e.seat.0 e.event e.reply

-- one with a right reply
pub entry_lodges : (jmax : ℕ) (h : List (Entry Meaning)) (e : Entry Meaning) → Answers jmax h (state h) e.seat.0 e.event e.reply → Lodges (only_if (is_lodged e.reply) (event_note e.event)) (state h) (state (h ++ e ∷ [])).queries
entry_lodges jmax h e a = subst (λ b. Lodges (only_if b (event_note e.event)) (state h) (state (h ++ e ∷ [])).queries) (both (may_lodge e.event) refl) (lodges h e)
  where
    both : (b : Bool) → may_lodge e.event ≡ b → (b && is_lodged e.reply) ≡ is_lodged e.reply
    both true is = refl
    both false is = sym (unlodged jmax h (state h) e.seat.0 e.event e.reply a is)
