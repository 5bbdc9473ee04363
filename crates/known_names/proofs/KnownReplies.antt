-- A right reply speaks of known names alone, where the session and the event do.
use Rattle.std.proofs.Common.{◌≡◌, ℕ, ◌+◌, true, not, ◌&&◌, ◌||◌, ◌==◌, List, [], ◌∷◌, length, slice_get, All, subst, sym, refl, Bool, Option, Some, None, option_map, unwrap_or}
use Rattle.std.specs.Prelude.{is_none, nat_lt, nat_le, filter_map, flat_map}
use Rattle.std.specs.Bool.{if◌then◌else◌}
use Rattle.std.specs.List.{position_from}
use Rattle.std.specs.Option.{option_map_or}
use Rattle.std.proofs.lemmas.List.Elements.{All-head, All-tail}
use Rattle.orc_ids.specs.declared.flags.SymFlags.{SymFlags}
use Rattle.orc_ids.specs.declared.groups.Group.{Group}
use Rattle.orc_ids.specs.declared.ids.DylibId.{DylibId}
use Rattle.orc_ids.specs.declared.ids.GenId.{GenId}
use Rattle.orc_ids.specs.declared.ids.InstId.{InstId}
use Rattle.orc_ids.specs.declared.ids.NameId.{NameId}
use Rattle.orc_ids.specs.declared.ids.TrackId.{TrackId}
use Rattle.orc_ids.specs.declared.ids.UnitId.{UnitId}
use Rattle.orc_ids.specs.declared.limits.TheConstants.{DYLIB_LIMIT, TRACKER_LIMIT, UNIT_LIMIT, GENERATOR_LIMIT, INSTANCE_LIMIT}
use Rattle.orc_ids.specs.declared.lookup.Level.{Level}
use Rattle.orc_ids.specs.declared.lookup.Level.TheVariants as level
use Rattle.orc_ids.specs.declared.lookup.OrderItem.{OrderItem}
use Rattle.orc_ids.specs.declared.lookup.Wanted.{Wanted}
use Rattle.orc_ids.specs.declared.place.Shape.{Shape}
use Rattle.session_model.specs.Lists.{first_some, only_if, or_else}
use Rattle.session_model.specs.Answer.{Answers, AnswersCall, AnswersCollect, AnswersEmit, AnswersFinish, AnswersPlace, AnswersTake, HasCause, called, can_place, can_resolve, can_link, can_emit, no_dylib, order_dylibs, tracker_gone, not_tracker_of, clash, answer_dylib, answer_set_order, answer_tracker, answer_move, answer_remove, answer_unit, answer_define, answer_attach, answer_generate, offer_of, error_of, missing_of, refused_lookup, lodged_reply, alias_cycle, answer_lookup, answer_ask, answer_link, bad_dep}
use Rattle.session_model.specs.Chain.{comes_to_unit}
use Rattle.session_model.specs.Change.{verdict, matched, link_order, link_matches}
use Rattle.session_model.specs.Match.{match_of}
use Rattle.session_model.specs.Meaning.{Meaning}
use Rattle.session_model.specs.Plain.{Plain, UnitRow, GenRow, has_dylib, has_tracker, is_tracker_of, tracker_dylib, is_alias, unit_shape, failed_at, present_at, unsearched_at}
use Rattle.session_model.specs.Query.{all_at}
use Rattle.session_model.specs.declared.entry.Entry.{Entry}
use Rattle.session_model.specs.declared.entry.Event.{Event}
use Rattle.session_model.specs.declared.entry.Event.TheVariants as event
use Rattle.session_model.specs.declared.entry.Reply.{Reply}
use Rattle.session_model.specs.declared.entry.Reply.TheVariants as reply
use Rattle.session_model.specs.declared.rows.InstRow.{InstRow}
use Rattle.session_model.specs.declared.rows.Job.{Job}
use Rattle.session_model.specs.declared.rows.Job.TheVariants as job
use Rattle.session_model.specs.declared.rows.Match.{Match}
use Rattle.session_model.specs.declared.rows.Match.TheVariants.{Instance, Offered}
use Rattle.session_model.specs.declared.rows.Verdict.{Verdict}
use Rattle.session_model.specs.declared.rows.Verdict.TheVariants.{Kept, Replaces, Discarded, Clashes}
use Rattle.session_laws.proofs.Declared.{call_cases, AllReplies, replies_map, replies_only, replies_first, replies_or, replies_else, chosen}
use Rattle.journal_text.specs.Parts.{IsGiven}
use Rattle.journal_text.specs.Replies.{KnownReply}
use Rattle.known_names.specs.Laws.{HasKnownNames, HandsInKnown}
use Rattle.known_names.proofs.KnownUnits.{IsKnown}

-- the first reply of a list, each of whose elements has a known one
replies_among : {X : Type 0} (P : Reply → Type 0) (Q : X → Type 0) (f : X → Option Reply) → ((x : X) → Q x → AllReplies P (f x)) → (xs : List X) → All Q xs → AllReplies P (first_some f xs)
replies_among P Q f h [] all = tt
replies_among P Q f h (x ∷ xs) all = replies_else P (f x) (first_some f xs) (h x (All-head Q x xs all)) (replies_among P Q f h xs (All-tail Q x xs all))

-- Dylibs and trackers

no_dylib_known : (names : List (List ℕ)) (m : Plain) (ds : List DylibId) → AllReplies (KnownReply names) (no_dylib m ds)
no_dylib_known names m ds = replies_first (KnownReply names) (λ (d : DylibId). only_if (not (has_dylib m d.0)) (reply.NoDylib d)) (λ d. replies_only (KnownReply names) (not (has_dylib m d.0)) (reply.NoDylib d) tt) ds

tracker_gone_known : (names : List (List ℕ)) (m : Plain) (t : TrackId) → AllReplies (KnownReply names) (tracker_gone m t)
tracker_gone_known names m t = replies_only (KnownReply names) (not (has_tracker m t.0)) (reply.TrackerGone t) tt

not_tracker_known : (names : List (List ℕ)) (m : Plain) (d : DylibId) (t : TrackId) → AllReplies (KnownReply names) (not_tracker_of m d t)
not_tracker_known names m d t = replies_only (KnownReply names) (not (is_tracker_of m d.0 t.0)) (reply.TrackerGone t) tt

dylib_known : (names : List (List ℕ)) (m : Plain) (name : NameId) → KnownReply names (answer_dylib m name)
dylib_known names m name = replies_or (KnownReply names) (option_map (λ d. reply.NameTaken (record { 0 = d })) (position_from (λ d. d.name == name.0) 0 m.dylibs)) _
    (replies_map (KnownReply names) (λ d. reply.NameTaken (record { 0 = d })) (λ d. tt) (position_from (λ d. d.name == name.0) 0 m.dylibs))
    (replies_or (KnownReply names) (only_if (nat_le DYLIB_LIMIT (length m.dylibs)) reply.TooMany) _ (replies_only (KnownReply names) (nat_le DYLIB_LIMIT (length m.dylibs)) reply.TooMany tt) tt)

order_known : (names : List (List ℕ)) (m : Plain) (d : DylibId) (order : List OrderItem) → KnownReply names (answer_set_order m d order)
order_known names m d order = replies_or (KnownReply names) (no_dylib m (d ∷ order_dylibs order)) _ (no_dylib_known names m (d ∷ order_dylibs order)) tt

tracker_known : (names : List (List ℕ)) (m : Plain) (d : DylibId) → KnownReply names (answer_tracker m d)
tracker_known names m d = replies_or (KnownReply names) (no_dylib m (d ∷ [])) _ (no_dylib_known names m (d ∷ []))
    (replies_or (KnownReply names) (only_if (nat_le TRACKER_LIMIT (length m.trackers)) reply.TooMany) _ (replies_only (KnownReply names) (nat_le TRACKER_LIMIT (length m.trackers)) reply.TooMany tt) tt)

move_known : (names : List (List ℕ)) (m : Plain) (t to : TrackId) → KnownReply names (answer_move m t to)
move_known names m t to = replies_or (KnownReply names) (tracker_gone m t) _ (tracker_gone_known names m t) (replies_or (KnownReply names) (tracker_gone m to) _ (tracker_gone_known names m to)
    (replies_or (KnownReply names) (only_if (not (tracker_dylib m t.0 == tracker_dylib m to.0)) reply.OtherDylib) _ (replies_only (KnownReply names) (not (tracker_dylib m t.0 == tracker_dylib m to.0)) reply.OtherDylib tt) tt))

remove_known : (names : List (List ℕ)) (m : Plain) (t : TrackId) → KnownReply names (answer_remove m t)
remove_known names m t = replies_or (KnownReply names) (tracker_gone m t) _ (tracker_gone_known names m t) tt

-- Definitions and generators

clash_known : (names : List (List ℕ)) (name : NameId) (v : Verdict) → IsGiven names name → AllReplies (KnownReply names) (clash name v)
clash_known names name (Clashes i) h = h
clash_known names name Kept h = tt
clash_known names name (Replaces i) h = tt
clash_known names name Discarded h = tt

-- a duplicate is one of the names that the unit offers
unit_known : (names : List (List ℕ)) (m : Plain) (d : ℕ) (u : Meaning) → HasKnownNames names u → KnownReply names (answer_unit m d u)
unit_known names m d u h = replies_or (KnownReply names) (only_if (nat_le UNIT_LIMIT (length m.units) || nat_lt INSTANCE_LIMIT (length m.rows + length u.offers)) reply.TooMany) _
    (replies_only (KnownReply names) (nat_le UNIT_LIMIT (length m.units) || nat_lt INSTANCE_LIMIT (length m.rows + length u.offers)) reply.TooMany tt)
    (replies_or (KnownReply names) (first_some (λ (offer : NameId × SymFlags). clash offer.0 (verdict m.rows d offer)) u.offers) _
    (replies_among (KnownReply names) (λ (o : NameId × SymFlags). IsGiven names o.0) (λ (offer : NameId × SymFlags). clash offer.0 (verdict m.rows d offer)) (λ offer given. clash_known names offer.0 (verdict m.rows d offer) given) u.offers h.offers) tt)

define_known : (names : List (List ℕ)) (m : Plain) (d : DylibId) (t : TrackId) (u : Meaning) → HasKnownNames names u → KnownReply names (answer_define m d t u)
define_known names m d t u h = replies_or (KnownReply names) (no_dylib m (d ∷ [])) _ (no_dylib_known names m (d ∷ [])) (replies_or (KnownReply names) (not_tracker_of m d t) _ (not_tracker_known names m d t) (unit_known names m d.0 u h))

attach_known : (names : List (List ℕ)) (m : Plain) (d : DylibId) (t : TrackId) → KnownReply names (answer_attach m d t)
attach_known names m d t = replies_or (KnownReply names) (no_dylib m (d ∷ [])) _ (no_dylib_known names m (d ∷ [])) (replies_or (KnownReply names) (not_tracker_of m d t) _ (not_tracker_known names m d t)
    (replies_or (KnownReply names) (only_if (nat_le GENERATOR_LIMIT (length m.generators)) reply.TooMany) _ (replies_only (KnownReply names) (nat_le GENERATOR_LIMIT (length m.generators)) reply.TooMany tt) tt))

generate_known : (names : List (List ℕ)) (m : Plain) (g : GenId) → IsKnown names m → KnownReply names (answer_generate m g)
generate_known names m g k = split (slice_get m.generators g.0) refl
  where
    split : (o : Option GenRow) → slice_get m.generators g.0 ≡ o → KnownReply names (option_map_or (λ x. if x.spent then reply.Spent g else answer_unit m x.dylib x.meaning) o (reply.NoGen g))
    split None e = tt
    split (Some x) e = chosen (KnownReply names) x.spent (reply.Spent g) (answer_unit m x.dylib x.meaning) (λ b. tt) (λ b. unit_known names m x.dylib x.meaning (k.generators g.0 x e))

-- Lookups

offer_known : (names : List (List ℕ)) (o : Option Match) → AllReplies (KnownReply names) (offer_of o)
offer_known names None = tt
offer_known names (Some (Offered g)) = tt
offer_known names (Some (Instance i)) = tt

error_known : (names : List (List ℕ)) (m : Plain) (o : Option Match) → AllReplies (KnownReply names) (error_of m o)
error_known names m None = tt
error_known names m (Some (Offered g)) = tt
error_known names m (Some (Instance i)) = replies_only (KnownReply names) (failed_at m.rows i.0) (reply.InError i) tt

-- a missing name is one of the wanted
refusals_known : (names : List (List ℕ)) (m : Plain) (order : List OrderItem) (wanted : List Wanted) → All (λ (w : Wanted). IsGiven names w.name) wanted → AllReplies (KnownReply names) (refused_lookup m order wanted)
refusals_known names m order wanted h = replies_else (KnownReply names) (first_some (λ (w : Wanted). offer_of (match_of m order w.name.0)) wanted) _
    (replies_first (KnownReply names) (λ (w : Wanted). offer_of (match_of m order w.name.0)) (λ w. offer_known names (match_of m order w.name.0)) wanted)
    (replies_else (KnownReply names) (first_some (λ (w : Wanted). error_of m (match_of m order w.name.0)) wanted) _
    (replies_first (KnownReply names) (λ (w : Wanted). error_of m (match_of m order w.name.0)) (λ w. error_known names m (match_of m order w.name.0)) wanted)
    (replies_among (KnownReply names) (λ (w : Wanted). IsGiven names w.name) (missing_of m order) (λ w given. replies_only (KnownReply names) (not w.weak && is_none (match_of m order w.name.0)) (reply.Missing w.name) given) wanted h))

lodged_known : (names : List (List ℕ)) (m : Plain) (lev : Level) (found : List (Option InstId)) → KnownReply names (lodged_reply m lev found)
lodged_known names m lev found = chosen (KnownReply names) (all_at m.rows lev found) (reply.Done (record { 0 = length m.queries })) (reply.Pending (record { 0 = length m.queries })) (λ b. tt) (λ b. tt)

ask_known : (names : List (List ℕ)) (m : Plain) (order : List OrderItem) (wanted : List Wanted) (lev : Level) → All (λ (w : Wanted). IsGiven names w.name) wanted → KnownReply names (answer_ask m order wanted lev)
ask_known names m order wanted lev h = replies_or (KnownReply names) (no_dylib m (order_dylibs order)) (answer_lookup m order wanted lev) (no_dylib_known names m (order_dylibs order))
    (replies_or (KnownReply names) (refused_lookup m order wanted) (lodged_reply m lev (matched m order wanted)) (refusals_known names m order wanted h) (lodged_known names m lev (matched m order wanted)))

cycles_known : (names : List (List ℕ)) (m : Plain) (u : ℕ) (x : UnitRow) → AllReplies (KnownReply names) (alias_cycle m u x)
cycles_known names m u x = replies_first (KnownReply names) (λ (i : InstId). only_if (comes_to_unit m.rows m.units m.queries u i.0) (reply.AliasCycle i))
    (λ i. replies_only (KnownReply names) (comes_to_unit m.rows m.units m.queries u i.0) (reply.AliasCycle i) tt) (if is_alias x then filter_map (λ (o : Option InstId). o) (link_matches m x) else [])

-- a name that a link misses is one of the unit's externals
link_known : (names : List (List ℕ)) (m : Plain) (u : ℕ) (x : UnitRow) → HasKnownNames names x.meaning → KnownReply names (answer_link m u x)
link_known names m u x h = replies_or (KnownReply names) (or_else (refused_lookup m (link_order m x) (x.meaning.externals x.live)) (alias_cycle m u x)) (lodged_reply m level.Resolved (link_matches m x))
    (replies_else (KnownReply names) (refused_lookup m (link_order m x) (x.meaning.externals x.live)) (alias_cycle m u x)
    (refusals_known names m (link_order m x) (x.meaning.externals x.live) (h.externals x.live)) (cycles_known names m u x))
    (lodged_known names m level.Resolved (link_matches m x))

collect_known : (names : List (List ℕ)) (past : List (Entry Meaning)) (m : Plain) (q : ℕ) (r : Reply) → AnswersCollect past m q r → KnownReply names r
collect_known names past m q (reply.Duplicate name i) a = absurd a
collect_known names past m q (reply.Missing name) a = absurd a
collect_known names past m q _ a = tt

-- Jobs

finish_known : (names : List (List ℕ)) (past : List (Entry Meaning)) (m : Plain) (u : ℕ) (r : Reply) → AnswersFinish past m u r → KnownReply names r
finish_known names past m u (reply.Duplicate name i) a = absurd a
finish_known names past m u (reply.Missing name) a = absurd a
finish_known names past m u _ a = tt

take_known : (names : List (List ℕ)) (past : List (Entry Meaning)) (m : Plain) (jobs : List Job) (r : Reply) → AnswersTake past m jobs r → KnownReply names r
take_known names past m [] r a = absurd a
take_known names past m (job.Start u ∷ js) r a = subst (KnownReply names) (sym a) tt
take_known names past m (job.Finish u ∷ js) r a = finish_known names past m u.0 r a

-- Calls on a unit

call_known : (names : List (List ℕ)) (m : Plain) (s : ℕ) (u : UnitId) (test : UnitRow → Bool) (P : UnitRow → Type 0) (r : Reply) → ((x : UnitRow) → slice_get m.units u.0 ≡ Some x → P x → KnownReply names r) → AnswersCall (called m s u test) u P r → KnownReply names r
call_known names m s u test P r h a = call_cases m s u test P r a
    (λ x t d e. subst (KnownReply names) (sym e) tt)
    (λ e w. subst (KnownReply names) (sym e) tt)
    (λ x t d seat f p. h x t p)

place_known : (names : List (List ℕ)) (m : Plain) (shape : Shape) (r : Reply) → AnswersPlace m shape r → KnownReply names r
place_known names m shape (reply.Duplicate name i) a = absurd a
place_known names m shape (reply.Missing name) a = absurd a
place_known names m shape _ a = tt

bad_dep_known : (names : List (List ℕ)) (rows : List InstRow) (groups : List Group) → AllReplies (KnownReply names) (bad_dep rows groups)
bad_dep_known names rows groups = replies_first (KnownReply names) (λ (i : InstId). only_if (failed_at rows i.0 || not (present_at rows i.0) || unsearched_at rows i.0) (reply.BadDep i))
    (λ i. replies_only (KnownReply names) (failed_at rows i.0 || not (present_at rows i.0) || unsearched_at rows i.0) (reply.BadDep i) tt) (flat_map (λ (g : Group). g.deps) groups)

emit_known : (names : List (List ℕ)) (m : Plain) (groups : List Group) → KnownReply names (unwrap_or (bad_dep m.rows groups) reply.Emitted)
emit_known names m groups = replies_or (KnownReply names) (bad_dep m.rows groups) reply.Emitted (bad_dep_known names m.rows groups) tt

pub answer_known : (names : List (List ℕ)) (jmax : ℕ) (past : List (Entry Meaning)) (m : Plain) (s : ℕ) (e : Event Meaning) (r : Reply) → IsKnown names m → HandsInKnown names e → Answers jmax past m s e r → KnownReply names r
answer_known names jmax past m s (event.Dylib name) r k h a = subst (KnownReply names) (sym a) (dylib_known names m name)
answer_known names jmax past m s (event.SetOrder d order) r k h a = subst (KnownReply names) (sym a.1) (order_known names m d order)
answer_known names jmax past m s (event.Attach d t u) r k h a = subst (KnownReply names) (sym a.1) (attach_known names m d t)
answer_known names jmax past m s (event.Define d t u) r k h a = subst (KnownReply names) (sym a.1) (define_known names m d t u h)
answer_known names jmax past m s (event.Generate g) r k h a = subst (KnownReply names) (sym a) (generate_known names m g k)
answer_known names jmax past m s (event.Ask order wanted lev n) r k h a = subst (KnownReply names) (sym a.2) (ask_known names m order wanted lev h)
answer_known names jmax past m s (event.Collect q) r k h a = collect_known names past m q.0 r a
answer_known names jmax past m s event.Take r k h a = take_known names past m m.jobs r a
answer_known names jmax past m s (event.Place u shape) r k h a = call_known names m s u can_place (λ x. (unit_shape x ≡ Some shape) × AnswersPlace m shape r) r (λ x t p. place_known names m shape r p.1) a
answer_known names jmax past m s (event.Resolve u) r k h a = call_known names m s u can_resolve (λ x. r ≡ reply.Resolved) r (λ x t p. subst (KnownReply names) (sym p) tt) a
answer_known names jmax past m s (event.Link u) r k h a = call_known names m s u can_link (λ x. r ≡ answer_link m u.0 x) r (λ x t p. subst (KnownReply names) (sym p) (link_known names m u.0 x (k.units u.0 x t))) a
answer_known names jmax past m s (event.Emit u groups) r k h a = call_known names m s u can_emit (λ x. AnswersEmit m u.0 groups x r) r (λ x t p. subst (KnownReply names) (sym p.2) (emit_known names m groups)) a
answer_known names jmax past m s (event.Fail u cause) r k h a = call_known names m s u (λ x. true) (λ x. HasCause jmax past m u.0 x cause × (r ≡ reply.Failed)) r (λ x t p. subst (KnownReply names) (sym p.1) tt) a
answer_known names jmax past m s (event.Tracker d) r k h a = subst (KnownReply names) (sym a) (tracker_known names m d)
answer_known names jmax past m s (event.MoveTracker t to) r k h a = subst (KnownReply names) (sym a) (move_known names m t to)
answer_known names jmax past m s (event.Remove t) r k h a = subst (KnownReply names) (sym a) (remove_known names m t)
answer_known names jmax past m s event.Image r k h a = subst (KnownReply names) (sym a) tt
