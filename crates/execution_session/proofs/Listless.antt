-- Replies without a list of addresses: all but those of a collect and a take.
use Rattle.std.proofs.Common.{◌≡◌, ℕ, ◌+◌, true, false, not, ◌||◌, ◌==◌, List, [], ◌∷◌, length, slice_get, subst, sym, refl, Option, Some, None, option_map}
use Rattle.std.specs.Bool.{if◌then◌else◌}
use Rattle.std.specs.Option.{option_map_or}
use Rattle.orc_ids.specs.declared.ids.InstId.{InstId}
use Rattle.session_model.specs.Plain.{Plain, UnitRow, GenRow, failed_at}
use Rattle.session_model.specs.declared.entry.Reply.TheVariants as reply
use Rattle.session_model.specs.Lists.{first_some, only_if, or_else}
use Rattle.session_model.specs.Answer.{bad_dep, refused_lookup, lodged_reply, alias_cycle, answer_link, can_resolve, can_link, can_emit}
use Rattle.orc_ids.specs.declared.place.Shape.{Shape}
use Rattle.orc_ids.specs.declared.lookup.Level.TheVariants as level
use Rattle.orc_ids.specs.declared.limits.TheConstants.{DYLIB_LIMIT, TRACKER_LIMIT, UNIT_LIMIT, GENERATOR_LIMIT, INSTANCE_LIMIT}
use Rattle.orc_ids.specs.declared.groups.Group.{Group}
use Rattle.session_laws.proofs.Declared.{chosen, AllReplies, replies_map, replies_only, replies_first, replies_or, replies_else, refusals_other, cycles_other}
use Rattle.orc_ids.specs.declared.ids.NameId.{NameId}
use Rattle.orc_ids.specs.declared.flags.SymFlags.{SymFlags}
use Rattle.orc_ids.specs.declared.lookup.OrderItem.{OrderItem}
use Rattle.orc_ids.specs.declared.lookup.Wanted.{Wanted}
use Rattle.orc_ids.specs.declared.lookup.Level.{Level}
use Rattle.session_model.specs.Meaning.{Meaning}
use Rattle.session_model.specs.Change.{verdict, matched, link_matches}
use Rattle.orc_ids.specs.declared.ids.DylibId.{DylibId}
use Rattle.orc_ids.specs.declared.ids.GenId.{GenId}
use Rattle.orc_ids.specs.declared.ids.TrackId.{TrackId}
use Rattle.std.specs.Prelude.{nat_lt, nat_le}
use Rattle.std.specs.List.{position_from}
use Rattle.session_model.specs.Query.{all_at}
use Rattle.session_model.specs.Change.{link_order}
use Rattle.session_model.specs.Answer.{no_dylib, order_dylibs, tracker_gone, not_tracker_of, clash, answer_dylib, answer_set_order, answer_tracker, answer_move, answer_remove, answer_unit, answer_define, answer_attach, answer_generate, answer_lookup, answer_ask}
use Rattle.session_model.specs.declared.entry.Entry.{Entry}
use Rattle.session_model.specs.declared.entry.Reply.{Reply}
use Rattle.session_model.specs.Plain.{has_dylib, has_tracker, is_tracker_of, tracker_dylib}
use Rattle.session_model.specs.declared.rows.Verdict.{Verdict}
use Rattle.session_model.specs.declared.rows.Verdict.TheVariants.{Kept, Replaces, Discarded, Clashes}
use Rattle.session_model.specs.Answer.{AnswersPlace, AnswersCall, AnswersEmit, Answers, called, Called, Gone, Wrong, Right, can_place}
use Rattle.session_model.specs.declared.entry.Event.{Event}
use Rattle.session_model.specs.declared.entry.Event.TheVariants as event
use Rattle.session_model.specs.SameLists.{has_list}
use Rattle.session_steps.specs.Steps.{lists}

abbrev Listless : Reply → Type 0
Listless r = has_list r ≡ false

no_dylib_plain : (m : Plain) (ds : List DylibId) → AllReplies Listless (no_dylib m ds)
no_dylib_plain m ds = replies_first Listless (λ (d : DylibId). only_if (not (has_dylib m d.0)) (reply.NoDylib d)) (λ d. replies_only Listless (not (has_dylib m d.0)) (reply.NoDylib d) refl) ds

tracker_gone_plain : (m : Plain) (t : TrackId) → AllReplies Listless (tracker_gone m t)
tracker_gone_plain m t = replies_only Listless (not (has_tracker m t.0)) (reply.TrackerGone t) refl

not_tracker_plain : (m : Plain) (d : DylibId) (t : TrackId) → AllReplies Listless (not_tracker_of m d t)
not_tracker_plain m d t = replies_only Listless (not (is_tracker_of m d.0 t.0)) (reply.TrackerGone t) refl

clash_plain : (name : NameId) (v : Verdict) → AllReplies Listless (clash name v)
clash_plain name (Clashes i) = refl
clash_plain name Kept = tt
clash_plain name (Replaces i) = tt
clash_plain name Discarded = tt

unit_plain : (m : Plain) (d : ℕ) (u : Meaning) → Listless (answer_unit m d u)
unit_plain m d u = replies_or Listless (only_if (nat_le UNIT_LIMIT (length m.units) || nat_lt INSTANCE_LIMIT (length m.rows + length u.offers)) reply.TooMany) _
    (replies_only Listless (nat_le UNIT_LIMIT (length m.units) || nat_lt INSTANCE_LIMIT (length m.rows + length u.offers)) reply.TooMany refl)
    (replies_or Listless (first_some (λ (offer : NameId × SymFlags). clash offer.0 (verdict m.rows d offer)) u.offers) _
    (replies_first Listless (λ (offer : NameId × SymFlags). clash offer.0 (verdict m.rows d offer)) (λ offer. clash_plain offer.0 (verdict m.rows d offer)) u.offers) refl)

pub dylib_plain : (m : Plain) (name : NameId) → Listless (answer_dylib m name)
dylib_plain m name = replies_or Listless (option_map (λ d. reply.NameTaken (record { 0 = d })) (position_from (λ d. d.name == name.0) 0 m.dylibs)) _
    (replies_map Listless (λ d. reply.NameTaken (record { 0 = d })) (λ d. refl) (position_from (λ d. d.name == name.0) 0 m.dylibs))
    (replies_or Listless (only_if (nat_le DYLIB_LIMIT (length m.dylibs)) reply.TooMany) _ (replies_only Listless (nat_le DYLIB_LIMIT (length m.dylibs)) reply.TooMany refl) refl)

pub order_plain : (m : Plain) (d : DylibId) (order : List OrderItem) → Listless (answer_set_order m d order)
order_plain m d order = replies_or Listless (no_dylib m (d ∷ order_dylibs order)) _ (no_dylib_plain m (d ∷ order_dylibs order)) refl

pub tracker_plain : (m : Plain) (d : DylibId) → Listless (answer_tracker m d)
tracker_plain m d = replies_or Listless (no_dylib m (d ∷ [])) _ (no_dylib_plain m (d ∷ []))
    (replies_or Listless (only_if (nat_le TRACKER_LIMIT (length m.trackers)) reply.TooMany) _ (replies_only Listless (nat_le TRACKER_LIMIT (length m.trackers)) reply.TooMany refl) refl)

pub move_plain : (m : Plain) (t to : TrackId) → Listless (answer_move m t to)
move_plain m t to = replies_or Listless (tracker_gone m t) _ (tracker_gone_plain m t) (replies_or Listless (tracker_gone m to) _ (tracker_gone_plain m to)
    (replies_or Listless (only_if (not (tracker_dylib m t.0 == tracker_dylib m to.0)) reply.OtherDylib) _ (replies_only Listless (not (tracker_dylib m t.0 == tracker_dylib m to.0)) reply.OtherDylib refl) refl))

pub remove_plain : (m : Plain) (t : TrackId) → Listless (answer_remove m t)
remove_plain m t = replies_or Listless (tracker_gone m t) _ (tracker_gone_plain m t) refl

pub define_plain : (m : Plain) (d : DylibId) (t : TrackId) (u : Meaning) → Listless (answer_define m d t u)
define_plain m d t u = replies_or Listless (no_dylib m (d ∷ [])) _ (no_dylib_plain m (d ∷ [])) (replies_or Listless (not_tracker_of m d t) _ (not_tracker_plain m d t) (unit_plain m d.0 u))

pub attach_plain : (m : Plain) (d : DylibId) (t : TrackId) → Listless (answer_attach m d t)
attach_plain m d t = replies_or Listless (no_dylib m (d ∷ [])) _ (no_dylib_plain m (d ∷ [])) (replies_or Listless (not_tracker_of m d t) _ (not_tracker_plain m d t)
    (replies_or Listless (only_if (nat_le GENERATOR_LIMIT (length m.generators)) reply.TooMany) _ (replies_only Listless (nat_le GENERATOR_LIMIT (length m.generators)) reply.TooMany refl) refl))

pub generate_plain : (m : Plain) (g : GenId) → Listless (answer_generate m g)
generate_plain m g = split (slice_get m.generators g.0)
  where
    split : (o : Option GenRow) → Listless (option_map_or (λ x. if x.spent then reply.Spent g else answer_unit m x.dylib x.meaning) o (reply.NoGen g))
    split None = refl
    split (Some x) = chosen Listless x.spent (reply.Spent g) (answer_unit m x.dylib x.meaning) (λ b. refl) (λ b. unit_plain m x.dylib x.meaning)

lodged_plain : (m : Plain) (lev : Level) (found : List (Option InstId)) → Listless (lodged_reply m lev found)
lodged_plain m lev found = chosen Listless (all_at m.rows lev found) (reply.Done (record { 0 = length m.queries })) (reply.Pending (record { 0 = length m.queries })) (λ b. refl) (λ b. refl)

pub lookup_plain : (m : Plain) (order : List OrderItem) (wanted : List Wanted) (lev : Level) → Listless (answer_lookup m order wanted lev)
lookup_plain m order wanted lev = replies_or Listless (refused_lookup m order wanted) (lodged_reply m lev (matched m order wanted)) (refusals_other has_list (λ g. refl) (λ i. refl) (λ n. refl) m order wanted) (lodged_plain m lev (matched m order wanted))

pub link_plain : (m : Plain) (u : ℕ) (x : UnitRow) → Listless (answer_link m u x)
link_plain m u x = replies_or Listless (or_else (refused_lookup m (link_order m x) (x.meaning.externals x.live)) (alias_cycle m u x)) (lodged_reply m level.Resolved (link_matches m x))
    (replies_else Listless (refused_lookup m (link_order m x) (x.meaning.externals x.live)) (alias_cycle m u x)
    (refusals_other has_list (λ g. refl) (λ i. refl) (λ n. refl) m (link_order m x) (x.meaning.externals x.live)) (cycles_other has_list (λ i. refl) m u x))
    (lodged_plain m level.Resolved (link_matches m x))

pub ask_plain : (m : Plain) (order : List OrderItem) (wanted : List Wanted) (lev : Level) → Listless (answer_ask m order wanted lev)
ask_plain m order wanted lev = replies_or Listless (no_dylib m (order_dylibs order)) (answer_lookup m order wanted lev) (no_dylib_plain m (order_dylibs order)) (lookup_plain m order wanted lev)

place_plain : (m : Plain) (shape : Shape) (r : Reply) → AnswersPlace m shape r → Listless r
place_plain m shape (reply.Placed base) a = refl
place_plain m shape (reply.NoRoom need) a = refl
place_plain m shape _ a = absurd a

emit_plain : (m : Plain) (u : ℕ) (groups : List Group) (x : UnitRow) (r : Reply) → AnswersEmit m u groups x r → Listless r
emit_plain m u groups x r a = subst Listless (sym a.2) (replies_or Listless (bad_dep m.rows groups) reply.Emitted
    (replies_first Listless (λ (i : InstId). only_if (failed_at m.rows i.0 || not (Rattle.session_model.specs.Plain.present_at m.rows i.0) || Rattle.session_model.specs.Plain.unsearched_at m.rows i.0) (reply.BadDep i))
    (λ i. replies_only Listless (failed_at m.rows i.0 || not (Rattle.session_model.specs.Plain.present_at m.rows i.0) || Rattle.session_model.specs.Plain.unsearched_at m.rows i.0) (reply.BadDep i) refl) (Rattle.std.specs.Prelude.flat_map (λ (g : Group). g.deps) groups)) refl)

call_plain : (c : Called) (u : Rattle.orc_ids.specs.declared.ids.UnitId.UnitId) (P : UnitRow → Type 0) (r : Reply) → AnswersCall c u P r → ((x : UnitRow) → P x → Listless r) → Listless r
call_plain Gone u P r a h = subst Listless (sym a) refl
call_plain Wrong u P r a h = subst Listless (sym a) refl
call_plain (Right x) u P r a h = h x a

-- the reply to an event that hands out no list
pub listless : (jmax : ℕ) (past : List (Entry Meaning)) (m : Plain) (s : ℕ) (e : Event Meaning) (r : Reply) → lists e ≡ false → Answers jmax past m s e r → has_list r ≡ false
listless jmax past m s (event.Dylib name) r n a = subst Listless (sym a) (dylib_plain m name)
listless jmax past m s (event.SetOrder d order) r n a = subst Listless (sym a.1) (order_plain m d order)
listless jmax past m s (event.Attach d t u) r n a = subst Listless (sym a.1) (attach_plain m d t)
listless jmax past m s (event.Define d t u) r n a = subst Listless (sym a.1) (define_plain m d t u)
listless jmax past m s (event.Generate g) r n a = subst Listless (sym a) (generate_plain m g)
listless jmax past m s (event.Ask order wanted lev w) r n a = subst Listless (sym a.2) (ask_plain m order wanted lev)
listless jmax past m s (event.Collect q) r n a = absurd cc
listless jmax past m s event.Take r n a = absurd cc
listless jmax past m s (event.Place u shape) r n a = call_plain (called m s u can_place) u _ r a (λ x p. place_plain m shape r p.1)
listless jmax past m s (event.Resolve u) r n a = call_plain (called m s u can_resolve) u _ r a (λ x p. subst Listless (sym p) refl)
listless jmax past m s (event.Link u) r n a = call_plain (called m s u can_link) u _ r a (λ x p. subst Listless (sym p) (link_plain m u.0 x))
listless jmax past m s (event.Emit u groups) r n a = call_plain (called m s u can_emit) u _ r a (λ x p. emit_plain m u.0 groups x r p)
listless jmax past m s (event.Fail u why) r n a = call_plain (called m s u (λ x. true)) u _ r a (λ x p. subst Listless (sym p.1) refl)
listless jmax past m s (event.Tracker d) r n a = subst Listless (sym a) (tracker_plain m d)
listless jmax past m s (event.MoveTracker t to) r n a = subst Listless (sym a) (move_plain m t to)
listless jmax past m s (event.Remove t) r n a = subst Listless (sym a) (remove_plain m t)
listless jmax past m s event.Image r n a = subst Listless (sym a) refl
