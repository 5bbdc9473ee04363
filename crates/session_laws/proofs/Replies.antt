-- What a right reply tells of the session before it, by the change that it makes.
use Rattle.std.proofs.Common.{◌≡◌, ℕ, ◌+◌, Bool, true, false, not, ◌&&◌, ◌||◌, ◌==◌, List, [], ◌∷◌, length, slice_get, subst, sym, refl, ap, ◌∙◌, Option, Some, None, option_map, unwrap_or}
use Rattle.std.specs.Bool.{⊤, if◌then◌else◌}
use Rattle.std.specs.Option.{option_map_or}
use Rattle.std.proofs.lemmas.Bool.{both_ways, and_parts}
use Rattle.std.proofs.lemmas.Option.{none-some, same_Some}
use Rattle.orc_ids.specs.declared.ids.InstId.{InstId}
use Rattle.session_model.specs.Plain.{Plain, UnitRow, GenRow, is_defunct, failed_at}
use Rattle.session_model.specs.declared.entry.Reply.TheVariants as reply
use Rattle.session_model.specs.declared.rows.InstRow.{InstRow}
use Rattle.session_model.specs.declared.rows.Job.{Job}
use Rattle.session_model.specs.declared.rows.Job.TheVariants as job
use Rattle.session_model.specs.declared.rows.UnitPhase.TheVariants as stage
use Rattle.std.proofs.Common.{arith}
use Rattle.std.specs.List.{AllByRecursion}
use Rattle.session_model.specs.Lists.{first_some, only_if, or_else}
use Rattle.session_model.specs.Answer.{bad_dep, refused_lookup, lodged_reply, alias_cycle, answer_link, can_resolve, can_link, can_emit, IsFree}
use Rattle.session_model.specs.Chain.{comes_to_unit}
use Rattle.orc_ids.specs.declared.place.Shape.{Shape}
use Rattle.orc_ids.specs.declared.lookup.Level.TheVariants as level
use Rattle.orc_ids.specs.declared.limits.TheConstants.{DYLIB_LIMIT, TRACKER_LIMIT, UNIT_LIMIT, GENERATOR_LIMIT, INSTANCE_LIMIT}
use Rattle.session_model.specs.Plain.{is_alias, unit_shape, own_rows}
use Rattle.orc_ids.specs.declared.groups.Group.{Group}
use Rattle.std.specs.Prelude.{filter_map}
use Rattle.session_laws.proofs.Facts.{test_from}
use Rattle.session_laws.proofs.Settling.{chosen}
use Rattle.session_laws.specs.Sound.{AllMatched}
use Rattle.orc_ids.specs.declared.ids.NameId.{NameId}
use Rattle.orc_ids.specs.declared.flags.SymFlags.{SymFlags}
use Rattle.orc_ids.specs.declared.lookup.OrderItem.{OrderItem}
use Rattle.orc_ids.specs.declared.lookup.Wanted.{Wanted}
use Rattle.orc_ids.specs.declared.lookup.Level.{Level}
use Rattle.session_model.specs.Meaning.{Meaning}
use Rattle.session_model.specs.declared.rows.Row.{Row}
use Rattle.session_model.specs.Match.{row_of, match_in, match_of, sees, offered_by}
use Rattle.session_model.specs.Change.{verdict, verdicts, generated, matched, instance_of, link_matches}
use Rattle.orc_ids.specs.declared.ids.DylibId.{DylibId}
use Rattle.orc_ids.specs.declared.ids.GenId.{GenId}
use Rattle.orc_ids.specs.declared.ids.TrackId.{TrackId}
use Rattle.std.specs.Prelude.{is_none, nat_lt, nat_le}
use Rattle.std.specs.List.{position_from}
use Rattle.session_model.proofs.Choices.{or_else_parts, some_of_first}
use Rattle.session_model.proofs.FirstRows.{row_passes}
use Rattle.session_model.specs.Query.{all_at}
use Rattle.session_model.specs.Change.{link_order}
use Rattle.session_model.specs.declared.change.Change.{Change}
use Rattle.session_model.specs.declared.change.Change.TheVariants.{Define, Generate, Ask, Start, Finish, Place, Resolve, Link, Emit, Fail, LetGo}
use Rattle.session_model.specs.Answer.{AnswersCollect, no_dylib, order_dylibs, tracker_gone, not_tracker_of, clash, answer_dylib, answer_set_order, answer_tracker, answer_move, answer_remove, answer_unit, answer_define, answer_attach, answer_generate, offer_of, error_of, missing_of, answer_lookup, answer_ask}
use Rattle.session_model.specs.declared.entry.Entry.{Entry}
use Rattle.session_model.specs.declared.entry.Reply.{Reply}
use Rattle.session_model.specs.Plain.{has_dylib, has_tracker, is_tracker_of, tracker_dylib}
use Rattle.session_laws.proofs.Defining.{IsHere}
use Rattle.session_laws.proofs.Losing.{none_of_first}
use Rattle.session_model.specs.declared.rows.Match.{Match}
use Rattle.session_model.specs.declared.rows.Match.TheVariants.{Instance, Offered}
use Rattle.session_model.specs.declared.rows.Verdict.{Verdict}
use Rattle.session_model.specs.declared.rows.Verdict.TheVariants.{Kept, Replaces, Discarded, Clashes}

-- each matched instance is present, and not Failed
abbrev pub GoodMatches : Plain → List (Option InstId) → Type 0
GoodMatches m os = AllMatched (λ i. IsHere m.rows i × (failed_at m.rows i ≡ false)) os

-- the seat holds the unit, of which P holds
abbrev pub Held : Plain → ℕ → ℕ → (UnitRow → Type 0) → Type 0
Held m s u P = (x : UnitRow) × (slice_get m.units u ≡ Some x) × (x.seat ≡ Some s) × P x

-- the groups are the unit's own, and no edge of it is out of range
pub record IsOwnEmission (m : Plain) (u : ℕ) (x : UnitRow) (groups : List Group) : Type 0 where
  pub own : groups ≡ x.meaning.groups x.live (unwrap_or x.base 0) (unwrap_or x.bound []) (own_rows u 0 m.rows)
  pub passed : x.meaning.refusal x.live (unwrap_or x.base 0) (unwrap_or x.bound []) ≡ None

-- What holds before a change that an entry of seat s makes.
abbrev pub Guard : Plain → ℕ → Change Meaning → Type 0
Guard m s (Define d t u found) = found ≡ verdicts m.rows d.0 u.offers
Guard m s (Generate g found) = found ≡ generated m g.0
Guard m s (Ask found lev n) = GoodMatches m found
Guard m s (Start t u) = (t.0 ≡ s) × (js : List Job) × (m.jobs ≡ job.Start u ∷ js)
Guard m s (Finish t u how) = (t.0 ≡ s) × (js : List Job) × (m.jobs ≡ job.Finish u ∷ js)
Guard m s (Place u base) = Held m s u.0 (λ x. (x.phase ≡ stage.Started) × ((shape : Shape) × (unit_shape x ≡ Some shape) × IsFree m.units shape base))
Guard m s (Resolve u) = Held m s u.0 (λ x. can_resolve x ≡ true)
Guard m s (Link u found) = Held m s u.0 (λ x. (can_link x ≡ true) × (found ≡ link_matches m x) × (alias_cycle m u.0 x ≡ None) × GoodMatches m found)
Guard m s (Emit u groups) = Held m s u.0 (λ x. (x.phase ≡ stage.Finishing) × (bad_dep m.rows groups ≡ None) × (can_emit x ≡ true) × IsOwnEmission m u.0 x groups)
Guard m s (Fail u) = Held m s u.0 (λ x. is_defunct x.phase ≡ false)
Guard m s (LetGo t u) = (t.0 ≡ s) × (x : UnitRow) × (slice_get m.units u.0 ≡ Some x) × (is_defunct x.phase ≡ true)
Guard m s _ = ⊤

-- Replies that are tried in order

abbrev pub AllReplies : (Reply → Type 0) → Option Reply → Type 0
AllReplies P None = ⊤
AllReplies P (Some r) = P r

pub replies_map : {X : Type 0} (P : Reply → Type 0) (f : X → Reply) → ((x : X) → P (f x)) → (o : Option X) → AllReplies P (option_map f o)
replies_map P f h None = tt
replies_map P f h (Some x) = h x

pub replies_only : (P : Reply → Type 0) (b : Bool) (r : Reply) → P r → AllReplies P (only_if b r)
replies_only P true r h = h
replies_only P false r h = tt

pub replies_first : {X : Type 0} (P : Reply → Type 0) (f : X → Option Reply) → ((x : X) → AllReplies P (f x)) → (xs : List X) → AllReplies P (first_some f xs)
replies_first P f h [] = tt
replies_first P f h (x ∷ xs) = split (f x) (h x) (replies_first P f h xs)
  where
    split : (o : Option Reply) → AllReplies P o → AllReplies P (first_some f xs) → AllReplies P (or_else o (first_some f xs))
    split None a rest = rest
    split (Some r) a rest = a

pub replies_or : (P : Reply → Type 0) (o : Option Reply) (last : Reply) → AllReplies P o → P last → P (unwrap_or o last)
replies_or P None last a p = p
replies_or P (Some r) last a p = a

pub replies_else : (P : Reply → Type 0) (o other : Option Reply) → AllReplies P o → AllReplies P other → AllReplies P (or_else o other)
replies_else P None other a b = b
replies_else P (Some r) other a b = a

-- where the last reply is given, none before it is
pub none_given : (test : Reply → Bool) (o : Option Reply) (last : Reply) → AllReplies (λ r. test r ≡ false) o → test (unwrap_or o last) ≡ true → (o ≡ None) × (test last ≡ true)
none_given test None last a e = (refl, e)
none_given test (Some r) last a e = absurd (both_ways (test r) a e)

abbrev pub is_defunct_reply : Reply → Bool
is_defunct_reply (reply.Defunct u) = true
is_defunct_reply _ = false

abbrev pub is_lodged_reply : Reply → Bool
is_lodged_reply (reply.Done q) = true
is_lodged_reply (reply.Pending q) = true
is_lodged_reply _ = false

abbrev pub is_emitted_reply : Reply → Bool
is_emitted_reply reply.Emitted = true
is_emitted_reply _ = false

abbrev pub NotDefunct : Reply → Type 0
NotDefunct r = is_defunct_reply r ≡ false

no_dylib_plain : (m : Plain) (ds : List DylibId) → AllReplies NotDefunct (no_dylib m ds)
no_dylib_plain m ds = replies_first NotDefunct (λ (d : DylibId). only_if (not (has_dylib m d.0)) (reply.NoDylib d)) (λ d. replies_only NotDefunct (not (has_dylib m d.0)) (reply.NoDylib d) refl) ds

tracker_gone_plain : (m : Plain) (t : TrackId) → AllReplies NotDefunct (tracker_gone m t)
tracker_gone_plain m t = replies_only NotDefunct (not (has_tracker m t.0)) (reply.TrackerGone t) refl

not_tracker_plain : (m : Plain) (d : DylibId) (t : TrackId) → AllReplies NotDefunct (not_tracker_of m d t)
not_tracker_plain m d t = replies_only NotDefunct (not (is_tracker_of m d.0 t.0)) (reply.TrackerGone t) refl

clash_plain : (name : NameId) (v : Verdict) → AllReplies NotDefunct (clash name v)
clash_plain name (Clashes i) = refl
clash_plain name Kept = tt
clash_plain name (Replaces i) = tt
clash_plain name Discarded = tt

unit_plain : (m : Plain) (d : ℕ) (u : Meaning) → NotDefunct (answer_unit m d u)
unit_plain m d u = replies_or NotDefunct (only_if (nat_le UNIT_LIMIT (length m.units) || nat_lt INSTANCE_LIMIT (length m.rows + length u.offers)) reply.TooMany) _
    (replies_only NotDefunct (nat_le UNIT_LIMIT (length m.units) || nat_lt INSTANCE_LIMIT (length m.rows + length u.offers)) reply.TooMany refl)
    (replies_or NotDefunct (first_some (λ (offer : NameId × SymFlags). clash offer.0 (verdict m.rows d offer)) u.offers) _
    (replies_first NotDefunct (λ (offer : NameId × SymFlags). clash offer.0 (verdict m.rows d offer)) (λ offer. clash_plain offer.0 (verdict m.rows d offer)) u.offers) refl)

pub dylib_plain : (m : Plain) (name : NameId) → NotDefunct (answer_dylib m name)
dylib_plain m name = replies_or NotDefunct (option_map (λ d. reply.NameTaken (record { 0 = d })) (position_from (λ d. d.name == name.0) 0 m.dylibs)) _
    (replies_map NotDefunct (λ d. reply.NameTaken (record { 0 = d })) (λ d. refl) (position_from (λ d. d.name == name.0) 0 m.dylibs))
    (replies_or NotDefunct (only_if (nat_le DYLIB_LIMIT (length m.dylibs)) reply.TooMany) _ (replies_only NotDefunct (nat_le DYLIB_LIMIT (length m.dylibs)) reply.TooMany refl) refl)

pub order_plain : (m : Plain) (d : DylibId) (order : List OrderItem) → NotDefunct (answer_set_order m d order)
order_plain m d order = replies_or NotDefunct (no_dylib m (d ∷ order_dylibs order)) _ (no_dylib_plain m (d ∷ order_dylibs order)) refl

pub tracker_plain : (m : Plain) (d : DylibId) → NotDefunct (answer_tracker m d)
tracker_plain m d = replies_or NotDefunct (no_dylib m (d ∷ [])) _ (no_dylib_plain m (d ∷ []))
    (replies_or NotDefunct (only_if (nat_le TRACKER_LIMIT (length m.trackers)) reply.TooMany) _ (replies_only NotDefunct (nat_le TRACKER_LIMIT (length m.trackers)) reply.TooMany refl) refl)

pub move_plain : (m : Plain) (t to : TrackId) → NotDefunct (answer_move m t to)
move_plain m t to = replies_or NotDefunct (tracker_gone m t) _ (tracker_gone_plain m t) (replies_or NotDefunct (tracker_gone m to) _ (tracker_gone_plain m to)
    (replies_or NotDefunct (only_if (not (tracker_dylib m t.0 == tracker_dylib m to.0)) reply.OtherDylib) _ (replies_only NotDefunct (not (tracker_dylib m t.0 == tracker_dylib m to.0)) reply.OtherDylib refl) refl))

pub remove_plain : (m : Plain) (t : TrackId) → NotDefunct (answer_remove m t)
remove_plain m t = replies_or NotDefunct (tracker_gone m t) _ (tracker_gone_plain m t) refl

pub define_plain : (m : Plain) (d : DylibId) (t : TrackId) (u : Meaning) → NotDefunct (answer_define m d t u)
define_plain m d t u = replies_or NotDefunct (no_dylib m (d ∷ [])) _ (no_dylib_plain m (d ∷ [])) (replies_or NotDefunct (not_tracker_of m d t) _ (not_tracker_plain m d t) (unit_plain m d.0 u))

pub attach_plain : (m : Plain) (d : DylibId) (t : TrackId) → NotDefunct (answer_attach m d t)
attach_plain m d t = replies_or NotDefunct (no_dylib m (d ∷ [])) _ (no_dylib_plain m (d ∷ [])) (replies_or NotDefunct (not_tracker_of m d t) _ (not_tracker_plain m d t)
    (replies_or NotDefunct (only_if (nat_le GENERATOR_LIMIT (length m.generators)) reply.TooMany) _ (replies_only NotDefunct (nat_le GENERATOR_LIMIT (length m.generators)) reply.TooMany refl) refl))

pub generate_plain : (m : Plain) (g : GenId) → NotDefunct (answer_generate m g)
generate_plain m g = split (slice_get m.generators g.0)
  where
    split : (o : Option GenRow) → NotDefunct (option_map_or (λ x. if x.spent then reply.Spent g else answer_unit m x.dylib x.meaning) o (reply.NoGen g))
    split None = refl
    split (Some x) = chosen NotDefunct x.spent (reply.Spent g) (answer_unit m x.dylib x.meaning) (λ b. refl) (λ b. unit_plain m x.dylib x.meaning)

pub collect_plain : (past : List (Entry Meaning)) (m : Plain) (q : ℕ) (r : Reply) → AnswersCollect past m q r → NotDefunct r
collect_plain past m q (reply.Defunct u) a = absurd a
collect_plain past m q _ a = refl

-- Lookups

offer_other : (test : Reply → Bool) → ((g : GenId) → test (reply.Offer g) ≡ false) → (o : Option Match) → AllReplies (λ r. test r ≡ false) (offer_of o)
offer_other test h None = tt
offer_other test h (Some (Offered g)) = h g
offer_other test h (Some (Instance i)) = tt

error_other : (test : Reply → Bool) → ((i : InstId) → test (reply.InError i) ≡ false) → (m : Plain) (o : Option Match) → AllReplies (λ r. test r ≡ false) (error_of m o)
error_other test h m None = tt
error_other test h m (Some (Offered g)) = tt
error_other test h m (Some (Instance i)) = replies_only (λ r. test r ≡ false) (failed_at m.rows i.0) (reply.InError i) (h i)

-- a lookup's refusals, where the test is false of each
pub refusals_other : (test : Reply → Bool) → ((g : GenId) → test (reply.Offer g) ≡ false) → ((i : InstId) → test (reply.InError i) ≡ false) → ((n : NameId) → test (reply.Missing n) ≡ false) →
    (m : Plain) (order : List OrderItem) (wanted : List Wanted) → AllReplies (λ r. test r ≡ false) (refused_lookup m order wanted)
refusals_other test o f n m order wanted = replies_else (λ r. test r ≡ false) (first_some (λ (w : Wanted). offer_of (match_of m order w.name.0)) wanted) _
    (replies_first (λ r. test r ≡ false) (λ (w : Wanted). offer_of (match_of m order w.name.0)) (λ w. offer_other test o (match_of m order w.name.0)) wanted)
    (replies_else (λ r. test r ≡ false) (first_some (λ (w : Wanted). error_of m (match_of m order w.name.0)) wanted) _
    (replies_first (λ r. test r ≡ false) (λ (w : Wanted). error_of m (match_of m order w.name.0)) (λ w. error_other test f m (match_of m order w.name.0)) wanted)
    (replies_first (λ r. test r ≡ false) (missing_of m order) (λ w. replies_only (λ r. test r ≡ false) (not w.weak && is_none (match_of m order w.name.0)) (reply.Missing w.name) (n w.name)) wanted))

-- where nothing is refused, no match failed
unrefused_errors : (m : Plain) (order : List OrderItem) (wanted : List Wanted) → refused_lookup m order wanted ≡ None → first_some (λ (w : Wanted). error_of m (match_of m order w.name.0)) wanted ≡ None
unrefused_errors m order wanted e = (or_else_parts (first_some (λ (w : Wanted). error_of m (match_of m order w.name.0)) wanted) (first_some (missing_of m order) wanted)
    (or_else_parts (first_some (λ (w : Wanted). offer_of (match_of m order w.name.0)) wanted) _ e).1).0

lodged_plain : (m : Plain) (lev : Level) (found : List (Option InstId)) → NotDefunct (lodged_reply m lev found)
lodged_plain m lev found = chosen NotDefunct (all_at m.rows lev found) (reply.Done (record { 0 = length m.queries })) (reply.Pending (record { 0 = length m.queries })) (λ b. refl) (λ b. refl)

pub lookup_plain : (m : Plain) (order : List OrderItem) (wanted : List Wanted) (lev : Level) → NotDefunct (answer_lookup m order wanted lev)
lookup_plain m order wanted lev = replies_or NotDefunct (refused_lookup m order wanted) (lodged_reply m lev (matched m order wanted)) (refusals_other is_defunct_reply (λ g. refl) (λ i. refl) (λ n. refl) m order wanted) (lodged_plain m lev (matched m order wanted))

pub cycles_other : (test : Reply → Bool) → ((i : InstId) → test (reply.AliasCycle i) ≡ false) → (m : Plain) (u : ℕ) (x : UnitRow) → AllReplies (λ r. test r ≡ false) (alias_cycle m u x)
cycles_other test h m u x = replies_first (λ r. test r ≡ false) (λ (i : InstId). only_if (comes_to_unit m.rows m.units m.queries u i.0) (reply.AliasCycle i))
    (λ i. replies_only (λ r. test r ≡ false) (comes_to_unit m.rows m.units m.queries u i.0) (reply.AliasCycle i) (h i)) (if is_alias x then filter_map (λ (o : Option InstId). o) (link_matches m x) else [])

pub link_plain : (m : Plain) (u : ℕ) (x : UnitRow) → NotDefunct (answer_link m u x)
link_plain m u x = replies_or NotDefunct (or_else (refused_lookup m (link_order m x) (x.meaning.externals x.live)) (alias_cycle m u x)) (lodged_reply m level.Resolved (link_matches m x))
    (replies_else NotDefunct (refused_lookup m (link_order m x) (x.meaning.externals x.live)) (alias_cycle m u x)
    (refusals_other is_defunct_reply (λ g. refl) (λ i. refl) (λ n. refl) m (link_order m x) (x.meaning.externals x.live)) (cycles_other is_defunct_reply (λ i. refl) m u x))
    (lodged_plain m level.Resolved (link_matches m x))

-- a match that is an instance is a present one

pub row_here : (rows : List InstRow) (d name : ℕ) (r : Row) → row_of rows d name ≡ Some r → IsHere rows r.inst.0
row_here rows d name r e = let p = row_passes (λ (y : InstRow). y.present && y.dylib.0 == d && y.name.0 == name) 0 rows r e in
    test_from (λ (y : InstRow). y.present) rows r.inst.0 p.2 (ap (slice_get rows) (omega (arith, p.1)) ∙ p.3)
    (and_parts p.2.present (p.2.dylib.0 == d) (and_parts (p.2.present && p.2.dylib.0 == d) (p.2.name.0 == name) p.4).0).0

match_here : (m : Plain) (order : List OrderItem) (name : ℕ) (i : InstId) → match_of m order name ≡ Some (Instance i) → IsHere m.rows i.0
match_here m order name i e = some_of_first (λ y. (j : InstId) → y ≡ Instance j → IsHere m.rows j.0) (match_in m name) in_item order (Instance i) e i refl
  where
    same_instance : (j k : InstId) → Instance j ≡ Instance k → j ≡ k
    same_instance j k h = cc

    generated : (o : Option GenId) (j : InstId) → option_map Offered o ≡ Some (Instance j) → ⊥
    generated None j h = none-some (Instance j) h
    generated (Some g) j h = let is : Offered g ≡ Instance j = same_Some (Offered g) (Instance j) h in cc

    in_item : (item : OrderItem) (y : Match) → match_in m name item ≡ Some y → (j : InstId) → y ≡ Instance j → IsHere m.rows j.0
    in_item item y h j is = split (row_of m.rows item.dylib.0 name) refl (h ∙ ap Some is)
      where
        split : (o : Option Row) → row_of m.rows item.dylib.0 name ≡ o → or_else (option_map_or (λ (r : Row). only_if (sees item.scope r.flags) (Instance r.inst)) o None) (option_map Offered (offered_by m.generators item.dylib.0 name item.scope)) ≡ Some (Instance j) → IsHere m.rows j.0
        split None f g = absurd (generated (offered_by m.generators item.dylib.0 name item.scope) j g)
        split (Some r) f g = seen (sees item.scope r.flags) g
          where
            seen : (b : Bool) → or_else (only_if b (Instance r.inst)) (option_map Offered (offered_by m.generators item.dylib.0 name item.scope)) ≡ Some (Instance j) → IsHere m.rows j.0
            seen true k = subst (λ (l : InstId). IsHere m.rows l.0) (same_instance r.inst j (same_Some (Instance r.inst) (Instance j) k)) (row_here m.rows item.dylib.0 name r f)
            seen false k = absurd (generated (offered_by m.generators item.dylib.0 name item.scope) j k)

good_matches : (m : Plain) (order : List OrderItem) (wanted : List Wanted) → AllByRecursion (λ (w : Wanted). error_of m (match_of m order w.name.0) ≡ None) wanted → GoodMatches m (matched m order wanted)
good_matches m order [] a = tt
good_matches m order (w ∷ ws) a = split (match_of m order w.name.0) refl a.0 (good_matches m order ws a.1)
  where
    unfailed : (b : Bool) (i : InstId) → only_if b (reply.InError i) ≡ None → b ≡ false
    unfailed true i h = absurd (none-some (reply.InError i) (sym h))
    unfailed false i h = refl

    split : (o : Option Match) → match_of m order w.name.0 ≡ o → error_of m o ≡ None → GoodMatches m (matched m order ws) → GoodMatches m (instance_of o ∷ matched m order ws)
    split None e h rest = rest
    split (Some (Offered g)) e h rest = rest
    split (Some (Instance i)) e h rest = ((match_here m order w.name.0 i e, unfailed (failed_at m.rows i.0) i h), rest)

pub unrefused_good : (m : Plain) (order : List OrderItem) (wanted : List Wanted) → refused_lookup m order wanted ≡ None → GoodMatches m (matched m order wanted)
unrefused_good m order wanted e = good_matches m order wanted (none_of_first (λ (w : Wanted). error_of m (match_of m order w.name.0)) wanted (unrefused_errors m order wanted e))

pub lookup_good : (m : Plain) (order : List OrderItem) (wanted : List Wanted) (lev : Level) → is_lodged_reply (answer_lookup m order wanted lev) ≡ true → GoodMatches m (matched m order wanted)
lookup_good m order wanted lev e = unrefused_good m order wanted (none_given is_lodged_reply (refused_lookup m order wanted) (lodged_reply m lev (matched m order wanted)) (refusals_other is_lodged_reply (λ g. refl) (λ i. refl) (λ n. refl) m order wanted) e).0

-- where an alias or another unit is linked, nothing is refused, and its chain ends elsewhere
pub link_good : (m : Plain) (u : ℕ) (x : UnitRow) → is_lodged_reply (answer_link m u x) ≡ true → (alias_cycle m u x ≡ None) × GoodMatches m (link_matches m x)
link_good m u x e =
    let order = link_order m x in
    let wanted = x.meaning.externals x.live in
    let p = or_else_parts (refused_lookup m order wanted) (alias_cycle m u x) (none_given is_lodged_reply (or_else (refused_lookup m order wanted) (alias_cycle m u x)) (lodged_reply m level.Resolved (link_matches m x))
    (replies_else (λ r. is_lodged_reply r ≡ false) (refused_lookup m order wanted) (alias_cycle m u x) (refusals_other is_lodged_reply (λ g. refl) (λ i. refl) (λ n. refl) m order wanted) (cycles_other is_lodged_reply (λ i. refl) m u x)) e).0 in
    (p.1, unrefused_good m order wanted p.0)

pub ask_good : (m : Plain) (order : List OrderItem) (wanted : List Wanted) (lev : Level) → is_lodged_reply (answer_ask m order wanted lev) ≡ true → GoodMatches m (matched m order wanted)
ask_good m order wanted lev e = lookup_good m order wanted lev (none_given is_lodged_reply (no_dylib m (order_dylibs order)) (answer_lookup m order wanted lev)
    (replies_first (λ r. is_lodged_reply r ≡ false) (λ (d : DylibId). only_if (not (has_dylib m d.0)) (reply.NoDylib d)) (λ d. replies_only (λ r. is_lodged_reply r ≡ false) (not (has_dylib m d.0)) (reply.NoDylib d) refl) (order_dylibs order)) e).1

pub ask_plain : (m : Plain) (order : List OrderItem) (wanted : List Wanted) (lev : Level) → NotDefunct (answer_ask m order wanted lev)
ask_plain m order wanted lev = replies_or NotDefunct (no_dylib m (order_dylibs order)) (answer_lookup m order wanted lev) (no_dylib_plain m (order_dylibs order)) (lookup_plain m order wanted lev)
