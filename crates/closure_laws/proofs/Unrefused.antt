-- A link that is answered with a query was not refused.
use Rattle.std.proofs.Common.{◌≡◌, ℕ, zero, suc, Bool, true, false, not, ◌&&◌, List, [], ◌∷◌, slice_get, subst, sym, refl, ap, ◌∙◌, Option, Some, None}
use Rattle.std.specs.Prelude.{is_none, filter_map}
use Rattle.std.specs.Bool.{if◌then◌else◌}
use Rattle.std.specs.List.{AllByRecursion}
use Rattle.std.proofs.lemmas.Bool.{both_ways}
use Rattle.std.proofs.lemmas.Option.{none-some, same_Some}
use Rattle.orc_ids.specs.declared.ids.InstId.{InstId}
use Rattle.orc_ids.specs.declared.ids.UnitId.{UnitId}
use Rattle.orc_ids.specs.declared.lookup.Level.TheVariants as level
use Rattle.orc_ids.specs.declared.lookup.OrderItem.{OrderItem}
use Rattle.orc_ids.specs.declared.lookup.Wanted.{Wanted}
use Rattle.session_model.specs.Lists.{first_some, only_if, or_else}
use Rattle.session_model.specs.Answer.{Answers, offer_of, error_of, missing_of, refused_lookup, alias_cycle, lodged_reply, answer_link, can_link}
use Rattle.session_model.specs.Chain.{comes_to_unit}
use Rattle.session_model.specs.Change.{change_of, instance_of, link_order, link_matches, matched}
use Rattle.session_model.specs.Match.{match_of}
use Rattle.session_model.specs.Meaning.{Meaning}
use Rattle.session_model.specs.Plain.{Plain, UnitRow, is_alias, failed_at}
use Rattle.session_model.specs.declared.change.Change.TheVariants.{Link}
use Rattle.session_model.specs.declared.entry.Entry.{Entry}
use Rattle.session_model.specs.declared.entry.Event.{Event}
use Rattle.session_model.specs.declared.entry.Event.TheVariants as event
use Rattle.session_model.specs.declared.entry.Reply.{Reply}
use Rattle.session_model.specs.declared.entry.Reply.TheVariants as reply
use Rattle.session_model.specs.declared.rows.Match.{Match}
use Rattle.session_model.specs.declared.rows.Match.TheVariants.{Instance, Offered}
use Rattle.session_laws.proofs.Declared.{call_cases, none_of_first, AllReplies, replies_only, replies_first, replies_else, none_given, is_lodged_reply, is_link}
use Rattle.closure_laws.specs.Links.{refused_link}

-- The event of a link

-- the entry links this unit, and is answered with a query
record Linking (e : Event Meaning) (r : Reply) : Type 0 where
  unit : UnitId
  event_is : e ≡ event.Link unit
  lodged : is_lodged_reply r ≡ true

link_made : (m : Plain) (s : ℕ) (e : Event Meaning) (r : Reply) → is_link (change_of m s e r) ≡ true → Linking e r
link_made m s (event.Link u) (reply.Done q) f = record { unit = u; event_is = refl; lodged = refl }
link_made m s (event.Link u) (reply.Pending q) f = record { unit = u; event_is = refl; lodged = refl }
link_made m s (event.Link u) _ f = absurd (both_ways false refl f)
link_made m s event.Take (reply.Defunct v) f = absurd (both_ways false refl f)
link_made m s event.Take _ f = absurd (both_ways false refl f)
link_made m s (event.Dylib name) (reply.Defunct v) f = absurd (both_ways false refl f)
link_made m s (event.Dylib name) _ f = absurd (both_ways false refl f)
link_made m s (event.SetOrder d order) (reply.Defunct v) f = absurd (both_ways false refl f)
link_made m s (event.SetOrder d order) _ f = absurd (both_ways false refl f)
link_made m s (event.Attach d t u) (reply.Defunct v) f = absurd (both_ways false refl f)
link_made m s (event.Attach d t u) _ f = absurd (both_ways false refl f)
link_made m s (event.Define d t u) (reply.Defunct v) f = absurd (both_ways false refl f)
link_made m s (event.Define d t u) _ f = absurd (both_ways false refl f)
link_made m s (event.Generate g) (reply.Defunct v) f = absurd (both_ways false refl f)
link_made m s (event.Generate g) _ f = absurd (both_ways false refl f)
link_made m s (event.Ask order wanted lev n) (reply.Defunct v) f = absurd (both_ways false refl f)
link_made m s (event.Ask order wanted lev n) _ f = absurd (both_ways false refl f)
link_made m s (event.Collect q) (reply.Defunct v) f = absurd (both_ways false refl f)
link_made m s (event.Collect q) _ f = absurd (both_ways false refl f)
link_made m s (event.Place u shape) (reply.Defunct v) f = absurd (both_ways false refl f)
link_made m s (event.Place u shape) _ f = absurd (both_ways false refl f)
link_made m s (event.Resolve u) (reply.Defunct v) f = absurd (both_ways false refl f)
link_made m s (event.Resolve u) _ f = absurd (both_ways false refl f)
link_made m s (event.Emit u groups) (reply.Defunct v) f = absurd (both_ways false refl f)
link_made m s (event.Emit u groups) _ f = absurd (both_ways false refl f)
link_made m s (event.Fail u cause) (reply.Defunct v) f = absurd (both_ways false refl f)
link_made m s (event.Fail u cause) _ f = absurd (both_ways false refl f)
link_made m s (event.Tracker d) (reply.Defunct v) f = absurd (both_ways false refl f)
link_made m s (event.Tracker d) _ f = absurd (both_ways false refl f)
link_made m s (event.MoveTracker t to) (reply.Defunct v) f = absurd (both_ways false refl f)
link_made m s (event.MoveTracker t to) _ f = absurd (both_ways false refl f)
link_made m s (event.Remove t) (reply.Defunct v) f = absurd (both_ways false refl f)
link_made m s (event.Remove t) _ f = absurd (both_ways false refl f)
link_made m s event.Image (reply.Defunct v) f = absurd (both_ways false refl f)
link_made m s event.Image _ f = absurd (both_ways false refl f)

-- the unit that a change links
link_unit : (m : Plain) (s : ℕ) (v : UnitId) (r : Reply) → is_lodged_reply r ≡ true → (u : UnitId) (found : List (Option InstId)) → change_of m s (event.Link v) r ≡ Link u found → v ≡ u
link_unit m s v (reply.Done q) l u found e = cc
link_unit m s v (reply.Pending q) l u found e = cc
link_unit m s v _ l u found e = absurd (both_ways false refl l)

-- Its answer

abbrev NotLodged : Reply → Type 0
NotLodged r = is_lodged_reply r ≡ false

offer_unlodged : (o : Option Match) → AllReplies NotLodged (offer_of o)
offer_unlodged None = tt
offer_unlodged (Some (Offered g)) = refl
offer_unlodged (Some (Instance i)) = tt

error_unlodged : (m : Plain) (o : Option Match) → AllReplies NotLodged (error_of m o)
error_unlodged m None = tt
error_unlodged m (Some (Offered g)) = tt
error_unlodged m (Some (Instance i)) = replies_only NotLodged (failed_at m.rows i.0) (reply.InError i) refl

refused_unlodged : (m : Plain) (order : List OrderItem) (wanted : List Wanted) → AllReplies NotLodged (refused_lookup m order wanted)
refused_unlodged m order wanted = replies_else NotLodged (first_some (λ (w : Wanted). offer_of (match_of m order w.name.0)) wanted) _
    (replies_first NotLodged (λ (w : Wanted). offer_of (match_of m order w.name.0)) (λ w. offer_unlodged (match_of m order w.name.0)) wanted)
    (replies_else NotLodged (first_some (λ (w : Wanted). error_of m (match_of m order w.name.0)) wanted) _
    (replies_first NotLodged (λ (w : Wanted). error_of m (match_of m order w.name.0)) (λ w. error_unlodged m (match_of m order w.name.0)) wanted)
    (replies_first NotLodged (missing_of m order) (λ w. replies_only NotLodged (not w.weak && is_none (match_of m order w.name.0)) (reply.Missing w.name) refl) wanted))

cycle_unlodged : (m : Plain) (u : ℕ) (x : UnitRow) → AllReplies NotLodged (alias_cycle m u x)
cycle_unlodged m u x = replies_first NotLodged (λ (i : InstId). only_if (comes_to_unit m.rows m.units m.queries u i.0) (reply.AliasCycle i))
    (λ i. replies_only NotLodged (comes_to_unit m.rows m.units m.queries u i.0) (reply.AliasCycle i) refl) (if is_alias x then filter_map (λ (o : Option InstId). o) (link_matches m x) else [])

first_none : {X : Type 0} (o other : Option X) → or_else o other ≡ None → o ≡ None
first_none None other e = refl
first_none (Some x) other e = absurd (none-some x (sym e))

rest_none : {X : Type 0} (o other : Option X) → or_else o other ≡ None → other ≡ None
rest_none None other e = e
rest_none (Some x) other e = absurd (none-some x (sym e))

answer_passed : (m : Plain) (u : ℕ) (x : UnitRow) → is_lodged_reply (answer_link m u x) ≡ true → refused_link m x ≡ None
answer_passed m u x e = first_none (refused_link m x) (alias_cycle m u x) (none_given is_lodged_reply (or_else (refused_link m x) (alias_cycle m u x)) (lodged_reply m level.Resolved (link_matches m x))
    (replies_else NotLodged (refused_link m x) (alias_cycle m u x) (refused_unlodged m (link_order m x) (x.meaning.externals x.live)) (cycle_unlodged m u x)) e).0

-- the unit that is linked is there, and its externals were not refused
pub record Unrefused (m : Plain) (u : ℕ) : Type 0 where
  pub unit : UnitRow
  pub there : slice_get m.units u ≡ Some unit
  pub passed : refused_link m unit ≡ None

pub link_unrefused : (jmax : ℕ) (past : List (Entry Meaning)) (m : Plain) (s : ℕ) (e : Event Meaning) (r : Reply) → Answers jmax past m s e r → (u : UnitId) (found : List (Option InstId)) → change_of m s e r ≡ Link u found → Unrefused m u.0
link_unrefused jmax past m s e r a u found is = subst (λ (v : UnitId). Unrefused m v.0) (link_unit m s l.unit r l.lodged u found (ap (λ v. change_of m s v r) (sym l.event_is) ∙ is))
    (call_cases m s l.unit can_link (λ x. r ≡ answer_link m l.unit.0 x) r (subst (λ v. Answers jmax past m s v r) l.event_is a)
    (λ x t d f. absurd (both_ways (is_lodged_reply r) (ap is_lodged_reply f) l.lodged))
    (λ f w. absurd (both_ways (is_lodged_reply r) (ap is_lodged_reply f) l.lodged))
    (λ x t d h f g. record { unit = x; there = t; passed = answer_passed m l.unit.0 x (ap is_lodged_reply (sym g) ∙ l.lodged) }))
  where
    l : Linking e r
    l = link_made m s e r (ap is_link is)

-- What passed

missing_weak : (m : Plain) (order : List OrderItem) (w : Wanted) → offer_of (match_of m order w.name.0) ≡ None → missing_of m order w ≡ None → instance_of (match_of m order w.name.0) ≡ None → w.weak ≡ true
missing_weak m order w o e n = split (match_of m order w.name.0) o e n
  where
    weak : (b : Bool) → only_if (not b && true) (reply.Missing w.name) ≡ None → b ≡ true
    weak true e = refl
    weak false e = absurd (none-some (reply.Missing w.name) (sym e))

    split : (f : Option Match) → offer_of f ≡ None → only_if (not w.weak && is_none f) (reply.Missing w.name) ≡ None → instance_of f ≡ None → w.weak ≡ true
    split None o e n = weak w.weak e
    split (Some (Offered g)) o e n = absurd (none-some (reply.Offer g) (sym o))
    split (Some (Instance i)) o e n = absurd (none-some i (sym n))

all_weak : (m : Plain) (order : List OrderItem) (wanted : List Wanted) → AllByRecursion (λ (w : Wanted). offer_of (match_of m order w.name.0) ≡ None) wanted → AllByRecursion (λ (w : Wanted). missing_of m order w ≡ None) wanted →
    (k : ℕ) (w : Wanted) → slice_get wanted k ≡ Some w → slice_get (matched m order wanted) k ≡ Some None → w.weak ≡ true
all_weak m order [] o e k w t n = absurd (none-some w t)
all_weak m order (v ∷ vs) o e zero w t n = subst (λ (z : Wanted). z.weak ≡ true) (same_Some v w t) (missing_weak m order v o.0 e.0 (same_Some (instance_of (match_of m order v.name.0)) None n))
all_weak m order (v ∷ vs) o e (suc k) w t n = all_weak m order vs o.1 e.1 k w t n

-- where nothing is refused, only a weak name has no instance
pub passed_weak : (m : Plain) (order : List OrderItem) (wanted : List Wanted) → refused_lookup m order wanted ≡ None → (k : ℕ) (w : Wanted) → slice_get wanted k ≡ Some w → slice_get (matched m order wanted) k ≡ Some None → w.weak ≡ true
passed_weak m order wanted e = all_weak m order wanted
    (none_of_first (λ (w : Wanted). offer_of (match_of m order w.name.0)) wanted (first_none (first_some (λ (w : Wanted). offer_of (match_of m order w.name.0)) wanted) _ e))
    (none_of_first (missing_of m order) wanted (rest_none (first_some (λ (w : Wanted). error_of m (match_of m order w.name.0)) wanted) (first_some (missing_of m order) wanted)
    (rest_none (first_some (λ (w : Wanted). offer_of (match_of m order w.name.0)) wanted) _ e)))
