-- Link orders, moves and definitions are answered with the first reason against them, and are accepted where there is none.
use Rattle.std.proofs.Common.{◌≡◌, ℕ, ◌+◌, ◌<◌, ◌≤◌, Bool, true, not, List, [], ◌∷◌, length, Option, Some, None, refl, ap, sym, ◌∙◌}
use Rattle.std.specs.Prelude.{◌==◌, nat_lt, nat_le, is_some, is_none, IfSome, IfNone, unwrap_or}
use Rattle.std.specs.Option.{option_or}
use Rattle.std.proofs.lemmas.Bool.{ltb-true, ltb-false, leb-false, eqb-true, not-false, or_parts}
use Rattle.orc_ids.specs.declared.ids.DylibId.{DylibId}
use Rattle.orc_ids.specs.declared.ids.TrackId.{TrackId}
use Rattle.orc_ids.specs.declared.limits.TheConstants.{UNIT_LIMIT, GENERATOR_LIMIT, INSTANCE_LIMIT, ORDER_LIMIT}
use Rattle.orc_ids.specs.declared.lookup.OrderItem.{OrderItem}
use Rattle.session_model.specs.Lists.{first_some, only_if, or_else}
use Rattle.session_model.specs.Meaning.{Meaning}
use Rattle.session_model.specs.Plain.{Plain, has_tracker, is_tracker_of, tracker_dylib}
use Rattle.session_model.specs.Answer.{HasSource, order_dylibs, no_dylib, answer_set_order, not_tracker_of, answer_move, answer_attach, answer_define}
use Rattle.session_model.specs.declared.entry.Event.TheVariants as event
use Rattle.session_model.specs.declared.entry.Reply.{Reply}
use Rattle.session_model.specs.declared.entry.Reply.TheVariants as reply
use Rattle.session_parts.specs.Replies.{Refuses, IsQuiet}
use Rattle.session_replies.specs.Accepted.{AcceptsOrder, AcceptsMove, AcceptsAttach, AcceptsDefine, first_clash, next_defined}
use Rattle.session_replies.specs.Reasons.{absent, too_many, is_full, gone, is_of, not_of, are_apart}
use Rattle.session_replies.proofs.Homes.{home, has_home, at_home, home_dylib}
use Rattle.session_replies.proofs.Refusing.{if_some, if_none, either, only, first, neither, not_so, in_turn, is_answer, holds}

-- a dylib that isn't absent is there
there : (m : Plain) (d : DylibId) → absent m.dylibs d ≡ None → d.0 < length m.dylibs
there m d e = ltb-true d.0 (length m.dylibs) (not-false (nat_lt d.0 (length m.dylibs)) (not_so (not (nat_lt d.0 (length m.dylibs))) (reply.NoDylib d) e))

-- Link orders

abbrev pub absent_in : Plain → List OrderItem → Option Reply
absent_in m order = first_some (λ (item : OrderItem). absent m.dylibs item.dylib) order

abbrev pub order_reason : Plain → DylibId → List OrderItem → Option Reply
order_reason m d order = option_or (absent m.dylibs d) (absent_in m order)

order_answer : (m : Plain) (d : DylibId) (order : List OrderItem) → answer_set_order m d order ≡ unwrap_or (order_reason m d order) reply.Set
order_answer m d order = ap (λ q. unwrap_or (or_else (absent m.dylibs d) q) reply.Set) (over order) ∙ split (absent m.dylibs d)
  where
    over : (items : List OrderItem) → first_some (λ (e : DylibId). absent m.dylibs e) (order_dylibs items) ≡ absent_in m items
    over [] = refl
    over (item ∷ items) = ap (or_else (absent m.dylibs item.dylib)) (over items)

    split : (a : Option Reply) → unwrap_or (or_else a (absent_in m order)) reply.Set ≡ unwrap_or (option_or a (absent_in m order)) reply.Set
    split None = refl
    split (Some r) = refl

order_quiet : (m : Plain) (d : DylibId) (order : List OrderItem) → IfSome (order_reason m d order) (IsQuiet m (event.SetOrder d order))
order_quiet m d order = either (IsQuiet m (event.SetOrder d order)) (absent m.dylibs d) (absent_in m order) (one d)
    (first (IsQuiet m (event.SetOrder d order)) (λ (item : OrderItem). absent m.dylibs item.dylib) (λ item. one item.dylib) order)
  where
    one : (e : DylibId) → IfSome (absent m.dylibs e) (IsQuiet m (event.SetOrder d order))
    one e = only (IsQuiet m (event.SetOrder d order)) (not (nat_lt e.0 (length m.dylibs))) (reply.NoDylib e) (λ s. refl)

pub order_refused : (m : Plain) (d : DylibId) (order : List OrderItem) (o : Option Reply) → length order ≤ ORDER_LIMIT → o ≡ order_reason m d order → IfSome o (Refuses m (event.SetOrder d order))
order_refused m d order o few is = if_some (Refuses m (event.SetOrder d order)) o (λ r here. record {
  answered = λ jmax past s. (few, is_answer o (order_reason m d order) r reply.Set (answer_set_order m d order) is here (order_answer m d order));
  quiet = holds (IsQuiet m (event.SetOrder d order)) o (order_reason m d order) r is here (order_quiet m d order);
})

pub order_accepted : (m : Plain) (d : DylibId) (order : List OrderItem) (o : Option Reply) → o ≡ order_reason m d order → IfNone o (AcceptsOrder m d order)
order_accepted m d order o is = if_none o (λ n. let e : order_reason m d order ≡ None = sym is ∙ n in record {
  answered = order_answer m d order ∙ ap (λ q. unwrap_or q reply.Set) e;
  there = there m d (neither (absent m.dylibs d) (absent_in m order) e).0;
})

-- Moves, by the two trackers' dylibs

abbrev pub move_reason : Option DylibId → Option DylibId → TrackId → TrackId → Option Reply
move_reason from into t to = option_or (option_or (gone from t) (gone into to)) (only_if (are_apart from into) reply.OtherDylib)

-- what is answered by whether both are there, and of one dylib
abbrev move_reply : TrackId → TrackId → Bool → Bool → Bool → Reply
move_reply t to a b same = unwrap_or (only_if (not a) (reply.TrackerGone t)) (unwrap_or (only_if (not b) (reply.TrackerGone to)) (unwrap_or (only_if (not same) reply.OtherDylib) reply.Moved))

move_answer : (m : Plain) (t to : TrackId) (from into : Option DylibId) → home m.trackers t.0 ≡ from → home m.trackers to.0 ≡ into → answer_move m t to ≡ unwrap_or (move_reason from into t to) reply.Moved
move_answer m t to None into e f = ap (λ a. move_reply t to a (has_tracker m to.0) (tracker_dylib m t.0 == tracker_dylib m to.0)) (has_home m t.0 ∙ ap is_some e)
move_answer m t to (Some d) None e f = ap (λ a. move_reply t to a (has_tracker m to.0) (tracker_dylib m t.0 == tracker_dylib m to.0)) (has_home m t.0 ∙ ap is_some e)
    ∙ ap (λ b. move_reply t to true b (tracker_dylib m t.0 == tracker_dylib m to.0)) (has_home m to.0 ∙ ap is_some f)
move_answer m t to (Some d) (Some h) e f = ap (λ a. move_reply t to a (has_tracker m to.0) (tracker_dylib m t.0 == tracker_dylib m to.0)) (has_home m t.0 ∙ ap is_some e)
    ∙ ap (λ b. move_reply t to true b (tracker_dylib m t.0 == tracker_dylib m to.0)) (has_home m to.0 ∙ ap is_some f)
    ∙ ap (λ n. move_reply t to true true (n == tracker_dylib m to.0)) (home_dylib m t.0 d e)
    ∙ ap (λ n. move_reply t to true true (d.0 == n)) (home_dylib m to.0 h f)

move_quiet : (m : Plain) (t to : TrackId) (from into : Option DylibId) → IfSome (move_reason from into t to) (IsQuiet m (event.MoveTracker t to))
move_quiet m t to from into = either (IsQuiet m (event.MoveTracker t to)) (option_or (gone from t) (gone into to)) (only_if (are_apart from into) reply.OtherDylib)
    (either (IsQuiet m (event.MoveTracker t to)) (gone from t) (gone into to)
    (only (IsQuiet m (event.MoveTracker t to)) (is_none from) (reply.TrackerGone t) (λ s. refl))
    (only (IsQuiet m (event.MoveTracker t to)) (is_none into) (reply.TrackerGone to) (λ s. refl)))
    (only (IsQuiet m (event.MoveTracker t to)) (are_apart from into) reply.OtherDylib (λ s. refl))

pub move_refused : (m : Plain) (t to : TrackId) (o : Option Reply) → o ≡ move_reason (home m.trackers t.0) (home m.trackers to.0) t to → IfSome o (Refuses m (event.MoveTracker t to))
move_refused m t to o is = let from = home m.trackers t.0 in let into = home m.trackers to.0 in
    if_some (Refuses m (event.MoveTracker t to)) o (λ r here. record {
      answered = λ jmax past s. is_answer o (move_reason from into t to) r reply.Moved (answer_move m t to) is here (move_answer m t to from into refl refl);
      quiet = holds (IsQuiet m (event.MoveTracker t to)) o (move_reason from into t to) r is here (move_quiet m t to from into);
    })

-- with no reason both are there, of one dylib
unmoved : (m : Plain) (t to : TrackId) (from into : Option DylibId) → home m.trackers t.0 ≡ from → home m.trackers to.0 ≡ into → move_reason from into t to ≡ None → AcceptsMove m t to
unmoved m t to None into e f n = absurd cc
unmoved m t to (Some d) None e f n = absurd cc
unmoved m t to (Some d) (Some h) e f n = record {
  answered = move_answer m t to (Some d) (Some h) e f ∙ ap (λ q. unwrap_or q reply.Moved) n;
  from = has_home m t.0 ∙ ap is_some e;
  into = has_home m to.0 ∙ ap is_some f;
  dylib = home_dylib m t.0 d e ∙ (eqb-true d.0 h.0 (not-false (d.0 == h.0) (not_so (not (d.0 == h.0)) reply.OtherDylib n)) ∙ sym (home_dylib m to.0 h f));
}

pub move_accepted : (m : Plain) (t to : TrackId) (o : Option Reply) → o ≡ move_reason (home m.trackers t.0) (home m.trackers to.0) t to → IfNone o (AcceptsMove m t to)
move_accepted m t to o is = if_none o (λ n. unmoved m t to (home m.trackers t.0) (home m.trackers to.0) refl refl (sym is ∙ n))

-- Where a unit is to be taken in

-- there is no such dylib, or the tracker isn't its
abbrev pub place_reason : Plain → DylibId → TrackId → Option Reply
place_reason m d t = option_or (absent m.dylibs d) (not_of (home m.trackers t.0) d t)

place_answer : (m : Plain) (d : DylibId) (t : TrackId) (last : Reply) → unwrap_or (no_dylib m (d ∷ [])) (unwrap_or (not_tracker_of m d t) last) ≡ unwrap_or (place_reason m d t) last
place_answer m d t last = alone (absent m.dylibs d)
    ∙ ap (λ b. unwrap_or (absent m.dylibs d) (unwrap_or (only_if (not b) (reply.TrackerGone t)) last)) (at_home m d t.0)
    ∙ in_turn (absent m.dylibs d) (not_of (home m.trackers t.0) d t) last
  where
    alone : (o : Option Reply) → unwrap_or (or_else o None) (unwrap_or (not_tracker_of m d t) last) ≡ unwrap_or o (unwrap_or (not_tracker_of m d t) last)
    alone None = refl
    alone (Some r) = refl

place_quiet : (m : Plain) (d : DylibId) (t : TrackId) (P : Reply → Type 0) → P (reply.NoDylib d) → P (reply.TrackerGone t) → IfSome (place_reason m d t) P
place_quiet m d t P p q = either P (absent m.dylibs d) (not_of (home m.trackers t.0) d t) (only P (not (nat_lt d.0 (length m.dylibs))) (reply.NoDylib d) p) (only P (not (is_of (home m.trackers t.0) d)) (reply.TrackerGone t) q)

-- with no reason the dylib is there, and the tracker is its
place_there : (m : Plain) (d : DylibId) (t : TrackId) → place_reason m d t ≡ None → (d.0 < length m.dylibs) × (is_tracker_of m d.0 t.0 ≡ true)
place_there m d t n = let parts = neither (absent m.dylibs d) (not_of (home m.trackers t.0) d t) n in (
  there m d parts.0,
  at_home m d t.0 ∙ not-false (is_of (home m.trackers t.0) d) (not_so (not (is_of (home m.trackers t.0) d)) (reply.TrackerGone t) parts.1),
)

-- Generators

abbrev pub attach_reason : Plain → DylibId → TrackId → Option Reply
attach_reason m d t = option_or (place_reason m d t) (too_many (length m.generators) GENERATOR_LIMIT)

attach_answer : (m : Plain) (d : DylibId) (t : TrackId) → answer_attach m d t ≡ unwrap_or (attach_reason m d t) (reply.Generator (record { 0 = length m.generators }))
attach_answer m d t = place_answer m d t (unwrap_or (too_many (length m.generators) GENERATOR_LIMIT) (reply.Generator (record { 0 = length m.generators })))
    ∙ in_turn (place_reason m d t) (too_many (length m.generators) GENERATOR_LIMIT) (reply.Generator (record { 0 = length m.generators }))

attach_quiet : (m : Plain) (d : DylibId) (t : TrackId) (u : Meaning) → IfSome (attach_reason m d t) (IsQuiet m (event.Attach d t u))
attach_quiet m d t u = either (IsQuiet m (event.Attach d t u)) (place_reason m d t) (too_many (length m.generators) GENERATOR_LIMIT)
    (place_quiet m d t (IsQuiet m (event.Attach d t u)) (λ s. refl) (λ s. refl))
    (only (IsQuiet m (event.Attach d t u)) (nat_le GENERATOR_LIMIT (length m.generators)) reply.TooMany (λ s. refl))

pub attach_refused : (m : Plain) (d : DylibId) (t : TrackId) (o : Option Reply) → o ≡ attach_reason m d t → IfSome o (λ r. (u : Meaning) → HasSource m u → Refuses m (event.Attach d t u) r)
attach_refused m d t o is = if_some (λ r. (u : Meaning) → HasSource m u → Refuses m (event.Attach d t u) r) o (λ r here u source. record {
  answered = λ jmax past s. (source, is_answer o (attach_reason m d t) r (reply.Generator (record { 0 = length m.generators })) (answer_attach m d t) is here (attach_answer m d t));
  quiet = holds (IsQuiet m (event.Attach d t u)) o (attach_reason m d t) r is here (attach_quiet m d t u);
})

pub attach_accepted : (m : Plain) (d : DylibId) (t : TrackId) (o : Option Reply) → o ≡ attach_reason m d t → IfNone o (AcceptsAttach m d t)
attach_accepted m d t o is = if_none o (λ n. let e : attach_reason m d t ≡ None = sym is ∙ n in
    let parts = neither (place_reason m d t) (too_many (length m.generators) GENERATOR_LIMIT) e in
    let at = place_there m d t parts.0 in
    record {
      answered = attach_answer m d t ∙ ap (λ q. unwrap_or q (reply.Generator (record { 0 = length m.generators }))) e;
      there = at.0;
      tracker = at.1;
      few = leb-false GENERATOR_LIMIT (length m.generators) (not_so (nat_le GENERATOR_LIMIT (length m.generators)) reply.TooMany parts.1);
    })

-- Units

abbrev pub define_reason : Plain → DylibId → TrackId → ℕ → Option Reply
define_reason m d t count = option_or (place_reason m d t) (only_if (is_full (length m.units) (length m.rows) count) reply.TooMany)

-- what is answered where there is no reason, by the names
abbrev by_names : Plain → DylibId → Meaning → Reply
by_names m d u = unwrap_or (first_clash m d.0 u.offers) (next_defined m d.0 u.offers)

define_answer : (m : Plain) (d : DylibId) (t : TrackId) (count : ℕ) (u : Meaning) → length u.offers ≡ count → answer_define m d t u ≡ unwrap_or (define_reason m d t count) (by_names m d u)
define_answer m d t count u same = place_answer m d t (unwrap_or (only_if (is_full (length m.units) (length m.rows) (length u.offers)) reply.TooMany) (by_names m d u))
    ∙ in_turn (place_reason m d t) (only_if (is_full (length m.units) (length m.rows) (length u.offers)) reply.TooMany) (by_names m d u)
    ∙ ap (λ n. unwrap_or (define_reason m d t n) (by_names m d u)) same

define_quiet : (m : Plain) (d : DylibId) (t : TrackId) (count : ℕ) (u : Meaning) → IfSome (define_reason m d t count) (IsQuiet m (event.Define d t u))
define_quiet m d t count u = either (IsQuiet m (event.Define d t u)) (place_reason m d t) (only_if (is_full (length m.units) (length m.rows) count) reply.TooMany)
    (place_quiet m d t (IsQuiet m (event.Define d t u)) (λ s. refl) (λ s. refl))
    (only (IsQuiet m (event.Define d t u)) (is_full (length m.units) (length m.rows) count) reply.TooMany (λ s. refl))

pub define_refused : (m : Plain) (d : DylibId) (t : TrackId) (count : ℕ) (o : Option Reply) → o ≡ define_reason m d t count → IfSome o (λ r. (u : Meaning) → HasSource m u → length u.offers ≡ count → Refuses m (event.Define d t u) r)
define_refused m d t count o is = if_some (λ r. (u : Meaning) → HasSource m u → length u.offers ≡ count → Refuses m (event.Define d t u) r) o (λ r here u source same. record {
  answered = λ jmax past s. (source, is_answer o (define_reason m d t count) r (by_names m d u) (answer_define m d t u) is here (define_answer m d t count u same));
  quiet = holds (IsQuiet m (event.Define d t u)) o (define_reason m d t count) r is here (define_quiet m d t count u);
})

pub define_accepted : (m : Plain) (d : DylibId) (t : TrackId) (count : ℕ) (o : Option Reply) → o ≡ define_reason m d t count → IfNone o (AcceptsDefine m d t count)
define_accepted m d t count o is = if_none o (λ n. let e : define_reason m d t count ≡ None = sym is ∙ n in
    let parts = neither (place_reason m d t) (only_if (is_full (length m.units) (length m.rows) count) reply.TooMany) e in
    let at = place_there m d t parts.0 in
    let room = or_parts (nat_le UNIT_LIMIT (length m.units)) (nat_lt INSTANCE_LIMIT (length m.rows + count)) (not_so (is_full (length m.units) (length m.rows) count) reply.TooMany parts.1) in
    record {
      answered = λ u same. define_answer m d t count u same ∙ ap (λ q. unwrap_or q (by_names m d u)) e;
      there = at.0;
      tracker = at.1;
      units = leb-false UNIT_LIMIT (length m.units) room.0;
      instances = ltb-false INSTANCE_LIMIT (length m.rows + count) room.1;
    })
