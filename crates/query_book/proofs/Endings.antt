-- What the end of a query does to the rows.
use Rattle.std.proofs.Common.{◌≡◌, ◌≢◌, ℕ, Option, Some, None, ◌+◌, ◌<◌, ◌≤◌, List, [], ◌∷◌, ◌++◌, length, map, set, zero, suc, refl, ap, sym, ◌∙◌, cond, subst, arith, length-set, length-append, append_assoc}
use Rattle.std.specs.Prelude.{◌==◌, IfSome, IfNone, slice_get, option_and_then, option_to_list}
use Rattle.std.specs.Option.{option_map_or}
use Rattle.std.proofs.lemmas.List.{map-set, map-append}
use Rattle.orc_ids.specs.declared.ids.UnitId.{UnitId}
use Rattle.orc_ids.specs.declared.lookup.Outcome.{Outcome}
use Rattle.session_model.specs.Query.{Stand}
use Rattle.session_model.specs.declared.rows.Query.{Query}
use Rattle.notifiers.specs.declared.notice.Unheard.{Unheard}
use Rattle.notifiers.specs.declared.notice.Notice.{Notice}
use Rattle.query_book.specs.declared.ends.QueryEnd.{QueryEnd}
use Rattle.query_book.specs.declared.rows.State.{State}
use Rattle.query_book.specs.declared.rows.State.TheVariants.{Open, Ended}
use Rattle.query_book.specs.Stands.{ending}
use Rattle.query_book.specs.Counts.{count}
use Rattle.query_book.specs.Rows.{Account, with_query, ended_one, fired_one, ended_all, fired_all, unit_of, notices, outcome_of, first_armed, without_first, armed_count}
use Rattle.query_book.specs.States.{end_of, CanEnd, open_count, HaveRoom, OnlyOpen, NoneBefore, IsSound}
use Rattle.query_book.proofs.Parts.{get_other, count_same}

-- the state of an open query
pub open_state : (states : List State) (k : ℕ) → slice_get (map end_of states) k ≡ Some None → (st : State) × (slice_get states k ≡ Some st) × (end_of st ≡ None)
open_state [] k is = absurd cc
open_state (st ∷ states) zero is = (st, refl, cc)
open_state (st ∷ states) (suc k) is = open_state states k is

pub can_end : (qs : List Query) (states : List State) (k : ℕ) (q : Query) (st : State) → HaveRoom qs states → slice_get qs k ≡ Some q → slice_get states k ≡ Some st → end_of st ≡ None → CanEnd (length q.matched) st
can_end qs [] k q st room here is unended = absurd cc
can_end [] (x ∷ states) k q st room here is unended = absurd cc
can_end (p ∷ qs) (Open r ∷ states) zero q st room here is unended =
    let e : p ≡ q = cc in let f : Open r ≡ st = cc in subst (λ s. CanEnd (length q.matched) s) f (subst (λ (x : Query). CanEnd (length x.matched) (Open r)) e room.0)
can_end (p ∷ qs) (Ended e ∷ states) zero q st room here is unended = absurd (let f : Ended e ≡ st = cc in let g : Some e ≡ None = ap end_of f ∙ unended in cc)
can_end (p ∷ qs) (Open r ∷ states) (suc k) q st room here is unended = can_end qs states k q st room.1 here is unended
can_end (p ∷ qs) (Ended e ∷ states) (suc k) q st room here is unended = can_end qs states k q st room here is unended

pub one_open : (states : List State) (k : ℕ) (e : QueryEnd) → slice_get (map end_of states) k ≡ Some None → open_count states ≡ suc (open_count (set states k (Ended e)))
one_open [] k e is = absurd cc
one_open (Open r ∷ states) zero e is = refl
one_open (Ended f ∷ states) zero e is = absurd cc
one_open (Open r ∷ states) (suc k) e is = ap suc (one_open states k e is)
one_open (Ended f ∷ states) (suc k) e is = one_open states k e is

room_ended : (qs : List Query) (states : List State) (k : ℕ) (e : QueryEnd) → HaveRoom qs states → HaveRoom qs (set states k (Ended e))
room_ended qs [] k e room = room
room_ended [] (x ∷ states) zero e room = tt
room_ended [] (x ∷ states) (suc k) e room = tt
room_ended (q ∷ qs) (Open r ∷ states) zero e room = room.1
room_ended (q ∷ qs) (Ended f ∷ states) zero e room = room
room_ended (q ∷ qs) (Open r ∷ states) (suc k) e room = (room.0, room_ended qs states k e room.1)
room_ended (q ∷ qs) (Ended f ∷ states) (suc k) e room = room_ended qs states k e room

only_ended : {X : Type 0} (states : List State) (os : List (Option X)) (k : ℕ) (e : QueryEnd) → OnlyOpen states os → OnlyOpen (set states k (Ended e)) (set os k None)
only_ended [] os k e only = tt
only_ended (x ∷ states) [] zero e only = tt
only_ended (x ∷ states) [] (suc k) e only = tt
only_ended (Open r ∷ states) (o ∷ os) zero e only = (refl, only)
only_ended (Ended f ∷ states) (o ∷ os) zero e only = (refl, only.1)
only_ended (Open r ∷ states) (o ∷ os) (suc k) e only = only_ended states os k e only
only_ended (Ended f ∷ states) (o ∷ os) (suc k) e only = (only.0, only_ended states os k e only.1)

none_ended : {X : Type 0} (n : ℕ) (os : List (Option X)) (k : ℕ) → NoneBefore n os → NoneBefore n (set os k None)
none_ended zero os k none = tt
none_ended (suc n) [] k none = tt
none_ended (suc n) (o ∷ os) zero none = (refl, none.1)
none_ended (suc n) (o ∷ os) (suc k) none = (none.0, none_ended n os k none.1)

pub sound_ended : {X : Type 0} (qs : List Query) (states : List State) (armed : List (Option X)) (unarmed due room due' room' k : ℕ) (st : State) (o : Option X) (e : QueryEnd) → IsSound qs states armed unarmed due room → slice_get (map end_of states) k ≡ Some None → st ≡ Ended e → o ≡ None → due' ≤ due + 1 → room' ≡ room → IsSound qs (set states k st) (set armed k o) unarmed due' room'
sound_ended qs states armed unarmed due room due' room' k st o e s is ends none more same =
    subst (λ x. IsSound qs (set states k x) (set armed k o) unarmed due' room') (sym ends) (subst (λ x. IsSound qs (set states k (Ended e)) (set armed k x) unarmed due' room') (sym none) (record {
      states_of = length-set states k (Ended e) ∙ s.states_of;
      armed_of = length-set armed k None ∙ s.armed_of;
      rooms = room_ended qs states k e s.rooms;
      units = let c : open_count states ≡ suc (open_count (set states k (Ended e))) = one_open states k e is in omega (arith, c, s.units, more, same);
      only_open = only_ended states armed k e s.only_open;
      below = none_ended unarmed armed k s.below;
      within = let l : length (set armed k None) ≡ length armed = length-set armed k None in omega (arith, l, s.within);
    }))

pub due_fits : {X : Type 0} (qs : List Query) (states : List State) (armed : List (Option X)) (unarmed due room k : ℕ) (e : QueryEnd) → IsSound qs states armed unarmed due room → slice_get (map end_of states) k ≡ Some None → due < room
due_fits qs states armed unarmed due room k e s is = let c : open_count states ≡ suc (open_count (set states k (Ended e))) = one_open states k e is in omega (arith, c, s.units)

pub ended_same : {N : Type 0} (at : ℕ) (s : ℕ → Stand) (k : ℕ) (a : Account N) (q : Query) (states : List State) (st : State) (o : Option (Unheard N)) (due : List UnitId) → slice_get a.queries k ≡ Some q → map end_of states ≡ a.ends → st ≡ Ended (record { at = at; end = ending s q }) → o ≡ None → due ≡ a.due ++ option_to_list (unit_of q) → ◌≡◌ {A = Account N} (record { queries = a.queries; ends = map end_of (set states k st); armed = set a.armed k o; due = due }) (ended_one at s k a)
ended_same {N} at s k a q states st o due here ends is none more =
    let e : map end_of (set states k st) ≡ set a.ends k (Some (record { at = at; end = ending s q })) =
    map-set end_of states k st ∙ ap (λ ls. set ls k (end_of st)) ends ∙ ap (λ x. set a.ends k (end_of x)) is in
    let f : set a.armed k o ≡ set a.armed k None = ap (λ x. set a.armed k x) none in
    ap (λ x. record { queries = a.queries; ends = x; armed = set a.armed k o; due = due }) e
    ∙ ap (λ x. record { queries = a.queries; ends = set a.ends k (Some (record { at = at; end = ending s q })); armed = x; due = due }) f
    ∙ ap (λ x. record { queries = a.queries; ends = set a.ends k (Some (record { at = at; end = ending s q })); armed = set a.armed k None; due = x }) more
    ∙ sym (ap (λ (x : Option Query). option_map_or (λ q. record { queries = a.queries; ends = set a.ends k (Some (record { at = at; end = ending s q })); armed = set a.armed k None; due = a.due ++ option_to_list (unit_of q) }) x a) here)

pub fired_same : {N : Type 0} (at : ℕ) (s : ℕ → Stand) (k : ℕ) (a : Account N) (q : Query) (o : Option (Unheard N)) (old new : List (Notice N)) (outcome : Outcome) → slice_get a.queries k ≡ Some q → slice_get a.armed k ≡ Some o → outcome ≡ outcome_of at s k q → new ≡ old ++ notices o outcome → new ≡ old ++ fired_one at s k a
fired_same at s k a q o old new outcome here armed told more =
    more ∙ ap (λ x. old ++ notices o x) told
    ∙ sym (ap (λ (x : Option Query). old ++ option_map_or (λ q. notices (option_and_then (λ o. o) (slice_get a.armed k)) (outcome_of at s k q)) x []) here
    ∙ ap (λ x. old ++ notices (option_and_then (λ o. o) x) (outcome_of at s k q)) armed)

-- the others are as they were
pub ended_other : {N : Type 0} (at : ℕ) (s : ℕ → Stand) (k j : ℕ) (a : Account N) → k ≢ j → slice_get (ended_one at s k a).ends j ≡ slice_get a.ends j
ended_other {N} at s k j a apart = step (slice_get a.queries k)
  where
    step : (o : Option Query) → slice_get (option_map_or (λ q. record { queries = a.queries; ends = set a.ends k (Some (record { at = at; end = ending s q })); armed = set a.armed k None; due = a.due ++ option_to_list (unit_of q) }) o a).ends j ≡ slice_get a.ends j
    step None = refl
    step (Some q) = get_other a.ends k j _ apart

-- the end of some queries, one by one
pub record AreEnding {N : Type 0} (at : ℕ) (s : ℕ → Stand) (all left : List ℕ) (first now : Account N) (old fires : List (Notice N)) : Type 0 where
  pub rows : ended_all at s left now ≡ ended_all at s all first
  pub told : fires ++ fired_all at s left now ≡ old ++ fired_all at s all first
  pub once : (k : ℕ) → count k left ≤ 1
  pub unended : (k : ℕ) → 0 < count k left → slice_get now.ends k ≡ Some None

pub ending_first : {N : Type 0} (at : ℕ) (s : ℕ → Stand) (all left rest : List ℕ) (k : ℕ) (first now : Account N) (old fires : List (Notice N)) → AreEnding at s all left first now old fires → left ≡ k ∷ rest → slice_get now.ends k ≡ Some None
ending_first at s all left rest k first now old fires e is = e.unended k (let c : count k left ≡ suc (count k rest) = ap (λ l. count k l) is ∙ count_same k rest in omega (arith, c))

pub ending_more : {N : Type 0} (at : ℕ) (s : ℕ → Stand) (all left rest : List ℕ) (k : ℕ) (first now new : Account N) (old fires fires' : List (Notice N)) → AreEnding at s all left first now old fires → left ≡ k ∷ rest → new ≡ ended_one at s k now → fires' ≡ fires ++ fired_one at s k now → AreEnding at s all rest first new old fires'
ending_more at s all left rest k first now new old fires fires' e is ended told = record {
  rows = ap (λ a. ended_all at s rest a) ended ∙ sym (ap (λ l. ended_all at s l now) is) ∙ e.rows;
  told = ap (λ f. f ++ fired_all at s rest new) told ∙ ap (λ a. (fires ++ fired_one at s k now) ++ fired_all at s rest a) ended
      ∙ append_assoc fires (fired_one at s k now) (fired_all at s rest (ended_one at s k now)) ∙ sym (ap (λ l. fires ++ fired_all at s l now) is) ∙ e.told;
  once = λ j. let c : count j left ≡ cond (k == j) 1 0 + count j rest = ap (λ l. count j l) is in omega (arith, c, e.once j);
  unended = λ j pos.
      let c : count j left ≡ cond (k == j) 1 0 + count j rest = ap (λ l. count j l) is in
      ap (λ (a : Account _). slice_get a.ends j) ended
      ∙ ended_other at s k j now (λ f. let d : count j left ≡ suc (count j rest) = subst (λ i. count i left ≡ suc (count i rest)) f (ap (λ l. count k l) is ∙ count_same k rest) in let h : count j left ≤ 1 = e.once j in omega (arith, d, h, pos))
      ∙ e.unended j (omega (arith, c, pos));
}

room_push : (qs : List Query) (states : List State) (q : Query) (st : State) → length states ≡ length qs → CanEnd (length q.matched) st → HaveRoom qs states → HaveRoom (qs ++ q ∷ []) (states ++ st ∷ [])
room_push [] [] q (Open r) same can room = (can, tt)
room_push [] [] q (Ended e) same can room = absurd can
room_push [] (x ∷ states) q st same can room = absurd (omega (arith, same))
room_push (p ∷ qs) [] q st same can room = absurd (omega (arith, same))
room_push (p ∷ qs) (Open r ∷ states) q st same can room = (room.0, room_push qs states q st (omega (arith, same)) can room.1)
room_push (p ∷ qs) (Ended e ∷ states) q st same can room = room_push qs states q st (omega (arith, same)) can room

only_push : {X : Type 0} (states : List State) (os : List (Option X)) (st : State) (o : Option X) → length states ≡ length os → end_of st ≡ None → OnlyOpen states os → OnlyOpen (states ++ st ∷ []) (os ++ o ∷ [])
only_push [] [] (Open r) o same unended only = tt
only_push [] [] (Ended e) o same unended only = absurd cc
only_push [] (x ∷ os) st o same unended only = absurd (omega (arith, same))
only_push (x ∷ states) [] st o same unended only = absurd (omega (arith, same))
only_push (Open r ∷ states) (x ∷ os) st o same unended only = only_push states os st o (omega (arith, same)) unended only
only_push (Ended e ∷ states) (x ∷ os) st o same unended only = (only.0, only_push states os st o (omega (arith, same)) unended only.1)

count_push : (states : List State) (st : State) → open_count (states ++ st ∷ []) ≤ open_count states + 1
count_push [] (Open r) = omega arith
count_push [] (Ended e) = omega arith
count_push (Open r ∷ states) st = let h : open_count (states ++ st ∷ []) ≤ open_count states + 1 = count_push states st in omega (arith, h)
count_push (Ended e ∷ states) st = count_push states st

count_few : (states : List State) → open_count states ≤ length states
count_few [] = omega arith
count_few (Open r ∷ states) = let h : open_count states ≤ length states = count_few states in omega (arith, h)
count_few (Ended e ∷ states) = let h : open_count states ≤ length states = count_few states in omega (arith, h)

none_push : {X : Type 0} (n : ℕ) (os : List (Option X)) (o : Option X) → n ≤ length os → NoneBefore n os → NoneBefore n (os ++ o ∷ [])
none_push zero os o few none = tt
none_push (suc n) [] o few none = absurd (omega (arith, few))
none_push (suc n) (p ∷ os) o few none = (none.0, none_push n os o (omega (arith, few)) none.1)

pub sound_push : {X : Type 0} (qs qs' : List Query) (states states' : List State) (armed armed' : List (Option X)) (unarmed due room due' room' : ℕ) (q : Query) (st : State) (o : Option X) → IsSound qs states armed unarmed due room → qs' ≡ qs ++ q ∷ [] → states' ≡ states ++ st ∷ [] → armed' ≡ armed ++ o ∷ [] → CanEnd (length q.matched) st → end_of st ≡ None → due' + (length states + 1) ≤ room' → IsSound qs' states' armed' unarmed due' room'
sound_push {X} qs qs' states states' armed armed' unarmed due room due' room' q st o s eq es ea can unended fits =
    subst (λ l. IsSound l states' armed' unarmed due' room') (sym eq) (subst (λ l. IsSound (qs ++ q ∷ []) l armed' unarmed due' room') (sym es) (subst (λ l. IsSound (qs ++ q ∷ []) (states ++ st ∷ []) l unarmed due' room') (sym ea) (record {
      states_of = length-append states (st ∷ []) ∙ (let e : length (qs ++ q ∷ []) ≡ length qs + 1 = length-append qs (q ∷ []) in omega (arith, e, s.states_of));
      armed_of = length-append armed (o ∷ []) ∙ (let e : length (qs ++ q ∷ []) ≡ length qs + 1 = length-append qs (q ∷ []) in omega (arith, e, s.armed_of));
      rooms = room_push qs states q st s.states_of can s.rooms;
      units = let a = count_push states st in let b = count_few states in omega (arith, a, b, fits);
      only_open = only_push states armed st o (s.states_of ∙ sym s.armed_of) unended s.only_open;
      below = none_push unarmed armed o s.within s.below;
      within = let l : length (armed ++ o ∷ []) ≡ length armed + 1 = length-append armed (o ∷ []) in omega (arith, l, s.within);
    })))

pub sound_same : {X : Type 0} (qs qs' : List Query) (states states' : List State) (armed armed' : List (Option X)) (unarmed due room due' room' : ℕ) → IsSound qs states armed unarmed due room → qs' ≡ qs → states' ≡ states → armed' ≡ armed → due' ≡ due → room ≤ room' → IsSound qs' states' armed' unarmed due' room'
sound_same qs qs' states states' armed armed' unarmed due room due' room' s eq es ea same more =
    subst (λ l. IsSound l states' armed' unarmed due' room') (sym eq) (subst (λ l. IsSound qs l armed' unarmed due' room') (sym es) (subst (λ l. IsSound qs states l unarmed due' room') (sym ea) (record {
      states_of = s.states_of;
      armed_of = s.armed_of;
      rooms = s.rooms;
      units = omega (arith, s.units, same, more);
      only_open = s.only_open;
      below = s.below;
      within = s.within;
    })))

-- the rows as they are seen
abbrev pub account_of : {N : Type 0} → List Query → List State → List (Option (Unheard N)) → List UnitId → Account N
account_of qs states armed due = record { queries = qs; ends = map end_of states; armed = armed; due = due }

pub account_same : {N : Type 0} (qs qs' : List Query) (states states' : List State) (armed armed' : List (Option (Unheard N))) (due due' : List UnitId) (a : Account N) → account_of qs states armed due ≡ a → qs' ≡ qs → states' ≡ states → armed' ≡ armed → due' ≡ due → account_of qs' states' armed' due' ≡ a
account_same qs qs' states states' armed armed' due due' a is eq es ea ed =
    ap (λ x. account_of x states' armed' due') eq ∙ ap (λ x. account_of qs x armed' due') es ∙ ap (λ x. account_of qs states x due') ea ∙ ap (λ x. account_of qs states armed x) ed ∙ is

pub account_push : {N : Type 0} (qs qs' : List Query) (states states' : List State) (armed armed' : List (Option (Unheard N))) (due due' : List UnitId) (a : Account N) (q : Query) (st : State) (o : Option (Unheard N)) → account_of qs states armed due ≡ a → end_of st ≡ None → qs' ≡ qs ++ q ∷ [] → states' ≡ states ++ st ∷ [] → armed' ≡ armed ++ o ∷ [] → due' ≡ due → account_of qs' states' armed' due' ≡ with_query a q o
account_push {N} qs qs' states states' armed armed' due due' a q st o is unended eq es ea ed =
    ap (λ x. account_of x states' armed' due') eq ∙ ap (λ x. account_of (qs ++ q ∷ []) x armed' due') es ∙ ap (λ x. account_of (qs ++ q ∷ []) (states ++ st ∷ []) x due') ea
    ∙ ap (λ x. account_of (qs ++ q ∷ []) (states ++ st ∷ []) (armed ++ o ∷ []) x) ed
    ∙ ap (λ (x : List (Option QueryEnd)). let b : Account N = record { queries = qs ++ q ∷ []; ends = x; armed = armed ++ o ∷ []; due = due } in b) (map-append end_of states (st ∷ []) ∙ ap (λ e. map end_of states ++ e ∷ []) unended)
    ∙ ap (λ (x : Account N). with_query x q o) is

pub none_taken : {X : Type 0} (k : ℕ) (os : List (Option X)) → NoneBefore k os → NoneBefore (suc k) (set os k None)
none_taken zero [] none = tt
none_taken zero (o ∷ os) none = (refl, tt)
none_taken (suc k) [] none = tt
none_taken (suc k) (o ∷ os) none = (none.0, none_taken k os none.1)

pub none_more : {X : Type 0} (k : ℕ) (os : List (Option X)) → NoneBefore k os → slice_get os k ≡ Some None → NoneBefore (suc k) os
none_more zero [] none is = tt
none_more zero (o ∷ os) none is = (cc, tt)
none_more (suc k) [] none is = tt
none_more (suc k) (o ∷ os) none is = (none.0, none_more k os none.1 is)

pub first_here : {X : Type 0} (k : ℕ) (os : List (Option X)) (x : X) → NoneBefore k os → slice_get os k ≡ Some (Some x) → (Some x ≡ first_armed os) × (set os k None ≡ without_first os)
first_here k [] x none is = absurd cc
first_here zero (None ∷ os) x none is = absurd cc
first_here zero (Some y ∷ os) x none is = (cc, refl)
first_here (suc k) (None ∷ os) x none is = let r = first_here k os x none.1 is in (r.0, ap (λ l. None ∷ l) r.1)
first_here (suc k) (Some y ∷ os) x none is = absurd (let e = none.0 in cc)

pub all_none : {X : Type 0} (k : ℕ) (os : List (Option X)) → length os ≤ k → NoneBefore k os → (None ≡ first_armed os) × (os ≡ without_first os)
all_none k [] past none = (refl, refl)
all_none zero (o ∷ os) past none = absurd (omega (arith, past))
all_none (suc k) (None ∷ os) past none = let r = all_none k os (omega (arith, past)) none.1 in (r.0, ap (λ l. None ∷ l) r.1)
all_none (suc k) (Some y ∷ os) past none = absurd (let e = none.0 in cc)

pub length_first : {X : Type 0} (os : List (Option X)) → length (without_first os) ≡ length os
length_first [] = refl
length_first (None ∷ os) = ap suc (length_first os)
length_first (Some x ∷ os) = refl

only_first : {X : Type 0} (states : List State) (os : List (Option X)) → OnlyOpen states os → OnlyOpen states (without_first os)
only_first [] os only = tt
only_first (st ∷ states) [] only = tt
only_first (Open r ∷ states) (None ∷ os) only = only_first states os only
only_first (Open r ∷ states) (Some x ∷ os) only = only
only_first (Ended e ∷ states) (None ∷ os) only = (refl, only_first states os only.1)
only_first (Ended e ∷ states) (Some x ∷ os) only = (refl, only.1)

pub sound_first : {X : Type 0} (qs : List Query) (states : List State) (armed armed' : List (Option X)) (unarmed unarmed' due room : ℕ) → IsSound qs states armed unarmed due room → armed' ≡ without_first armed → NoneBefore unarmed' armed' → unarmed' ≤ length armed' → IsSound qs states armed' unarmed' due room
sound_first qs states armed armed' unarmed unarmed' due room s e below within = record {
  states_of = s.states_of;
  armed_of = ap length e ∙ length_first armed ∙ s.armed_of;
  rooms = s.rooms;
  units = s.units;
  only_open = subst (λ l. OnlyOpen states l) (sym e) (only_first states armed s.only_open);
  below = below;
  within = within;
}

-- where no notifier came out, none is left
none_left : {X : Type 0} (os : List (Option X)) → first_armed os ≡ None → first_armed (without_first os) ≡ None
none_left [] none = refl
none_left (None ∷ os) none = none_left os none
none_left (Some x ∷ os) none = absurd cc

count_first : {X : Type 0} (os : List (Option X)) (x : X) → first_armed os ≡ Some x → armed_count (without_first os) + 1 ≡ armed_count os
count_first [] x is = absurd cc
count_first (None ∷ os) x is = count_first os x is
count_first (Some y ∷ os) x is = omega arith

-- each notifier that comes out leaves one less
pub one_came : {X : Type 0} (os new : List (Option X)) (first : Option X) → first ≡ first_armed os → new ≡ without_first os → IfSome first (λ x. armed_count new + 1 ≡ armed_count os)
one_came os new None is rest = tt
one_came os new (Some x) is rest = ap (λ l. armed_count l + 1) rest ∙ count_first os x (sym is)

pub none_came : {X : Type 0} (os new : List (Option X)) (first : Option X) → first ≡ first_armed os → new ≡ without_first os → IfNone first (first_armed new ≡ None)
none_came os new None is rest = ap first_armed rest ∙ none_left os (sym is)
none_came os new (Some x) is rest = tt

pub set_same : {X : Type 0} (xs : List X) (k : ℕ) (x : X) → slice_get xs k ≡ Some x → set xs k x ≡ xs
set_same [] k x is = absurd cc
set_same (y ∷ xs) zero x is = let e : y ≡ x = cc in ap (λ z. z ∷ xs) (sym e)
set_same (y ∷ xs) (suc k) x is = ap (λ l. y ∷ l) (set_same xs k x is)
