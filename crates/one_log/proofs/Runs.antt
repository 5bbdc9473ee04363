-- What the entries of a run without workers are.
use Rattle.std.proofs.Common.{◌≡◌, ℕ, zero, suc, ◌+◌, ◌<◌, ◌≤◌, Bool, true, false, List, [], ◌∷◌, ◌++◌, length, map, take, slice_get, All, ◌⊎◌, inl, inr, refl, sym, ap, ◌∙◌, subst, arith, append_assoc, Some, None, nat_eq, nat_lt, ◌&&◌}
use Rattle.std.specs.Bool.{if◌then◌else◌}
use Rattle.std.specs.List.{AllByRecursion}
use Rattle.std.specs.Option.{option_map_or}
use Rattle.std.proofs.lemmas.Bool.{both_ways, eq-eqb, le-ltb, lt-ltb}
use Rattle.std.proofs.lemmas.List.{length-append, length-map}
use Rattle.std.proofs.lemmas.List.Elements.{All-head, All-tail, All-weaker, recursion_from_All}
use Rattle.std.proofs.lemmas.Option.{same_Some}
use Rattle.list_laws.proofs.Each.{each_mapped, each_taken, each_weaker}
use Rattle.orc_ids.specs.declared.ids.GenId.{GenId}
use Rattle.orc_ids.specs.declared.ids.NameId.{NameId}
use Rattle.orc_ids.specs.declared.ids.UnitId.{UnitId}
use Rattle.session_model.specs.Answer.{Answers, HasCause, IsFree, is_held}
use Rattle.session_model.specs.Calls.{Lookup, lookup_event, numbered_calls, refusal_of}
use Rattle.session_model.specs.History.{HasPlacesFrom, IsLegal, is_full}
use Rattle.session_model.specs.Meaning.{Meaning, Bindings}
use Rattle.session_model.specs.Plain.{Plain, UnitRow, empty, is_defunct}
use Rattle.session_model.specs.State.{after, state, state_from}
use Rattle.session_model.specs.declared.entry.Entry.{Entry}
use Rattle.session_model.specs.declared.entry.Event.{Event}
use Rattle.session_model.specs.declared.entry.Event.TheVariants as event
use Rattle.session_model.specs.declared.entry.Finishing.TheVariants.{Bound}
use Rattle.session_model.specs.declared.entry.Reply.TheVariants as reply
use Rattle.session_model.specs.declared.entry.Why.TheVariants as why
use Rattle.session_laws.proofs.Declared.{prefixes_legal, appended_cases, element_below, call_cases, legal_rest, call_first}
use Rattle.session_laws.specs.Entries.{entries}
use Rattle.closure_laws.proofs.Declared.{OneMore}
use Rattle.memory_laws.specs.Objects.{first_dylib, first_tracker, setup_events}
use Rattle.run_laws.specs.Ended.{Ended, IsRefusedAt, IsRun, client_calls, is_cut, is_whole}
use Rattle.run_laws.specs.Runs.{IsSetUp, lookup_of}
use Rattle.run_laws.specs.declared.linked.Linked.{Linked}
use Rattle.run_laws.proofs.Calm.{IsCall, IsUnoffered, Unoffered, is_call, is_offer, never_offered}
use Rattle.run_laws.proofs.Cutting.{cut_client}
use Rattle.run_laws.proofs.Costs.{NumberedCall, each_front, each_joined, looks_cost}
use Rattle.run_laws.proofs.Ready.{set_up_ready, setup_length}
use Rattle.run_laws.proofs.Seats.{calls_past, legal_at}
use Rattle.one_log.specs.Beginnings.{EdgesAreTold, IsSpared}
use Rattle.one_log.proofs.Entries.{Right}
use Rattle.one_log.proofs.Lookups.{Stands}
use Rattle.one_log.proofs.Phases.{Goes}
use Rattle.one_log.proofs.Staying.{Alive, IsHeldBy, after_alive, is_removal}

-- Lists

element_in : {X : Type 0} (xs : List X) (x : X) (ys : List X) → slice_get (xs ++ x ∷ ys) (length xs) ≡ Some x
element_in [] x ys = refl
element_in (z ∷ xs) x ys = element_in xs x ys

taken_front : {X : Type 0} (xs ys : List X) → take (length xs) (xs ++ ys) ≡ xs
taken_front [] ys = refl
taken_front (x ∷ xs) ys = ap (λ l. x ∷ l) (taken_front xs ys)

taken_one_more : {X : Type 0} (xs : List X) (x : X) (ys : List X) (n : ℕ) → n ≡ length xs + 1 → take n (xs ++ x ∷ ys) ≡ xs ++ x ∷ []
taken_one_more xs x ys n e = ap (λ k. take k (xs ++ x ∷ ys)) (e ∙ omega (arith, length-append xs (x ∷ []))) ∙ (ap (take (length (xs ++ x ∷ []))) (sym (append_assoc xs (x ∷ []) ys)) ∙ taken_front (xs ++ x ∷ []) ys)

each_at : {X : Type 0} (P : X → Type 0) (xs : List X) (i : ℕ) (x : X) → AllByRecursion P xs → slice_get xs i ≡ Some x → P x
each_at P [] i x a e = absurd (cc)
each_at P (y ∷ ys) zero x a e = subst P (same_Some y x e) a.0
each_at P (y ∷ ys) (suc i) x a e = each_at P ys i x a.1 e

-- The events of a set-up

abbrev is_setting : Event Meaning → Bool
is_setting (event.Dylib name) = true
is_setting (event.Tracker d) = true
is_setting (event.Define d t u) = true
is_setting v = false

defines_set : (units : List Meaning) → AllByRecursion (λ v. is_setting v ≡ true) (map (event.Define first_dylib first_tracker) units)
defines_set [] = tt
defines_set (u ∷ us) = (refl, defines_set us)

events_set : (main : NameId) (units : List Meaning) → AllByRecursion (λ v. is_setting v ≡ true) (setup_events main units)
events_set main units = (refl, (refl, defines_set units))

abbrev IsSetting : Entry Meaning → Type 0
IsSetting e = is_setting e.event ≡ true

abbrev IsHarmless : Entry Meaning → Type 0
IsHarmless e = is_removal e.event ≡ false

set_harmless : (v : Event Meaning) → is_setting v ≡ true → is_removal v ≡ false
set_harmless (event.Remove t) e = absurd (both_ways false refl e)
set_harmless _ e = refl

abbrev IsUncut : Entry Meaning → Type 0
IsUncut e = is_cut e.event ≡ false

set_uncut : (v : Event Meaning) → is_setting v ≡ true → is_cut v ≡ false
set_uncut (event.Fail u w) e = absurd (both_ways false refl e)
set_uncut _ e = refl

-- a take is no event of a set-up
pub not_setting : {P : Type 0} (e : Entry Meaning) → IsSetting e → e.event ≡ event.Take → P
not_setting e set takes = absurd (both_ways false refl (sym (ap is_setting takes) ∙ set))

call_harmless : (v : Event Meaning) → is_call v ≡ true → is_removal v ≡ false
call_harmless (event.Remove t) e = absurd (both_ways false refl e)
call_harmless _ e = refl

-- The calls of the client

numbered_all : (n : ℕ) (es : List (Entry Meaning)) → All (λ (e : Entry Meaning). e.seat.0 ≡ 1) es → entries (numbered_calls 1 n es) ≡ es
numbered_all n [] a = refl
numbered_all n (e ∷ es) a = ap entries (call_first 1 n e es (All-head (λ (f : Entry Meaning). f.seat.0 ≡ 1) e es a)) ∙ ap (λ l. e ∷ l) (numbered_all (n + 1) es (All-tail (λ (f : Entry Meaning). f.seat.0 ≡ 1) e es a))

-- they stand where their numbers say
pub stands_numbered : (h : List (Entry Meaning)) (m n : ℕ) (past es : List (Entry Meaning)) (rest : List (ℕ × Entry Meaning)) → All (λ (e : Entry Meaning). e.seat.0 ≡ 1) es → h ≡ past ++ es → n ≡ length past + 1 → m ≤ length es →
    Stands h m past (numbered_calls 1 n es ++ rest)
stands_numbered h zero n past es rest a is at b = tt
stands_numbered h (suc m) n past [] rest a is at b = absurd (omega (arith, b))
stands_numbered h (suc m) n past (e ∷ es) rest a is at b = subst (λ cs. Stands h (suc m) past (cs ++ rest)) (sym (call_first 1 n e es (All-head (λ (f : Entry Meaning). f.seat.0 ≡ 1) e es a))) (
  ap (take n) is ∙ taken_one_more past e es n at,
  stands_numbered h m (n + 1) (past ++ e ∷ []) es rest (All-tail (λ (f : Entry Meaning). f.seat.0 ≡ 1) e es a) (is ∙ sym (append_assoc past (e ∷ []) es)) (omega (arith, at, length-append past (e ∷ []))) (omega (arith, b)),
)

alive_along : (m : Plain) (es : List (Entry Meaning)) → AllByRecursion IsHarmless es → Alive m.units → Alive (state_from m es).units
alive_along m [] a old = old
alive_along m (e ∷ es) a old = alive_along (after m e) es a.1 (after_alive m e a.0 old)

places_at : (jmax : ℕ) (m : Plain) (past : List (Entry Meaning)) (e : Entry Meaning) (rest : List (Entry Meaning)) → HasPlacesFrom jmax m (past ++ e ∷ rest) → is_full jmax (state_from m past) e.seat.0 e.event ≡ false
places_at jmax m [] e rest p = p.0
places_at jmax m (f ∷ fs) e rest p = places_at jmax (after m f) fs e rest p.1

-- whose turn it is: first the set-up's, then the client's
abbrev pub turn : ℕ → List (Entry Meaning) → ℕ
turn count past = if nat_lt (length past) count then 0 else 1

turn_first : (count : ℕ) (past : List (Entry Meaning)) → length past < count → turn count past ≡ 0
turn_first count past b = ap (λ (t : Bool). if t then 0 else 1) (lt-ltb (length past) count b)

turn_then : (count : ℕ) (past : List (Entry Meaning)) → count ≤ length past → turn count past ≡ 1
turn_then count past b = ap (λ (t : Bool). if t then 0 else 1) (le-ltb (length past) count b)

held_not_wrong : (s : ℕ) (x : UnitRow) → x.seat ≡ Some s → (is_held s x && true) ≡ false → ⊥
held_not_wrong s x h w = both_ways (is_held s x) (unheld (is_held s x) w) (ap (λ o. option_map_or (nat_eq s) o false) h ∙ eq-eqb s s refl)
  where
    unheld : (b : Bool) → (b && true) ≡ false → b ≡ false
    unheld true e = e
    unheld false e = refl

-- The parts of a run without workers

-- the set-up has no other events than those of a set-up, and the client begins behind it
pub record Parts (units : List Meaning) (main : NameId) (setup later : List (Entry Meaning)) : Type 0 where
  pub set : AllByRecursion IsSetting setup
  pub short : length setup ≤ 2 + length units
  pub whole : (later ≡ []) ⊎ IsSetUp main units setup
  pub calls : AllByRecursion IsCall later

taken_few : {X : Type 0} (n : ℕ) (xs : List X) → length (take n xs) ≤ n
taken_few zero xs = omega arith
taken_few (suc n) [] = omega arith
taken_few (suc n) (x ∷ xs) = omega (arith, taken_few n xs)

pub events_count : (main : NameId) (units : List Meaning) → length (setup_events main units) ≡ 2 + length units
events_count main units = omega (arith, length-map units (event.Define first_dylib first_tracker))

-- entries whose events are the first n of a set-up
front_set : (main : NameId) (units : List Meaning) (n : ℕ) (xs : List (Entry Meaning)) → map (λ (e : Entry Meaning). e.event) xs ≡ take n (setup_events main units) → AllByRecursion IsSetting xs
front_set main units n xs e = each_mapped (λ v. is_setting v ≡ true) (λ (e : Entry Meaning). e.event) xs (subst (AllByRecursion (λ v. is_setting v ≡ true)) (sym e) (each_taken (λ v. is_setting v ≡ true) n (setup_events main units) (events_set main units)))

front_few : (main : NameId) (units : List Meaning) (n : ℕ) (xs : List (Entry Meaning)) → map (λ (e : Entry Meaning). e.event) xs ≡ take n (setup_events main units) → length xs ≤ n
front_few main units n xs e = omega (arith, length-map xs (λ (e : Entry Meaning). e.event), ap length e, taken_few n (setup_events main units))

whole_set : (main : NameId) (units : List Meaning) (xs : List (Entry Meaning)) → IsSetUp main units xs → AllByRecursion IsSetting xs
whole_set main units xs s = each_mapped (λ v. is_setting v ≡ true) (λ (e : Entry Meaning). e.event) xs (subst (AllByRecursion (λ v. is_setting v ≡ true)) (sym s.events) (events_set main units))

each_entries : (P : Entry Meaning → Type 0) (cs : List (ℕ × Entry Meaning)) → AllByRecursion (λ (c : ℕ × Entry Meaning). P c.1) cs → AllByRecursion P (entries cs)
each_entries P [] a = tt
each_entries P (c ∷ cs) a = (a.0, each_entries P cs a.1)

module _ (jmax : ℕ) (main entry : NameId) (units : List Meaning) (h : List (Entry Meaning)) (end : Linked) (run : IsRun jmax 0 main entry units h end) where
  pub one_seat : All (λ (e : Entry Meaning). e.seat.0 ≡ 1) run.later
  one_seat = All-weaker (λ (e : Entry Meaning). (0 < e.seat.0) × (e.seat.0 ≤ 1 + 0)) (λ (e : Entry Meaning). e.seat.0 ≡ 1) (λ e p. omega (arith, p.0, p.1)) run.later run.later_seats

  pub client_is : client_calls h ≡ numbered_calls 1 (1 + length run.setup) run.later
  client_is = ap (numbered_calls 1 1) run.parts ∙ calls_past 1 1 run.setup run.later run.setup_seat (omega arith)

  pub later_is : entries (client_calls h) ≡ run.later
  later_is = ap entries client_is ∙ numbered_all (1 + length run.setup) run.later one_seat

  calls_later : AllByRecursion NumberedCall (client_calls h) → AllByRecursion IsCall run.later
  calls_later a = subst (AllByRecursion IsCall) later_is (each_entries IsCall (client_calls h) a)

  set_up_parts : IsSetUp main units run.setup → AllByRecursion NumberedCall (client_calls h) → Parts units main run.setup run.later
  set_up_parts s calls = record { set = whole_set main units run.setup s; short = omega (arith, setup_length main units run.setup s); whole = inr s; calls = calls_later calls }

  unfinished : AllByRecursion IsSetting run.setup → length run.setup ≤ 2 + length units → run.later ≡ [] → Parts units main run.setup run.later
  unfinished set short none = record { set = set; short = short; whole = inl none; calls = subst (AllByRecursion IsCall) (sym none) tt }

  refused_parts : (k : ℕ) → IsRefusedAt main units k run.setup → run.later ≡ [] → Parts units main run.setup run.later
  refused_parts k r none = unfinished
      (subst (AllByRecursion IsSetting) (sym r.are) (each_joined IsSetting r.before (r.last ∷ []) (front_set main units (2 + k) r.before r.first.events) (ap is_setting r.event_is, tt)))
      (omega (arith, ap length r.are, length-append r.before (r.last ∷ []), front_few main units (2 + k) r.before r.first.events, element_below units k r.unit r.there)) none

  ended_parts : (last : Linked) → Ended jmax main entry units h run.setup run.later last → Parts units main run.setup run.later
  ended_parts last (Ended.InDefinition k refused none) = refused_parts k refused none
  ended_parts last (Ended.InSetUp n st first is few none cause) = unfinished (front_set main units n run.setup first.events) (omega (arith, is, few)) none
  ended_parts last (Ended.InLookup st s stopped cause) = let b = cut_client h entry (client_calls h) stopped in
      set_up_parts s (each_front NumberedCall (client_calls h) b.rest (looks_cost h (lookup_of entry) (client_calls h ++ b.rest) b.would).calls)
  ended_parts last (Ended.NotThere before n c s calls looks is) = set_up_parts s (subst (AllByRecursion NumberedCall) (sym calls) (looks_cost h (lookup_of entry) (before ++ (n, c) ∷ []) looks).calls)
  ended_parts last (Ended.NotReady before n c at i s calls looks is) = set_up_parts s (subst (AllByRecursion NumberedCall) (sym calls) (looks_cost h (lookup_of entry) (before ++ (n, c) ∷ []) looks).calls)
  ended_parts last (Ended.IsReady before m n at address c copy i ranges s calls looks is image memory) = set_up_parts s (subst (AllByRecursion NumberedCall) (sym calls)
      (each_joined NumberedCall (before ++ (m, c) ∷ []) ((n, copy) ∷ []) (looks_cost h (lookup_of entry) (before ++ (m, c) ∷ []) looks).calls (ap is_call image, tt)))

  pub parts : Parts units main run.setup run.later
  parts = ended_parts end run.ended

  legal_parts : IsLegal jmax (run.setup ++ run.later)
  legal_parts = subst (IsLegal jmax) run.parts run.legal

  unoffered : AllByRecursion IsUnoffered run.later
  unoffered = by_whole parts.whole
    where
      by_whole : (run.later ≡ []) ⊎ IsSetUp main units run.setup → AllByRecursion IsUnoffered run.later
      by_whole (inl none) = subst (AllByRecursion IsUnoffered) (sym none) tt
      by_whole (inr s) = never_offered jmax run.setup (state run.setup) run.later (legal_rest jmax [] empty run.setup run.later legal_parts) parts.calls
          (set_up_ready jmax main units run.setup ((prefixes_legal jmax run.setup run.later).0 legal_parts) s).generators

  harmless : AllByRecursion IsHarmless h
  harmless = subst (AllByRecursion IsHarmless) (sym run.parts) (each_joined IsHarmless run.setup run.later
      (each_weaker IsSetting IsHarmless (λ e. set_harmless e.event) run.setup parts.set) (each_weaker IsCall IsHarmless (λ e. call_harmless e.event) run.later parts.calls))

  -- A run that wasn't stopped

  module _ (went : is_whole end ≡ true) where
    calls_uncut : AllByRecursion IsUncut run.later
    calls_uncut = subst (AllByRecursion IsUncut) later_is (each_entries IsUncut (client_calls h) (recursion_from_All (λ (c : ℕ × Entry Meaning). is_cut c.1.event ≡ false) (client_calls h) (run.uncut went)))

    all_uncut : AllByRecursion IsUncut h
    all_uncut = subst (AllByRecursion IsUncut) (sym run.parts) (each_joined IsUncut run.setup run.later (each_weaker IsSetting IsUncut (λ e. set_uncut e.event) run.setup parts.set) calls_uncut)

    pub is_spared : IsSpared h
    is_spared n e u t v = both_ways (is_cut e.event) (each_at IsUncut h n e all_uncut t) (ap is_cut v)

    pub edges_are_told : EdgesAreTold h
    edges_are_told n k t e u bound below there_t there takes is v r = absurd (both_ways (is_cut e.event) (each_at IsUncut h k e all_uncut there) (ap is_cut v))

  -- Where an entry stands

  pub data Stand (n : ℕ) (e : Entry Meaning) : Type 0 where
    First : IsSetting e → e.seat.0 ≡ 0 → n < 2 + length units → Stand n e
    Then : IsUnoffered e → e.seat.0 ≡ 1 → 2 + length units ≤ n → Stand n e

  not_there : {P : Type 0} (k : ℕ) (e : Entry Meaning) → slice_get run.later k ≡ Some e → run.later ≡ [] → P
  not_there k e t none = absurd (omega (arith, element_below run.later k e t, ap length none))

  pub stand : (n : ℕ) (e : Entry Meaning) → slice_get h n ≡ Some e → Stand n e
  stand n e t = split (appended_cases run.setup run.later n e (subst (λ l. slice_get l n ≡ Some e) run.parts t))
    where
      behind : (k : ℕ) → n ≡ length run.setup + k → slice_get run.later k ≡ Some e → (run.later ≡ []) ⊎ IsSetUp main units run.setup → Stand n e
      behind k is l (inl none) = not_there k e l none
      behind k is l (inr s) = Then (each_at IsUnoffered run.later k e unoffered l) (each_at (λ (f : Entry Meaning). f.seat.0 ≡ 1) run.later k e (recursion_from_All (λ (f : Entry Meaning). f.seat.0 ≡ 1) run.later one_seat) l) (omega (arith, is, setup_length main units run.setup s))

      split : (slice_get run.setup n ≡ Some e) ⊎ ((k : ℕ) × (n ≡ length run.setup + k) × (slice_get run.later k ≡ Some e)) → Stand n e
      split (inl f) = First (each_at IsSetting run.setup n e parts.set f) (each_at (λ (x : Entry Meaning). x.seat.0 ≡ 0) run.setup n e (recursion_from_All (λ (x : Entry Meaning). x.seat.0 ≡ 0) run.setup run.setup_seat) f) (omega (arith, element_below run.setup n e f, parts.short))
      split (inr p) = behind p.0 p.1 p.2 parts.whole

  stand_seat : (past : List (Entry Meaning)) (e : Entry Meaning) → Stand (length past) e → e.seat.0 ≡ turn (2 + length units) past
  stand_seat past e (First set s b) = s ∙ sym (turn_first (2 + length units) past b)
  stand_seat past e (Then un s b) = s ∙ sym (turn_then (2 + length units) past b)

  link_unoffered : (n : ℕ) (e : Entry Meaning) (u : UnitId) (g : GenId) → Stand n e → e.event ≡ event.Link u → e.reply ≡ reply.Offer g → ⊥
  link_unoffered n e u g (First set s b) is o = both_ways false refl (sym (ap is_setting is) ∙ set)
  link_unoffered n e u g (Then un s b) is o = both_ways (is_offer e.reply) (subst (λ v. Unoffered v e.reply) is un) (ap is_offer o)

  ask_unoffered : (n : ℕ) (e : Entry Meaning) (l : Lookup) (g : GenId) → Stand n e → e.event ≡ lookup_event l → e.reply ≡ reply.Offer g → ⊥
  ask_unoffered n e l g (First set s b) is o = both_ways false refl (sym (ap is_setting is) ∙ set)
  ask_unoffered n e l g (Then un s b) is o = both_ways (is_offer e.reply) (subst (λ v. Unoffered v e.reply) is un) (ap is_offer o)

  taker_seat : (n k : ℕ) (t e : Entry Meaning) → Stand n t → Stand k e → n < k → t.event ≡ event.Take → t.seat.0 ≡ e.seat.0
  taker_seat n k t e (First set s b) at below takes = not_setting t set takes
  taker_seat n k t e (Then un s b) (First set s' b') below takes = absurd (omega (arith, b, b', below))
  taker_seat n k t e (Then un s b) (Then un' s' b') below takes = s ∙ sym s'

  pub right : IsSpared h → EdgesAreTold h → (past : List (Entry Meaning)) (e : Entry Meaning) (rest : List (Entry Meaning)) → h ≡ past ++ e ∷ rest → Right jmax (turn (2 + length units)) past e
  right spared told past e rest is = record {
    seat = seated;
    answers = subst (λ s. Answers jmax past (state past) s e.event e.reply) seated one.answers;
    one_more = one;
    roomy = subst (λ s. is_full jmax (state past) s e.event ≡ false) seated (places_at jmax empty past e rest (subst (HasPlacesFrom jmax empty) is run.places));
    lowest = λ u shape base other v r free. run.lowest (length past) base other e u shape there v r (subst (λ l. IsFree (state l).units shape other) (sym front) free);
    spare = λ u v. spared (length past) e u there v;
    told = tells;
    alive = alive;
    link_unoffered = λ u g. link_unoffered (length past) e u g at;
    ask_unoffered = λ l g. ask_unoffered (length past) e l g at;
  }
    where
      one : OneMore jmax past e
      one = legal_at jmax past e rest (subst (IsLegal jmax) is run.legal)

      there : slice_get h (length past) ≡ Some e
      there = ap (λ l. slice_get l (length past)) is ∙ element_in past e rest

      front : take (length past) h ≡ past
      front = ap (take (length past)) is ∙ taken_front past (e ∷ rest)

      at : Stand (length past) e
      at = stand (length past) e there

      seated : e.seat.0 ≡ turn (2 + length units) past
      seated = stand_seat past e at

      alive : Alive (state past).units
      alive = alive_along empty past (each_front IsHarmless past (e ∷ rest) (subst (AllByRecursion IsHarmless) is harmless)) (λ u x f. absurd (cc))

      -- the fail was done, since the seat holds the unit
      failed : (u : UnitId) (s : ℕ) → s ≡ e.seat.0 → IsHeldBy s (state past).units u.0 → e.event ≡ event.Fail u why.Full → e.reply ≡ reply.Failed
      failed u s same held v = call_cases (state past) e.seat.0 u (λ x. true) (λ x. HasCause jmax past (state past) u.0 x why.Full × (e.reply ≡ reply.Failed)) e.reply (subst (λ w. Answers jmax past (state past) e.seat.0 w e.reply) v one.answers)
          (λ x t gone r. absurd (both_ways (is_defunct x.phase) (alive u.0 x t) gone))
          (λ r wrong. absurd (held_not_wrong e.seat.0 held.unit (held.holds ∙ ap Some same) (wrong held.unit held.there).1))
          (λ x t d s' f p. p.1)

      tells : (before more : List (Entry Meaning)) (t : Entry Meaning) (u : UnitId) (bound : Bindings) → past ≡ before ++ t ∷ more → t.event ≡ event.Take → t.reply ≡ reply.Finish u (Bound bound) → IsHeldBy t.seat.0 (state past).units u.0 → e.event ≡ event.Fail u why.Full →
          refusal_of (state (before ++ t ∷ [])) u ≡ None
      tells before more t u bound split takes r held v =
          let whole : h ≡ before ++ t ∷ (more ++ e ∷ rest) = is ∙ (ap (λ l. l ++ e ∷ rest) split ∙ append_assoc before (t ∷ more) (e ∷ rest)) in
          let there_t : slice_get h (length before) ≡ Some t = ap (λ l. slice_get l (length before)) whole ∙ element_in before t (more ++ e ∷ rest) in
          let below : length before < length past = omega (arith, ap length split, length-append before (t ∷ more)) in
          let same = taker_seat (length before) (length past) t e (stand (length before) t there_t) at below takes in
          subst (λ l. refusal_of (state l) u ≡ None) (ap (take (length before + 1)) whole ∙ taken_one_more before t (more ++ e ∷ rest) (length before + 1) refl)
          (told (length before) (length past) t e u bound below there_t there takes r v (failed u t.seat.0 same held v))

  pub goes : IsSpared h → EdgesAreTold h → (m : ℕ) (past es rest : List (Entry Meaning)) → h ≡ past ++ es → m ≤ length es → Goes jmax (turn (2 + length units)) m past (es ++ rest)
  goes spared told zero past es rest is b = tt
  goes spared told (suc m) past [] rest is b = absurd (omega (arith, b))
  goes spared told (suc m) past (e ∷ es) rest is b = (right spared told past e es is, goes spared told m (past ++ e ∷ []) es rest (is ∙ sym (append_assoc past (e ∷ []) es)) (omega (arith, b)))
