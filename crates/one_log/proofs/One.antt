-- Without workers, a run has one history.
use Rattle.std.proofs.Common.{◌≡◌, ℕ, zero, suc, ◌+◌, ◌<◌, ◌≤◌, Bool, true, false, MatchBool, List, [], ◌∷◌, ◌++◌, length, map, take, drop, slice_get, ◌⊎◌, inl, inr, refl, sym, ap, ◌∙◌, subst, arith, append_assoc, append-nil, Some, le_refl}
use Rattle.std.proofs.lemmas.Bool.{both_ways, cases_Bool, cases_lt}
use Rattle.std.proofs.lemmas.List.{length-append, map-append, nil_from_length, take-append-drop}
use Rattle.std.proofs.lemmas.List.Elements.{recursion_from_All}
use Rattle.std.proofs.lemmas.Option.{same_Some}
use Rattle.std.specs.List.{AllByRecursion}
use Rattle.orc_ids.specs.declared.ids.NameId.{NameId}
use Rattle.session_model.specs.Calls.{IsStopped, Looks}
use Rattle.session_model.specs.Meaning.{Meaning}
use Rattle.session_model.specs.declared.entry.Entry.{Entry}
use Rattle.session_model.specs.declared.entry.Event.{Event}
use Rattle.session_model.specs.declared.entry.Event.TheVariants as event
use Rattle.session_model.specs.declared.entry.Reply.TheVariants as reply
use Rattle.session_laws.proofs.Declared.{mapped_some}
use Rattle.session_laws.specs.Entries.{entries}
use Rattle.memory_laws.specs.Objects.{first_dylib, first_tracker, is_done, setup_events}
use Rattle.run_laws.specs.Ended.{Ended, IsRefusedAt, IsRun, IsSetUpTo, client_calls, is_whole}
use Rattle.run_laws.specs.Runs.{IsSetUp, has_found, lookup_of}
use Rattle.run_laws.specs.declared.linked.Linked.{Linked}
use Rattle.run_laws.specs.declared.linked.Linked.TheVariants as linked
use Rattle.run_laws.proofs.Cutting.{cut_client}
use Rattle.run_laws.proofs.Seats.{same_head, same_tail}
use Rattle.one_log.specs.Beginnings.{AreOne, EdgesAreTold, EndAlike, IsBeginning, IsSpared, StopsClean}
use Rattle.one_log.specs.HistoryLaws.{OneHistory, WholeRunsAreOne}
use Rattle.one_log.proofs.Ends.{ends_alike}
use Rattle.one_log.proofs.Fronts.{Same, left}
use Rattle.one_log.proofs.Lookups.{Stands, stands_front}
use Rattle.one_log.proofs.Runs.{client_is, edges_are_told, events_count, goes, is_spared, later_is, one_seat, stands_numbered, turn}
use Rattle.one_log.proofs.Sets.{Client, IsCopy, Sets, clients, ends_found, sets}

-- Lists

dropped_at : {X : Type 0} (xs : List X) (n : ℕ) (x : X) → slice_get xs n ≡ Some x → (rest : List X) × (drop n xs ≡ x ∷ rest)
dropped_at [] n x e = absurd (cc)
dropped_at (y ∷ ys) zero x e = (ys, ap (λ z. z ∷ ys) (same_Some y x e))
dropped_at (y ∷ ys) (suc n) x e = dropped_at ys n x e

some_dropped : {X : Type 0} (xs : List X) (n : ℕ) → n < length xs → (x : X) × (rest : List X) × (drop n xs ≡ x ∷ rest)
some_dropped [] n b = absurd (omega (arith, b))
some_dropped (y ∷ ys) zero b = (y, ys, refl)
some_dropped (y ∷ ys) (suc n) b = some_dropped ys n (omega (arith, b))

left_few : {X : Type 0} (m : ℕ) (xs : List X) (n : ℕ) → m ≤ length xs + n → left m xs ≤ n
left_few m [] n b = omega (arith, b)
left_few zero (x ∷ xs) n b = omega arith
left_few (suc m) (x ∷ xs) n b = left_few m xs n (omega (arith, b))

left_none : {X : Type 0} (m : ℕ) (xs : List X) → m ≤ length xs → left m xs ≡ zero
left_none m xs b = omega (arith, left_few m xs 0 (omega (arith, b)))

last_found : (xs : List (Entry Meaning)) (e : Entry Meaning) → ends_found (xs ++ e ∷ []) ≡ has_found e.reply
last_found [] e = refl
last_found (x ∷ []) e = refl
last_found (x ∷ y ∷ ys) e = last_found (y ∷ ys) e

-- A list of which the first m are known

begins_more : {X : Type 0} (x y : X) (h g : List X) → x ≡ y → IsBeginning h g → IsBeginning (x ∷ h) (y ∷ g)
begins_more x y h g is p = (p.0, ap (λ l. y ∷ l) p.1 ∙ ap (λ z. z ∷ h ++ p.0) (sym is))

-- the first list is the shorter one, and all of it is known
begins_with : {X : Type 0} (h g s t : List X) → length h ≤ length g → Same (length h) (h ++ s) (g ++ t) → IsBeginning h g
begins_with [] g s t b e = (g, refl)
begins_with (x ∷ h) [] s t b e = absurd (omega (arith, b))
begins_with (x ∷ h) (y ∷ g) s t b (inl f) = begins_more x y h g (same_head x y (h ++ s) (g ++ t) f) (begins_with h g s t (omega (arith, b)) (inl (same_tail x y (h ++ s) (g ++ t) f)))
begins_with (x ∷ h) (y ∷ g) s t b (inr p) = begins_more x y h g (same_head x y (take (length h) (h ++ s)) (take (length h) (g ++ t)) p.2)
    (begins_with h g s t (omega (arith, b)) (inr (omega (arith, p.0), omega (arith, p.1), same_tail x y (take (length h) (h ++ s)) (take (length h) (g ++ t)) p.2)))

-- and nothing comes behind it
whole_same : {X : Type 0} (h g t : List X) → length h ≤ length g → Same (length h) (h ++ []) (g ++ t) → h ≡ g
whole_same {X} h g t b e = split e (begins_with h g [] t b e)
  where
    split : Same (length h) (h ++ []) (g ++ t) → IsBeginning h g → h ≡ g
    split (inr p) q = absurd (omega (arith, p.0, length-append h []))
    split (inl f) q = sym (q.1 ∙ (ap (λ l. h ++ l) (nil_from_length q.0 none) ∙ append-nil h))
      where
        none : length q.0 ≡ 0
        none = omega (arith, b, ap length f, length-append h [], length-append g t, ap length q.1, length-append h q.0)

-- The whole of which a history is a beginning

setting_along : (P : ℕ → List (Entry Meaning) → List (Entry Meaning) → Type 0) (xs : List (Entry Meaning)) (ws : List (Event Meaning)) (m : ℕ) (past es : List (Entry Meaning)) → AllByRecursion (λ (e : Entry Meaning). is_done e.reply ≡ true) xs →
    Sets P (left m xs) (past ++ xs) ws es → Sets P m past (map (λ (e : Entry Meaning). e.event) xs ++ ws) (xs ++ es)
setting_along P [] ws m past es d s = subst (λ l. Sets P m l ws es) (append-nil past) s
setting_along P (x ∷ xs) ws zero past es d s = tt
setting_along P (x ∷ xs) ws (suc m) past es d s = (
  refl,
  subst (λ b. MatchBool b (Sets P m (past ++ x ∷ []) (map (λ (e : Entry Meaning). e.event) xs ++ ws) (xs ++ es)) (xs ++ es ≡ [])) (sym d.0)
      (setting_along P xs ws m (past ++ x ∷ []) es d.1 (subst (λ l. Sets P (left m xs) l ws es) (sym (append_assoc past (x ∷ []) xs)) s)),
)

set_last : (P : ℕ → List (Entry Meaning) → List (Entry Meaning) → Type 0) (e : Entry Meaning) (ws : List (Event Meaning)) (m : ℕ) (past : List (Entry Meaning)) → is_done e.reply ≡ false → Sets P m past (e.event ∷ ws) (e ∷ [])
set_last P e ws zero past d = tt
set_last P e ws (suc m) past d = let none : List (Entry Meaning) = [] in (refl, subst (λ b. MatchBool b (Sets P m (past ++ e ∷ []) ws none) (none ≡ [])) (sym d) refl)

-- an entry behind the known ones
abbrev beyond : Entry Meaning
beyond = record { seat = record { 0 = 1 }; event = event.Image; reply = reply.Image }

set_beyond : (P : ℕ → List (Entry Meaning) → List (Entry Meaning) → Type 0) (v : Event Meaning) (ws : List (Event Meaning)) (m : ℕ) (past : List (Entry Meaning)) → m ≡ zero → Sets P m past (v ∷ ws) (beyond ∷ [])
set_beyond P v ws m past e = subst (λ k. Sets P k past (v ∷ ws) (beyond ∷ [])) (sym e) tt

-- a copy where the lookup found the entry
abbrev copy_if : Bool → List (Entry Meaning)
copy_if true = beyond ∷ []
copy_if false = []

copied_if : (b : Bool) → MatchBool b (IsCopy (copy_if b)) (copy_if b ≡ [])
copied_if true = refl
copied_if false = refl

module _ (jmax : ℕ) (main entry : NameId) (units : List Meaning) (h : List (Entry Meaning)) (end : Linked) (run : IsRun jmax 0 main entry units h end) where
  -- the history goes on so, as far as m entries; where the run wasn't stopped, it is the whole
  record Process (m : ℕ) (last : Linked) : Type 0 where
    more : List (Entry Meaning)
    does : Sets (Client h entry) m [] (setup_events main units) (h ++ more)
    ends : is_whole last ≡ true → more ≡ []

  stopped_short : {P : Type 0} (last : Linked) → is_whole last ≡ false → is_whole last ≡ true → P
  stopped_short last a b = absurd (both_ways (is_whole last) a b)

  alone : run.later ≡ [] → h ≡ run.setup
  alone none = run.parts ∙ (ap (λ l. run.setup ++ l) none ∙ append-nil run.setup)

  refused : (m k : ℕ) (last : Linked) → IsRefusedAt main units k run.setup → run.later ≡ [] → Process m last
  refused m k last r none = record {
    more = [];
    does = subst (λ l. Sets (Client h entry) m [] (setup_events main units) (l ++ [])) (sym (alone none ∙ r.are))
        (subst (Sets (Client h entry) m [] (setup_events main units)) (sym (append-nil (r.before ++ r.last ∷ [])))
        (subst (λ vs. Sets (Client h entry) m [] vs (r.before ++ r.last ∷ [])) parts
        (setting_along (Client h entry) r.before (r.last.event ∷ at.0) m [] (r.last ∷ []) (recursion_from_All (λ (e : Entry Meaning). is_done e.reply ≡ true) r.before r.first.done) (set_last (Client h entry) r.last at.0 (left m r.before) ([] ++ r.before) r.refused))));
    ends = λ w. refl;
  }
    where
      there : slice_get (setup_events main units) (2 + k) ≡ Some r.last.event
      there = ap (slice_get (setup_events main units)) two ∙ (mapped_some (event.Define first_dylib first_tracker) units k r.unit r.there ∙ ap Some (sym r.event_is))
        where
          two : 2 + k ≡ suc (suc k)
          two = omega arith

      at : (rest : List (Event Meaning)) × (drop (2 + k) (setup_events main units) ≡ r.last.event ∷ rest)
      at = dropped_at (setup_events main units) (2 + k) r.last.event there

      parts : map (λ (e : Entry Meaning). e.event) r.before ++ r.last.event ∷ at.0 ≡ setup_events main units
      parts = ap (λ l. l ++ r.last.event ∷ at.0) r.first.events ∙ (ap (λ l. take (2 + k) (setup_events main units) ++ l) (sym at.1) ∙ take-append-drop (2 + k) (setup_events main units))

  cut_short : (m n : ℕ) (last : Linked) → m ≤ length h → IsSetUpTo main units n run.setup → n < 2 + length units → run.later ≡ [] → is_whole last ≡ false → Process m last
  cut_short m n last b first few none stopped = record {
    more = beyond ∷ [];
    does = subst (λ l. Sets (Client h entry) m [] (setup_events main units) (l ++ beyond ∷ [])) (sym (alone none))
        (subst (λ vs. Sets (Client h entry) m [] vs (run.setup ++ beyond ∷ [])) parts
        (setting_along (Client h entry) run.setup (at.0 ∷ at.1) m [] (beyond ∷ []) (recursion_from_All (λ (e : Entry Meaning). is_done e.reply ≡ true) run.setup first.done)
        (set_beyond (Client h entry) at.0 at.1 (left m run.setup) ([] ++ run.setup) (left_none m run.setup (omega (arith, b, ap length (alone none)))))));
    ends = stopped_short last stopped;
  }
    where
      at : (v : Event Meaning) × (rest : List (Event Meaning)) × (drop n (setup_events main units) ≡ v ∷ rest)
      at = some_dropped (setup_events main units) n (omega (arith, few, events_count main units))

      parts : map (λ (e : Entry Meaning). e.event) run.setup ++ at.0 ∷ at.1 ≡ setup_events main units
      parts = ap (λ l. l ++ at.0 ∷ at.1) first.events ∙ (ap (λ l. take n (setup_events main units) ++ l) (sym at.2) ∙ take-append-drop n (setup_events main units))

  -- behind a whole set-up the client's calls
  with_client : (m : ℕ) (es : List (Entry Meaning)) → IsSetUp main units run.setup → Client h entry (left m run.setup) run.setup es → Sets (Client h entry) m [] (setup_events main units) (run.setup ++ es)
  with_client m es s client = subst (λ vs. Sets (Client h entry) m [] vs (run.setup ++ es)) (append-nil (map (λ (e : Entry Meaning). e.event) run.setup) ∙ s.events)
      (setting_along (Client h entry) run.setup [] m [] es (recursion_from_All (λ (e : Entry Meaning). is_done e.reply ≡ true) run.setup s.done) client)

  behind : (m : ℕ) → m ≤ length h → left m run.setup ≤ length run.later
  behind m b = left_few m run.setup (length run.later) (omega (arith, b, ap length run.parts, length-append run.setup run.later))

  client_stands : (m : ℕ) (rest : List (ℕ × Entry Meaning)) → m ≤ length h → Stands h (left m run.setup) run.setup (client_calls h ++ rest)
  client_stands m rest b = subst (λ cs. Stands h (left m run.setup) run.setup (cs ++ rest)) (sym (client_is jmax main entry units h end run))
      (stands_numbered h (left m run.setup) (1 + length run.setup) run.setup run.later rest (one_seat jmax main entry units h end run) run.parts (omega arith) (behind m b))

  looked : (m : ℕ) (last : Linked) → m ≤ length h → IsSetUp main units run.setup → IsStopped (Looks h (lookup_of entry)) (client_calls h) → is_whole last ≡ false → Process m last
  looked m last b s w stopped = record {
    more = entries w.rest ++ copy_if found;
    does = subst (Sets (Client h entry) m [] (setup_events main units)) parts (with_client m (entries calls ++ copy_if found) s (record {
      calls = calls;
      copied = copy_if found;
      are = refl;
      looks = w.would;
      stands = client_stands m w.rest b;
      copies = copied_if found;
    }));
    ends = stopped_short last stopped;
  }
    where
      calls : List (ℕ × Entry Meaning)
      calls = client_calls h ++ w.rest

      found : Bool
      found = ends_found (entries calls)

      parts : run.setup ++ (entries calls ++ copy_if found) ≡ h ++ (entries w.rest ++ copy_if found)
      parts = ap (λ l. run.setup ++ (l ++ copy_if found)) (map-append (λ (c : ℕ × Entry Meaning). c.1) (client_calls h) w.rest ∙ ap (λ l. l ++ entries w.rest) (later_is jmax main entry units h end run))
          ∙ (ap (λ l. run.setup ++ l) (append_assoc run.later (entries w.rest) (copy_if found)) ∙ (sym (append_assoc run.setup run.later (entries w.rest ++ copy_if found)) ∙ ap (λ l. l ++ (entries w.rest ++ copy_if found)) (sym run.parts)))

  -- a lookup that ended, and a copy or none
  ended_so : (m : ℕ) (last : Linked) → m ≤ length h → IsSetUp main units run.setup → (calls copies : List (ℕ × Entry Meaning)) → client_calls h ≡ calls ++ copies → Looks h (lookup_of entry) calls →
      MatchBool (ends_found (entries calls)) (IsCopy (entries copies)) (entries copies ≡ []) → Process m last
  ended_so m last b s calls copies are looks copied = record {
    more = [];
    does = subst (Sets (Client h entry) m [] (setup_events main units)) (sym run.parts ∙ sym (append-nil h)) (with_client m run.later s (record {
      calls = calls;
      copied = entries copies;
      are = sym (later_is jmax main entry units h end run) ∙ (ap entries are ∙ map-append (λ (c : ℕ × Entry Meaning). c.1) calls copies);
      looks = looks;
      stands = stands_front jmax (turn (2 + length units)) h (left m run.setup) run.setup calls copies (subst (Stands h (left m run.setup) run.setup) (append-nil (client_calls h) ∙ are) (client_stands m [] b));
      copies = copied;
    }));
    ends = λ w. refl;
  }

  found_as : (before : List (ℕ × Entry Meaning)) (n : ℕ) (c : Entry Meaning) (b : Bool) → has_found c.reply ≡ b → ends_found (entries (before ++ (n, c) ∷ [])) ≡ b
  found_as before n c b is = ap ends_found (map-append (λ (d : ℕ × Entry Meaning). d.1) before ((n, c) ∷ [])) ∙ (last_found (entries before) c ∙ is)

  no_copy : (m : ℕ) (last : Linked) → m ≤ length h → IsSetUp main units run.setup → (before : List (ℕ × Entry Meaning)) (n : ℕ) (c : Entry Meaning) → client_calls h ≡ before ++ (n, c) ∷ [] → Looks h (lookup_of entry) (before ++ (n, c) ∷ []) → has_found c.reply ≡ false → Process m last
  no_copy m last b s before n c calls looks none = ended_so m last b s (before ++ (n, c) ∷ []) [] (calls ∙ sym (append-nil (before ++ (n, c) ∷ []))) looks
      (let empty : List (Entry Meaning) = [] in subst (λ f. MatchBool f (IsCopy empty) (empty ≡ [])) (sym (found_as before n c false none)) refl)

  process : (m : ℕ) (last : Linked) → m ≤ length h → Ended jmax main entry units h run.setup run.later last → Process m last
  process m last b (Ended.InDefinition k r none) = refused m k (linked.Refused k) r none
  process m last b (Ended.InSetUp n st first is few none cause) = cut_short m n (linked.Stopped st) b first few none refl
  process m last b (Ended.InLookup st s stopped cause) = looked m (linked.Stopped st) b s (cut_client h entry (client_calls h) stopped) refl
  process m last b (Ended.NotThere before n c s calls looks is) = no_copy m linked.Missing b s before n c calls looks (ap has_found is)
  process m last b (Ended.NotReady before n c at i s calls looks is) = no_copy m (linked.Failed i) b s before n c calls looks (ap has_found is)
  process m last b (Ended.IsReady before k n at address c copy i ranges s calls looks is image memory) = ended_so m (linked.Found address ranges) b s (before ++ (k, c) ∷ []) ((n, copy) ∷ []) calls looks
      (subst (λ f. MatchBool f (copy.event ≡ event.Image) (copy ∷ [] ≡ [])) (sym (found_as before k c true (ap has_found is))) image)

  processed : (m : ℕ) → m ≤ length h → Process m end
  processed m b = process m end b run.ended

-- Two runs

module _ (jmax : ℕ) (main entry : NameId) (units : List Meaning) (h g : List (Entry Meaning)) (h_end g_end : Linked) (h_run : IsRun jmax 0 main entry units h h_end) (g_run : IsRun jmax 0 main entry units g g_end) (h_spared : IsSpared h) (g_spared : IsSpared g) (h_told : EdgesAreTold h) (g_told : EdgesAreTold g) where
  agree : length h ≤ length g → (p : Process jmax main entry units h h_end h_run (length h) h_end) (q : Process jmax main entry units g g_end g_run (length h) g_end) → Same (length h) (h ++ p.more) (g ++ q.more)
  agree b p q = sets jmax (turn (2 + length units)) (Client h entry) (Client g entry) (clients jmax (turn (2 + length units)) h g entry) (setup_events main units) (length h) [] (h ++ p.more) (g ++ q.more)
      (goes jmax main entry units h h_end h_run h_spared h_told (length h) [] h p.more refl (le_refl (length h)))
      (goes jmax main entry units g g_end g_run g_spared g_told (length h) [] g q.more refl b) p.does q.does

  shorter : length h ≤ length g → IsBeginning h g × (is_whole h_end ≡ true → h ≡ g)
  shorter b =
      let p = processed jmax main entry units h h_end h_run (length h) (le_refl (length h)) in
      let q = processed jmax main entry units g g_end g_run (length h) b in
      let same = agree b p q in
      (begins_with h g p.more q.more b same, λ w. whole_same h g q.more b (subst (λ l. Same (length h) (h ++ l) (g ++ q.more)) (p.ends w) same))

itself : {X : Type 0} (h g : List X) → h ≡ g → IsBeginning g h
itself h g e = ([], e ∙ sym (append-nil g))

-- a run that wasn't stopped needs no word
clean : (jmax : ℕ) (main entry : NameId) (units : List Meaning) (h : List (Entry Meaning)) (end : Linked) → IsRun jmax 0 main entry units h end → StopsClean end h → IsSpared h × EdgesAreTold h
clean jmax main entry units h end run stops = by_end (cases_Bool (is_whole end))
  where
    by_end : (is_whole end ≡ true) ⊎ (is_whole end ≡ false) → IsSpared h × EdgesAreTold h
    by_end (inl went) = (is_spared jmax main entry units h end run went, edges_are_told jmax main entry units h end run went)
    by_end (inr stopped) = stops stopped

pub one_history : OneHistory
one_history jmax main entry units h g h_end g_end h_run g_run h_stops g_stops = split (cases_lt (length g) (length h))
  where
    h_clean : IsSpared h × EdgesAreTold h
    h_clean = clean jmax main entry units h h_end h_run h_stops

    g_clean : IsSpared g × EdgesAreTold g
    g_clean = clean jmax main entry units g g_end g_run g_stops

    both : h ≡ g → is_whole h_end ≡ true → is_whole g_end ≡ true → (h ≡ g) × EndAlike h_end g_end
    both e w v = (e, ends_alike jmax main entry units h g h_end g_end h_run g_run e w v)

    split : (length g < length h) ⊎ (length h ≤ length g) → AreOne h g h_end g_end
    split (inl b) =
        let p = shorter jmax main entry units g h g_end h_end g_run h_run g_clean.0 h_clean.0 g_clean.1 h_clean.1 (omega (arith, b)) in
        record { begins = inr p.0; first_whole = λ w. p.0; second_whole = λ w. itself g h (p.1 w); both_whole = λ w v. both (sym (p.1 v)) w v }
    split (inr b) =
        let p = shorter jmax main entry units h g h_end g_end h_run g_run h_clean.0 g_clean.0 h_clean.1 g_clean.1 b in
        record { begins = inl p.0; first_whole = λ w. itself h g (p.1 w); second_whole = λ w. p.0; both_whole = λ w v. both (p.1 w) w v }

pub whole_runs_are_one : WholeRunsAreOne
whole_runs_are_one jmax main entry units h g h_end g_end h_run g_run w v = (one_history jmax main entry units h g h_end g_end h_run g_run
    (λ stopped. absurd (both_ways (is_whole h_end) stopped w)) (λ stopped. absurd (both_ways (is_whole g_end) stopped v))).both_whole w v
