-- The names of a run's history are those of its table.
use Rattle.std.proofs.Common.{◌≡◌, ℕ, zero, suc, ◌+◌, ◌<◌, ◌≤◌, List, [], ◌∷◌, ◌++◌, length, map, take, All, refl, sym, ap, ◌∙◌, subst, arith}
use Rattle.std.specs.Bool.{⊤}
use Rattle.std.specs.List.{AllByRecursion}
use Rattle.std.proofs.lemmas.List.Elements.{All-weaker, recursion_from_All}
use Rattle.orc_ids.specs.declared.ids.NameId.{NameId}
use Rattle.orc_ids.specs.declared.lookup.Wanted.{Wanted}
use Rattle.session_model.specs.Calls.{Looks, numbered_calls}
use Rattle.session_model.specs.Meaning.{Meaning}
use Rattle.session_model.specs.declared.entry.Entry.{Entry}
use Rattle.session_model.specs.declared.entry.Event.TheVariants as event
use Rattle.session_laws.specs.Entries.{entries}
use Rattle.journal_text.specs.Journal.{AreKnown}
use Rattle.journal_text.specs.Parts.{IsGiven}
use Rattle.known_names.specs.Laws.{HasKnownNames}
use Rattle.memory_laws.proofs.ProgramMembers.{one_of_all}
use Rattle.memory_laws.specs.Objects.{first_dylib, first_tracker, setup_events}
use Rattle.run_laws.specs.Ended.{Ended, IsRefusedAt, IsRun, IsSetUpTo, client_calls}
use Rattle.run_laws.specs.Runs.{IsSetUp, lookup_of}
use Rattle.run_laws.specs.declared.linked.Linked.{Linked}
use Rattle.run_laws.proofs.Costs.{each_joined}
use Rattle.run_laws.proofs.Cutting.{cut_client}
use Rattle.run_laws.proofs.Seats.{calls_past}
use Rattle.known_names.specs.Speaking.{Speaks}
use Rattle.known_names.proofs.Seats.{IsNamed, IsNamedEntry, each_taken, of_events, setup_speaks, spoken_known}
use Rattle.known_names.proofs.Speaking.{front, jobs_speak, looks_speak, then_copies}

-- The set-up

defines_named : (names : List (List ℕ)) (units : List Meaning) → AllByRecursion (HasKnownNames names) units → AllByRecursion (IsNamed names) (map (event.Define first_dylib first_tracker) units)
defines_named names [] a = tt
defines_named names (u ∷ us) a = ((a.0, tt), defines_named names us a.1)

setup_named : (names : List (List ℕ)) (main : NameId) (units : List Meaning) → main.0 < length names → AllByRecursion (HasKnownNames names) units → AllByRecursion (IsNamed names) (setup_events main units)
setup_named names main units given known = ((given, given), ((tt, tt), defines_named names units known))

-- The client's lookup

wanted_given : (names : List (List ℕ)) (entry : NameId) → entry.0 < length names → All (λ (w : Wanted). IsGiven names w.name) (lookup_of entry).wanted
wanted_given names entry m zero d lt = m
wanted_given names entry m (suc k) d lt = absurd (omega (arith, lt))

lookup_speaks : (names : List (List ℕ)) (h : List (Entry Meaning)) (entry : NameId) (cs : List (ℕ × Entry Meaning)) → entry.0 < length names → Looks h (lookup_of entry) cs → Speaks names ⊤ (entries cs)
lookup_speaks names h entry cs given looks = looks_speak names h (lookup_of entry) (wanted_given names entry given) ⊤ cs looks

-- what a run says before the client begins, and what the client says
record IsKnownRun (names : List (List ℕ)) (h setup : List (Entry Meaning)) : Type 0 where
  setup_is : AllByRecursion (IsNamedEntry names) setup
  client : Speaks names ⊤ (entries (client_calls h))

module _ (names : List (List ℕ)) (jmax workers : ℕ) (main entry : NameId) (units : List Meaning) (h : List (Entry Meaning)) (end : Linked) (run : IsRun jmax workers main entry units h end) (main_given : main.0 < length names) (entry_given : entry.0 < length names) (known : All (HasKnownNames names) units) where
  events_named : AllByRecursion (IsNamed names) (setup_events main units)
  events_named = setup_named names main units main_given (recursion_from_All (HasKnownNames names) units known)

  -- the calls of a seat after the first are among the later entries
  calls_later : (s : ℕ) → 0 < s → numbered_calls s 1 h ≡ numbered_calls s (1 + length run.setup) run.later
  calls_later s b = ap (numbered_calls s 1) run.parts ∙ calls_past s 1 run.setup run.later run.setup_seat b

  silent : run.later ≡ [] → Speaks names ⊤ (entries (client_calls h))
  silent e = subst (λ l. Speaks names ⊤ (entries l)) (sym (calls_later 1 (omega arith) ∙ ap (numbered_calls 1 (1 + length run.setup)) e)) tt

  by_calls : (cs : List (ℕ × Entry Meaning)) → client_calls h ≡ cs → Speaks names ⊤ (entries cs) → Speaks names ⊤ (entries (client_calls h))
  by_calls cs e s = subst (λ l. Speaks names ⊤ (entries l)) (sym e) s

  up_to : (n : ℕ) (es : List (Entry Meaning)) → IsSetUpTo main units n es → AllByRecursion (IsNamedEntry names) es
  up_to n es s = of_events names es (take n (setup_events main units)) s.events (each_taken (IsNamed names) n (setup_events main units) events_named)

  whole : (es : List (Entry Meaning)) → IsSetUp main units es → AllByRecursion (IsNamedEntry names) es
  whole es s = of_events names es (setup_events main units) s.events events_named

  refused_named : (k : ℕ) (es : List (Entry Meaning)) → IsRefusedAt main units k es → AllByRecursion (IsNamedEntry names) es
  refused_named k es r = subst (AllByRecursion (IsNamedEntry names)) (sym r.are)
      (each_joined (IsNamedEntry names) r.before (r.last ∷ []) (up_to (2 + k) r.before r.first) (subst (IsNamed names) (sym r.event_is) (unit_known, tt), tt))
    where
      unit_known : HasKnownNames names r.unit
      unit_known = one_of_all (HasKnownNames names) units k r.unit known r.there

  known_run : (last : Linked) → Ended jmax main entry units h run.setup run.later last → IsKnownRun names h run.setup
  known_run last (Ended.InDefinition k refused none) = record { setup_is = refused_named k run.setup refused; client = silent none }
  known_run last (Ended.InSetUp n st to at few none cause) = record { setup_is = up_to n run.setup to; client = silent none }
  known_run last (Ended.InLookup st set_up stopped cause) = let b = cut_client h entry (client_calls h) stopped in record {
    setup_is = whole run.setup set_up;
    client = by_calls (client_calls h) refl (front names ⊤ (client_calls h) b.rest (lookup_speaks names h entry (client_calls h ++ b.rest) entry_given b.would));
  }
  known_run last (Ended.NotThere before n c set_up calls looks is) = record {
    setup_is = whole run.setup set_up;
    client = by_calls (before ++ (n, c) ∷ []) calls (lookup_speaks names h entry (before ++ (n, c) ∷ []) entry_given looks);
  }
  known_run last (Ended.NotReady before n c at i set_up calls looks is) = record {
    setup_is = whole run.setup set_up;
    client = by_calls (before ++ (n, c) ∷ []) calls (lookup_speaks names h entry (before ++ (n, c) ∷ []) entry_given looks);
  }
  known_run last (Ended.IsReady before m n at address c copy i ranges set_up calls looks is image memory) = record {
    setup_is = whole run.setup set_up;
    client = by_calls ((before ++ (m, c) ∷ []) ++ (n, copy) ∷ []) calls
        (then_copies names (before ++ (m, c) ∷ []) ((n, copy) ∷ []) (lookup_speaks names h entry (before ++ (m, c) ∷ []) entry_given looks) (image, tt));
  }

  is_known : IsKnownRun names h run.setup
  is_known = known_run end run.ended

  seated : All (λ (e : Entry Meaning). 0 < e.seat.0) run.later
  seated = All-weaker (λ (e : Entry Meaning). (0 < e.seat.0) × (e.seat.0 ≤ 1 + workers)) (λ (e : Entry Meaning). 0 < e.seat.0) (λ e p. p.0) run.later run.later_seats

  seat_speaks : (s : ℕ) → Speaks names ⊤ (entries (numbered_calls s 1 h))
  seat_speaks zero = setup_speaks names h run.setup run.later run.parts is_known.setup_is seated
  seat_speaks (suc zero) = is_known.client
  seat_speaks (suc (suc s)) = jobs_speak names h (numbered_calls (suc (suc s)) 1 h) (run.workers_do (suc (suc s)) (omega arith))

  pub run_is_known : AreKnown names h
  run_is_known = spoken_known names jmax h run.legal seat_speaks
