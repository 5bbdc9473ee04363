-- The calls of a run change no name, and use no generator, since none is offered.
use Rattle.std.proofs.Common.{◌≡◌, ℕ, zero, suc, ◌+◌, ◌<◌, true, false, List, [], ◌∷◌, ◌++◌, length, take, inl, inr, refl, sym, ap, subst, arith, append_assoc, Option, Some, None}
use Rattle.std.specs.List.{All, AllByRecursion}
use Rattle.std.specs.Prelude.{ℤ}
use Rattle.std.proofs.lemmas.Bool.{both_ways}
use Rattle.std.proofs.lemmas.List.{map-append}
use Rattle.std.proofs.lemmas.List.Elements.{All-from_recursion}
use Rattle.orc_ids.specs.declared.ids.GenId.{GenId}
use Rattle.orc_ids.specs.declared.ids.NameId.{NameId}
use Rattle.orc_ids.specs.declared.ids.QueryId.{QueryId}
use Rattle.orc_ids.specs.declared.ids.UnitId.{UnitId}
use Rattle.orc_ids.specs.declared.place.Place.{Place}
use Rattle.session_model.specs.Calls.{AfterBound, AfterEmit, AfterPlace, AfterResolve, AfterStart, AfterTake, Emits, EndsAsk, EndsFinish, EndsLink, IsCut, IsFail, IsJob, Links, Lookup, Looks, Places, Resolves, Works, is_emit, is_place, numbered_calls, refusal_of, unit_test}
use Rattle.session_model.specs.Calls.{Cut, Ends, Again as AgainLink}
use Rattle.session_model.specs.History.{IsLegal}
use Rattle.session_model.specs.Meaning.{Meaning}
use Rattle.session_model.specs.Plain.{Plain, empty, is_alias}
use Rattle.session_model.specs.State.{state}
use Rattle.session_model.specs.declared.entry.Entry.{Entry}
use Rattle.session_model.specs.declared.entry.Event.{Event}
use Rattle.session_model.specs.declared.entry.Event.TheVariants as event
use Rattle.session_model.specs.declared.entry.Finishing.TheVariants as finishing
use Rattle.session_model.specs.declared.entry.Reply.{Reply}
use Rattle.session_model.specs.declared.entry.Reply.TheVariants as reply
use Rattle.session_model.specs.declared.entry.Why.{Why}
use Rattle.session_model.specs.declared.entry.Why.TheVariants as why
use Rattle.session_laws.proofs.Declared.{legal_rest}
use Rattle.session_laws.specs.Entries.{entries}
use Rattle.memory_laws.specs.Objects.{keeps_names}
use Rattle.run_laws.specs.Runs.{AreJobs, IsRunBy, NoJob, OneMore as AnotherJob, lookup_of}
use Rattle.run_laws.proofs.Calm.{IsCall, IsUnoffered, Unoffered, is_call, is_offer, never_offered}
use Rattle.run_laws.proofs.Costs.{NumberedCall, each_back, each_front, each_joined, either_way, from_entries, jobs_cost, looks_cost, to_entries}
use Rattle.run_laws.proofs.Ends.{calls_later, set_up_of}
use Rattle.run_laws.proofs.Sums.{each_call, each_entry}

abbrev pub Keeps : Entry Meaning → Type 0
Keeps e = keeps_names e.event ≡ true

-- where none of these was offered a generator, they change no name
abbrev Quiet : List (Entry Meaning) → Type 0
Quiet es = AllByRecursion IsUnoffered es → AllByRecursion Keeps es

quiet_none : (es : List (Entry Meaning)) → es ≡ [] → Quiet es
quiet_none es e = subst Quiet (sym e) (λ un. tt)

quiet_cons : (e : Entry Meaning) (es : List (Entry Meaning)) → Keeps e → Quiet es → Quiet (e ∷ es)
quiet_cons e es keeps quiet = λ un. (keeps, quiet un.1)

quiet_joined : (es fs : List (Entry Meaning)) → Quiet es → Quiet fs → Quiet (es ++ fs)
quiet_joined es fs p q = λ un. each_joined Keeps es fs (p (each_front IsUnoffered es fs un)) (q (each_back IsUnoffered es fs un))

-- an offer is none
offered_not : {P : Type 0} (e : Entry Meaning) (ev : Event Meaning) (g : GenId) → (Unoffered ev e.reply → is_offer e.reply ≡ false) → e.event ≡ ev → e.reply ≡ reply.Offer g → IsUnoffered e → P
offered_not e ev g means is o un = absurd (both_ways (is_offer e.reply) (means (subst (λ v. Unoffered v e.reply) is un)) (ap is_offer o))

-- The parts of a job

fail_quiet : (u : UnitId) (cause : Why) (es : List (Entry Meaning)) → IsFail u cause es → Quiet es
fail_quiet u cause [] f = absurd f
fail_quiet u cause (e ∷ []) f = λ un. (ap keeps_names f, tt)
fail_quiet u cause (e ∷ d ∷ es) f = absurd f

cut_quiet : (u : UnitId) (es : List (Entry Meaning)) → IsCut u es → Quiet es
cut_quiet u es (inl f) = fail_quiet u why.NoMemory es f
cut_quiet u es (inr f) = fail_quiet u why.Full es f

ends_link_quiet : (u : UnitId) (r : Reply) (es : List (Entry Meaning)) → EndsLink u r es → Quiet es
ends_link_quiet u (reply.Done q) es f = quiet_none es f
ends_link_quiet u (reply.Pending q) es f = quiet_none es f
ends_link_quiet u (reply.Defunct v) es f = quiet_none es f
ends_link_quiet u (reply.Missing name) es f = fail_quiet u (why.Missing name) es f
ends_link_quiet u (reply.InError i) es f = fail_quiet u (why.InError i) es f
ends_link_quiet u (reply.AliasCycle i) es f = fail_quiet u (why.AliasCycle i) es f
ends_link_quiet u (reply.Offer g) es f = cut_quiet u es f
ends_link_quiet u _ es f = absurd f

links_quiet : (u : UnitId) (es : List (Entry Meaning)) → Links u es → Quiet es
links_quiet u es (Cut ds c) = cut_quiet u es c
links_quiet u es (Ends e ds is ends) = quiet_cons e ds (ap keeps_names is) (ends_link_quiet u e.reply ds ends)
links_quiet u es (AgainLink e f g ds is o uses links) = λ un. offered_not e (event.Link u) g (λ a. a) is o un.0

after_resolve_quiet : (Next : List (Entry Meaning) → Type 0) → ((es : List (Entry Meaning)) → Next es → Quiet es) → (r : Reply) (es : List (Entry Meaning)) → AfterResolve Next r es → Quiet es
after_resolve_quiet Next next reply.Resolved es f = next es f
after_resolve_quiet Next next (reply.Defunct v) es f = quiet_none es f
after_resolve_quiet Next next _ es f = absurd f

resolves_quiet : (Next : List (Entry Meaning) → Type 0) → ((es : List (Entry Meaning)) → Next es → Quiet es) → (u : UnitId) (es : List (Entry Meaning)) → Resolves Next u es → Quiet es
resolves_quiet Next next u [] f = absurd f
resolves_quiet Next next u (e ∷ es) (inl c) = cut_quiet u (e ∷ es) c
resolves_quiet Next next u (e ∷ es) (inr p) = quiet_cons e es (ap keeps_names p.0) (after_resolve_quiet Next next e.reply es p.1)

resolve_links_quiet : (u : UnitId) (es : List (Entry Meaning)) → Resolves (Links u) u es → Quiet es
resolve_links_quiet u es f = resolves_quiet (Links u) (links_quiet u) u es f

after_place_quiet : (u : UnitId) (r : Reply) (es : List (Entry Meaning)) → AfterPlace u r es → Quiet es
after_place_quiet u (reply.Placed base) es f = resolve_links_quiet u es f
after_place_quiet u (reply.NoRoom need) es f = fail_quiet u (why.NoRoom need) es f
after_place_quiet u (reply.Defunct v) es f = quiet_none es f
after_place_quiet u _ es f = absurd f

place_keeps : (u : UnitId) (e : Event Meaning) → is_place u e ≡ true → keeps_names e ≡ true
place_keeps u (event.Place v shape) f = refl
place_keeps u _ f = absurd (both_ways false refl f)

emit_keeps : (u : UnitId) (e : Event Meaning) → is_emit u e ≡ true → keeps_names e ≡ true
emit_keeps u (event.Emit v groups) f = refl
emit_keeps u _ f = absurd (both_ways false refl f)

places_quiet : (u : UnitId) (es : List (Entry Meaning)) → Places u es → Quiet es
places_quiet u [] f = absurd f
places_quiet u (e ∷ es) (inl c) = cut_quiet u (e ∷ es) c
places_quiet u (e ∷ es) (inr p) = quiet_cons e es (place_keeps u e.event p.0) (after_place_quiet u e.reply es p.1)

after_emit_quiet : (u : UnitId) (r : Reply) (es : List (Entry Meaning)) → AfterEmit u r es → Quiet es
after_emit_quiet u reply.Emitted es f = quiet_none es f
after_emit_quiet u (reply.BadDep i) es f = fail_quiet u (why.BadDep i) es f
after_emit_quiet u (reply.Defunct v) es f = quiet_none es f
after_emit_quiet u _ es f = absurd f

ends_finish_quiet : (u : UnitId) (refusal : Option (Place × ℕ × ℤ)) (es : List (Entry Meaning)) → EndsFinish u refusal es → Quiet es
ends_finish_quiet u (Some (place, kind, v)) es f = fail_quiet u (why.Refused place kind v) es f
ends_finish_quiet u None [] f = absurd f
ends_finish_quiet u None (e ∷ es) p = quiet_cons e es (emit_keeps u e.event p.0) (after_emit_quiet u e.reply es p.1)

emits_quiet : (u : UnitId) (refusal : Option (Place × ℕ × ℤ)) (es : List (Entry Meaning)) → Emits u refusal es → Quiet es
emits_quiet u refusal es (inl c) = cut_quiet u es c
emits_quiet u refusal es (inr f) = ends_finish_quiet u refusal es f

after_start_quiet : (m : Plain) (u : UnitId) (es : List (Entry Meaning)) → AfterStart m u es → Quiet es
after_start_quiet m u es f = either_way (unit_test is_alias m u) (Links u es) _
    (links_quiet u es)
    (either_way _ (Places u es) (Resolves (Links u) u es) (places_quiet u es) (resolve_links_quiet u es)) f

after_bound_quiet : (m : Plain) (u : UnitId) (es : List (Entry Meaning)) → AfterBound m u es → Quiet es
after_bound_quiet m u es f = either_way (unit_test is_alias m u) (Resolves (Emits u (refusal_of m u)) u es) (Emits u (refusal_of m u) es)
    (resolves_quiet (Emits u (refusal_of m u)) (emits_quiet u (refusal_of m u)) u es)
    (emits_quiet u (refusal_of m u) es) f

after_take_quiet : (m : Plain) (r : Reply) (es : List (Entry Meaning)) → AfterTake m r es → Quiet es
after_take_quiet m (reply.Start u) es f = after_start_quiet m u es f
after_take_quiet m (reply.Finish u (finishing.Bound matches)) es f = after_bound_quiet m u es f
after_take_quiet m (reply.Finish u (finishing.Lost i)) es f = fail_quiet u (why.InError i) es f
after_take_quiet m _ es f = absurd f

-- Calls with their numbers

abbrev QuietCalls : List (ℕ × Entry Meaning) → Type 0
QuietCalls cs = Quiet (entries cs)

calls_joined : (cs ds : List (ℕ × Entry Meaning)) → QuietCalls cs → QuietCalls ds → QuietCalls (cs ++ ds)
calls_joined cs ds p q = subst Quiet (sym (map-append (λ (c : ℕ × Entry Meaning). c.1) cs ds)) (quiet_joined (entries cs) (entries ds) p q)

job_quiet : (h : List (Entry Meaning)) (cs : List (ℕ × Entry Meaning)) → IsJob h cs → QuietCalls cs
job_quiet h [] job = absurd job
job_quiet h (c ∷ cs) job = quiet_cons c.1 (entries cs) (ap keeps_names job.0) (after_take_quiet (state (take c.0 h)) c.1.reply (entries cs) job.1)

jobs_quiet : (h : List (Entry Meaning)) (cs : List (ℕ × Entry Meaning)) → AreJobs h cs → QuietCalls cs
jobs_quiet h cs NoJob = quiet_none [] refl
jobs_quiet h cs (AnotherJob before job jobs is) = calls_joined before job (jobs_quiet h before jobs) (job_quiet h job is)

works_quiet : (h : List (Entry Meaning)) (q : QueryId) (n : ℕ) (cs : List (ℕ × Entry Meaning)) → Works h q n cs → QuietCalls cs
works_quiet h q n cs (Works.Collects k m e is got) = quiet_cons e [] (ap keeps_names is) (quiet_none [] refl)
works_quiet h q n cs (Works.Job k m query last before rest there unmet job works) = subst QuietCalls (append_assoc before (last ∷ []) rest)
    (calls_joined (before ++ last ∷ []) rest (job_quiet h (before ++ last ∷ []) job) (works_quiet h q last.0 rest works))

ends_ask_quiet : (h : List (Entry Meaning)) (n : ℕ) (r : Reply) (cs : List (ℕ × Entry Meaning)) → EndsAsk h n r cs → QuietCalls cs
ends_ask_quiet h n (reply.Done q) cs w = works_quiet h q n cs w
ends_ask_quiet h n (reply.Pending q) cs w = works_quiet h q n cs w
ends_ask_quiet h n (reply.InError i) cs e = quiet_none (entries cs) (ap entries e)
ends_ask_quiet h n (reply.Missing name) cs e = quiet_none (entries cs) (ap entries e)
ends_ask_quiet h n (reply.NoDylib d) cs e = quiet_none (entries cs) (ap entries e)
ends_ask_quiet h n _ cs e = absurd e

looks_quiet : (h : List (Entry Meaning)) (l : Lookup) (cs : List (ℕ × Entry Meaning)) → Looks h l cs → QuietCalls cs
looks_quiet h l cs (Looks.Asks n e ds is ends) = quiet_cons e (entries ds) (ap keeps_names is) (ends_ask_quiet h n e.reply ds ends)
looks_quiet h l cs (Looks.Again n m e f g ds is o uses looks) = λ un. offered_not e (event.Ask l.order l.wanted l.level l.note) g (λ a. a) is o un.0

-- The calls of a run whose client looked the entry up and copied the memory

module _ (jmax : ℕ) (main entry : NameId) (units : List Meaning) (h setup later : List (Entry Meaning)) (run : IsRunBy jmax main units h setup later) (looked : List (ℕ × Entry Meaning)) (copy : ℕ × Entry Meaning)
    (calls : numbered_calls 1 1 h ≡ looked ++ copy ∷ []) (looks : Looks h (lookup_of entry) looked) (copies : copy.1.event ≡ event.Image) where
  client_calls : AllByRecursion NumberedCall (numbered_calls 1 1 h)
  client_calls = subst (AllByRecursion NumberedCall) (sym calls) (each_joined NumberedCall looked (copy ∷ []) (looks_cost h (lookup_of entry) looked looks).calls (ap is_call copies, tt))

  calls_of_seat : (s : ℕ) → 0 < s → AllByRecursion NumberedCall (numbered_calls s 1 h)
  calls_of_seat zero b = absurd (omega (arith, b))
  calls_of_seat (suc zero) b = client_calls
  calls_of_seat (suc (suc s)) b = (jobs_cost h (numbered_calls (suc (suc s)) 1 h) (run.workers_do (suc (suc s)) (omega arith))).calls

  all_calls : AllByRecursion IsCall later
  all_calls = each_entry IsCall (1 + length setup) later run.later_seats (λ s b. subst (AllByRecursion NumberedCall) (calls_later jmax main units h setup later run s b) (calls_of_seat s b))

  unoffered : AllByRecursion IsUnoffered later
  unoffered = never_offered jmax setup (state setup) later (legal_rest jmax [] empty setup later (subst (IsLegal jmax) run.parts run.legal)) all_calls (set_up_of jmax main units h setup later run).generators

  quiet_client : QuietCalls (numbered_calls 1 1 h)
  quiet_client = subst QuietCalls (sym calls) (calls_joined looked (copy ∷ []) (looks_quiet h (lookup_of entry) looked looks) (quiet_cons copy.1 [] (ap keeps_names copies) (quiet_none [] refl)))

  quiet_seat : (s : ℕ) → 0 < s → QuietCalls (numbered_calls s 1 h)
  quiet_seat zero b = absurd (omega (arith, b))
  quiet_seat (suc zero) b = quiet_client
  quiet_seat (suc (suc s)) b = jobs_quiet h (numbered_calls (suc (suc s)) 1 h) (run.workers_do (suc (suc s)) (omega arith))

  keeps_seat : (s : ℕ) → 0 < s → AllByRecursion (λ (c : ℕ × Entry Meaning). Keeps c.1) (numbered_calls s (1 + length setup) later)
  keeps_seat s b = from_entries Keeps (numbered_calls s (1 + length setup) later)
      (subst QuietCalls (calls_later jmax main units h setup later run s b) (quiet_seat s b)
      (to_entries IsUnoffered (numbered_calls s (1 + length setup) later) (each_call IsUnoffered s (1 + length setup) later unoffered)))

  -- they change no name
  pub names_are_kept : All Keeps later
  names_are_kept = All-from_recursion Keeps later (each_entry Keeps (1 + length setup) later run.later_seats keeps_seat)
