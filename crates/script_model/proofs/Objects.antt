-- A script that asks for objects alone hands in no other unit.
use Rattle.std.proofs.Common.{◌≡◌, ℕ, zero, suc, ◌+◌, ◌<◌, ◌≤◌, ◌⊎◌, inl, inr, true, false, List, [], ◌∷◌, ◌++◌, length, map, take, slice_get, All, Option, Some, None, refl, sym, ap, subst, ◌∙◌, arith}
use Rattle.std.specs.List.{AllByRecursion}
use Rattle.std.proofs.lemmas.Bool.{both_ways, cases_eq, cases_lt}
use Rattle.std.proofs.lemmas.List.Elements.{All-from_recursion, recursion_from_All}
use Rattle.list_laws.proofs.Each.{all_at, each_taken, each_weaker}
use Rattle.list_laws.proofs.Lists.{some_below}
use Rattle.orc_ids.specs.declared.lookup.Stop.{Stop}
use Rattle.exec_run.specs.declared.ran.RunEnd.{RunEnd}
use Rattle.session_model.specs.Calls.{numbered_calls}
use Rattle.session_model.specs.Meaning.{Meaning}
use Rattle.session_model.specs.declared.entry.Entry.{Entry}
use Rattle.session_model.specs.declared.entry.Event.{Event}
use Rattle.session_model.specs.declared.entry.Event.TheVariants as event
use Rattle.session_model.specs.declared.entry.Reply.{Reply}
use Rattle.session_laws.proofs.Declared.{call_first, call_skipped}
use Rattle.closure_laws.specs.HandedIn.{HandsIn}
use Rattle.session_model.proofs.Stopping.{stopped_begins}
use Rattle.script_model.specs.Given.{Given, address_of}
use Rattle.run_laws.specs.Runs.{AreJobs, IsCopy}
use Rattle.run_laws.proofs.Calm.{is_call}
use Rattle.run_laws.proofs.Costs.{NumberedCall, each_front, each_joined, jobs_cost, looks_cost}
use Rattle.run_laws.proofs.Seats.{calls_past, each_seat}
use Rattle.session_promises.specs.Runs.{IsLinkable}
use Rattle.script_model.specs.Asking.{Line, One, LookUp, Run, PeekAt, Script}
use Rattle.script_model.specs.Lines.{AreLines, AtEnd, CallsOf, CopiesAndRuns, Goes, IsLine, OneCall, Stops, given_by}
use Rattle.script_model.specs.Scripts.{AreCalled, InSetUp, IsScriptRun, Went, Whole}
use Rattle.script_model.specs.declared.line_end.LineEnd.{LineEnd}
use Rattle.script_model.specs.declared.line_end.LineEnd.TheVariants.{Looked, Peeked, Ran, Replied, Unfound}
use Rattle.script_model.specs.Promises.{AsksForObjects, LineHandsIn}

abbrev Hands : Entry Meaning → Type 0
Hands e = HandsIn IsLinkable e.event

abbrev NumberedHands : ℕ × Entry Meaning → Type 0
NumberedHands c = Hands c.1

-- a call of a job or of a lookup hands in nothing
call_hands : (e : Event Meaning) → is_call e ≡ true → HandsIn IsLinkable e
call_hands (event.Define d t u) is = absurd (both_ways false refl is)
call_hands (event.Attach d t u) is = absurd (both_ways false refl is)
call_hands _ is = tt

calls_hand : (cs : List (ℕ × Entry Meaning)) → AllByRecursion NumberedCall cs → AllByRecursion NumberedHands cs
calls_hand cs calls = each_weaker NumberedCall NumberedHands (λ c is. call_hands c.1.event is) cs calls

copy_hands : (cs : List (ℕ × Entry Meaning)) → IsCopy cs → AllByRecursion NumberedHands cs
copy_hands [] p = absurd p
copy_hands (c ∷ []) p = (call_hands c.1.event (ap is_call p), tt)
copy_hands (c ∷ d ∷ cs) p = absurd p

one_hands : (e : Event Meaning) (r : Reply) (cs : List (ℕ × Entry Meaning)) → HandsIn IsLinkable e → OneCall e r cs → AllByRecursion NumberedHands cs
one_hands e r cs hands (n, c, are, is, answered) = subst (AllByRecursion NumberedHands) (sym are) (subst (HandsIn IsLinkable) (sym is) hands, tt)

run_hands : (h : List (Entry Meaning)) (address : Option ℕ) (fuel : ℕ) (args : List ℕ) (end : RunEnd) (output : List ℕ) (cs : List (ℕ × Entry Meaning)) → CopiesAndRuns h address fuel args end output cs → AllByRecursion NumberedHands cs
run_hands h (Some a) fuel args end output [] p = absurd p
run_hands h (Some a) fuel args end output (c ∷ []) p = (call_hands c.1.event (ap is_call p.0), tt)
run_hands h (Some a) fuel args end output (c ∷ d ∷ cs) p = absurd p
run_hands h None fuel args end output cs p = absurd p

-- The calls of a line

begun_hands : (h : List (Entry Meaning)) (given : Given) (line : Line) (cs : List (ℕ × Entry Meaning)) → LineHandsIn line → CallsOf h given line cs → AllByRecursion NumberedHands cs
begun_hands h given (One e) cs hands (r, one) = one_hands e r cs hands one
begun_hands h given (LookUp l) cs hands looks = calls_hand cs (looks_cost h l cs looks).calls
begun_hands h given (Run name fuel args) cs hands (address, there, copy) = copy_hands cs copy
begun_hands h given (PeekAt name) cs hands none = absurd none

line_hands : (h : List (Entry Meaning)) (given : Given) (line : Line) (end : LineEnd) (cs : List (ℕ × Entry Meaning)) → LineHandsIn line → IsLine h given line end cs → AllByRecursion NumberedHands cs
line_hands h given (One e) (Replied r) cs hands one = one_hands e r cs hands one
line_hands h given (LookUp l) (Looked end) cs hands p = calls_hand cs (looks_cost h l cs p.0).calls
line_hands h given (Run name fuel args) Unfound cs hands p = subst (AllByRecursion NumberedHands) (sym p.1) tt
line_hands h given (Run name fuel args) (Ran end output) cs hands p = run_hands h (address_of name given) fuel args end output cs p
line_hands h given (PeekAt name) (Peeked told) cs hands p = subst (AllByRecursion NumberedHands) (sym p.1) tt
line_hands h given (One e) _ cs hands p = absurd p
line_hands h given (LookUp l) _ cs hands p = absurd p
line_hands h given (Run name fuel args) _ cs hands p = absurd p
line_hands h given (PeekAt name) _ cs hands p = absurd p

lines_hand : (h : List (Entry Meaning)) (given : Given) (lines : List Line) (ends : List LineEnd) (cs : List (ℕ × Entry Meaning)) → AreLines h given lines ends cs → AllByRecursion LineHandsIn lines → AllByRecursion NumberedHands cs
lines_hand h given lines ends cs (AtEnd g) hand = tt
lines_hand h given lines ends cs (Goes g line rest end more now later is goes) hand =
    each_joined NumberedHands now later (line_hands h g line end now hand.0 is) (lines_hand h (given_by line end ++ g) rest more later goes hand.1)
lines_hand h given lines ends cs (Stops g line rest st skipped now stopped skip) hand =
    let s = stopped_begins (CallsOf h g line) now st stopped in
    each_front NumberedHands now s.rest (begun_hands h g line (now ++ s.rest) hand.0 s.would)

-- The calls of a seat

-- of seat 0 they are entries of the set-up
first_hands : (n : ℕ) (es : List (Entry Meaning)) → AllByRecursion (λ (e : Entry Meaning). e.seat.0 ≡ 0 → Hands e) es → AllByRecursion NumberedHands (numbered_calls 0 n es)
first_hands n [] hand = tt
first_hands n (e ∷ es) hand = by (cases_eq e.seat.0 0) (first_hands (n + 1) es hand.1)
  where
    by : (e.seat.0 ≡ 0) ⊎ (e.seat.0 ≡ 0 → ⊥) → AllByRecursion NumberedHands (numbered_calls 0 (n + 1) es) → AllByRecursion NumberedHands (numbered_calls 0 n (e ∷ es))
    by (inl is) rest = subst (AllByRecursion NumberedHands) (sym (call_first 0 n e es is)) (hand.0 is, rest)
    by (inr apart) rest = subst (AllByRecursion NumberedHands) (sym (call_skipped 0 n e es apart)) rest

called_hand : (events : List (Event Meaning)) (es : List (Entry Meaning)) → AreCalled events es → AllByRecursion (HandsIn IsLinkable) events → AllByRecursion Hands es
called_hand events es called hand = mapped es (subst (AllByRecursion (HandsIn IsLinkable)) (sym called) hand)
  where
    mapped : (xs : List (Entry Meaning)) → AllByRecursion (HandsIn IsLinkable) (map (λ (x : Entry Meaning). x.event) xs) → AllByRecursion Hands xs
    mapped [] a = tt
    mapped (x ∷ xs) a = (a.0, mapped xs a.1)

module _ (jmax workers : ℕ) (script : Script) (stopped : Option Stop) (ends : List (List LineEnd)) (h : List (Entry Meaning)) (run : IsScriptRun jmax workers script stopped ends h) (asks : AsksForObjects script) where
  setup_hands : (o : Option Stop) → Went jmax script ends h run.setup run.later o → AllByRecursion Hands run.setup
  setup_hands _ (Whole called ran) = called_hand script.set_up run.setup called (recursion_from_All (HandsIn IsLinkable) script.set_up asks.set_up)
  setup_hands _ (InSetUp n st few called none cause skipped) = called_hand (take n script.set_up) run.setup called (each_taken (HandsIn IsLinkable) n script.set_up (recursion_from_All (HandsIn IsLinkable) script.set_up asks.set_up))

  of_first : AllByRecursion NumberedHands (numbered_calls 0 1 h)
  of_first = first_hands 1 h (subst (AllByRecursion First) (sym run.parts) (each_joined First run.setup run.later
      (each_weaker Hands First (λ e hands is. hands) run.setup (setup_hands stopped run.went))
      (each_weaker (λ (e : Entry Meaning). (0 < e.seat.0) × (e.seat.0 ≤ length script.clients + workers)) First (λ e p is. absurd (omega (arith, is, p.0))) run.later
      (recursion_from_All (λ (e : Entry Meaning). (0 < e.seat.0) × (e.seat.0 ≤ length script.clients + workers)) run.later run.later_seats))))
    where
      First : Entry Meaning → Type 0
      First e = e.seat.0 ≡ 0 → Hands e

  of_client : (o : Option Stop) → Went jmax script ends h run.setup run.later o → (k : ℕ) → k < length script.clients → AllByRecursion NumberedHands (numbered_calls (1 + k) 1 h)
  of_client _ (Whole called ran) k few =
      let lines = some_below script.clients k few in
      let its = some_below ends k (omega (arith, few, ran.count)) in
      lines_hand h [] lines.0 its.0 (numbered_calls (1 + k) 1 h) (ran.each k lines.0 its.0 lines.1 its.1) (recursion_from_All LineHandsIn lines.0 (all_at (All LineHandsIn) script.clients k lines.0 asks.lines lines.1))
  of_client _ (InSetUp n st less called none cause skipped) k few =
      let past : numbered_calls (1 + k) 1 h ≡ [] = ap (numbered_calls (1 + k) 1) run.parts ∙ (calls_past (1 + k) 1 run.setup run.later run.setup_seat (omega arith) ∙ ap (numbered_calls (1 + k) (1 + length run.setup)) none) in
      subst (AllByRecursion NumberedHands) (sym past) tt

  of_seat : (s : ℕ) → AllByRecursion NumberedHands (numbered_calls s 1 h)
  of_seat zero = of_first
  of_seat (suc k) = subst (λ s. AllByRecursion NumberedHands (numbered_calls s 1 h)) (omega arith) (by (cases_lt k (length script.clients)))
    where
      by : (k < length script.clients) ⊎ (length script.clients ≤ k) → AllByRecursion NumberedHands (numbered_calls (1 + k) 1 h)
      by (inl few) = of_client stopped run.went k few
      by (inr past) = calls_hand (numbered_calls (1 + k) 1 h) (jobs_cost h (numbered_calls (1 + k) 1 h) (run.workers_do (1 + k) (omega (arith, past)))).calls

  pub hands_objects : All Hands h
  hands_objects = All-from_recursion Hands h (each_seat Hands 1 h of_seat)
