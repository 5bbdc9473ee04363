-- A script's session keeps its promises.
use Rattle.std.proofs.Common.{◌≡◌, ℕ, ◌+◌, List, [], ◌∷◌, ◌++◌, slice_get, take, drop, Option, None, Some, refl, sym, ap, subst, ◌∙◌, arith, suc, Bool, true, false, ◌==◌, All}
use Rattle.std.proofs.lemmas.List.{take-append-drop}
use Rattle.std.proofs.lemmas.List.Elements.{All-head, All-cons, All-from_recursion, All-nil, recursion_from_All}
use Rattle.list_laws.proofs.Each.{all_front, all_back, each_taken}
use Rattle.std.specs.Bool.{if◌then◌else◌}
use Rattle.orc_ids.specs.declared.lookup.Stop.{Stop}
use Rattle.exec_run.specs.declared.ran.RunEnd.{RunEnd}
use Rattle.run_laws.specs.Ended.{AreMemory}
use Rattle.session_model.specs.Calls.{Looks, Lookup, numbered_calls}
use Rattle.session_model.specs.History.{IsLegal}
use Rattle.session_model.specs.Meaning.{Meaning}
use Rattle.session_model.specs.Reach.{IsReady}
use Rattle.session_model.specs.State.{state}
use Rattle.session_model.specs.declared.entry.Entry.{Entry}
use Rattle.session_laws.specs.Readiness.{phase_at}
use Rattle.session_laws.proofs.Declared.{front_legal, ready_stays_ready}
use Rattle.session_model.specs.Ends.{EndsAs}
use Rattle.session_model.specs.declared.look_end.LookEnd.{LookEnd}
use Rattle.session_model.specs.declared.look_end.LookEnd.TheVariants as look
use Rattle.session_model.specs.declared.peeked.Peek.{Peek}
use Rattle.session_model.specs.declared.peeked.Peek.TheVariants as peek
use Rattle.script_model.specs.Given.{Given, address_of, match_of}
use Rattle.script_model.specs.declared.names.GivenMatch.{GivenMatch}
use Rattle.session_promises.specs.Lookups.{AreCallsOf}
use Rattle.session_promises.proofs.Failures.{failure_hits_those, nothing_else_fails}
use Rattle.session_promises.proofs.Entries.{calls_of}
use Rattle.session_promises.proofs.FoundReady.{found_is_ready}
use Rattle.session_promises.proofs.FoundStanding.{same_address}
use Rattle.session_promises.proofs.Settled.{failed_where_lost, found_where_settled}
use Rattle.session_promises.proofs.Objects.{objects_have_closures}
use Rattle.session_promises.proofs.Runs.{intact_runs_as_linked}
use Rattle.session_promises.specs.Runs.{IsLinkable}
use Rattle.memory_laws.proofs.Holding.{intact_holds}
use Rattle.static_links.proofs.Linked.{image_is_linked}
use Rattle.script_model.specs.Asking.{Line, One, LookUp, Run, PeekAt, Script}
use Rattle.script_model.specs.Lines.{AreLines, AreSkipped, AtEnd, CopiesAndRuns, Goes, IsLine, IsPeekOf, Stops, given_by}
use Rattle.script_model.specs.Scripts.{Went, Whole, InSetUp}
use Rattle.script_model.specs.declared.line_end.LineEnd.{LineEnd}
use Rattle.script_model.specs.declared.line_end.LineEnd.TheVariants.{Looked, Peeked, Ran, Skipped, Stopped}
use Rattle.script_model.specs.Promises.{AreKept, IsKept, IsPeeked, IsRun, ScriptKeepsPromises}
use Rattle.closure_laws.specs.HandedIn.{HandsIn}
use Rattle.script_model.proofs.Objects.{hands_objects}

-- what holds of all entries holds of the first ones
all_taken : {X : Type 0} (P : X → Type 0) (n : ℕ) (xs : List X) → All P xs → All P (take n xs)
all_taken P n xs a = All-from_recursion P (take n xs) (each_taken P n xs (recursion_from_All P xs a))

-- One line

module _ (jmax : ℕ) (h : List (Entry Meaning)) (legal : IsLegal jmax h) where
  look_kept : (given : Given) (l : Lookup) (end : LookEnd) (now : List (ℕ × Entry Meaning)) → AreCallsOf h now → Looks h l now → EndsAs end now → IsKept h given (LookUp l) (Looked end)
  look_kept given l (look.Found matches) now of looks ends =
      let last = ends.1 in
      let c : ℕ × Entry Meaning = (last.number, last.entry) in
      let f = found_where_settled jmax h legal l last.before c (subst (AreCallsOf h) last.are of) (subst (Looks h l) last.are looks) ends.0 matches last.reply in
      record { query = f.0; at = ends.0; found = f.2; ready = found_is_ready h l f.0 ends.0 matches f.2 }
  look_kept given l (look.Failed lost) now of looks ends =
      let last = ends.1 in
      let c : ℕ × Entry Meaning = (last.number, last.entry) in
      let f = failed_where_lost jmax h legal l last.before c (subst (AreCallsOf h) last.are of) (subst (Looks h l) last.are looks) ends.0 lost last.reply in
      record { query = f.0; at = ends.0; failed = f.2 }
  look_kept given l _ now of looks ends = tt

  run_kept : (address : Option ℕ) (fuel : ℕ) (args : List ℕ) (end : RunEnd) (output : List ℕ) (now : List (ℕ × Entry Meaning)) → AreCallsOf h now → CopiesAndRuns h address fuel args end output now → IsRun h address fuel args end output
  run_kept (Some from) fuel args end output (c ∷ []) of r =
      let one = All-head (λ d. (n : ℕ) × (d.0 ≡ n + 1) × (slice_get h n ≡ Some d.1)) c [] of in
      let n = one.0 in
      let copied = r.1 in
      let memory = subst (λ k. AreMemory (state (take k h)) copied.0) one.1 copied.1 in
      record {
        from = from;
        given = refl;
        n = n;
        copy = c.1;
        there = one.2;
        copies = r.0;
        ranges = copied.0;
        memory = memory;
        runs = copied.2;
        linked = λ i closure is stays. (intact_runs_as_linked (intact_holds image_is_linked) jmax (take (n + 1) h) (front_legal jmax h (n + 1) legal) copied.0 memory i closure is from args fuel end output stays).1 copied.2;
      }
  run_kept (Some from) fuel args end output [] of r = absurd r
  run_kept (Some from) fuel args end output (c ∷ d ∷ cs) of r = absurd r
  run_kept None fuel args end output now of r = absurd r

  -- what is ready at an address after some entries is so after all
  peek_kept : (found : Option GivenMatch) (told : Peek) → IsPeekOf h found told → IsPeeked h found told
  peek_kept (Some m) (peek.Ready address) is =
      let n = is.0.0 in
      let ready = is.0.1 in
      let whole = take-append-drop n h in
      let kept = ready_stays_ready jmax (take n h) (drop n h) (subst (IsLegal jmax) (sym whole) legal) m.instance.0 ready.0 in (
        subst (λ g. IsReady (state g).rows m.instance.0) whole kept.0,
        same_address (state (take n h)).rows (state h).rows m.instance.0 (ap (λ g. phase_at (state g).rows m.instance.0) (sym whole) ∙ kept.1) ∙ ready.1,
      )
  peek_kept (Some m) peek.NotYet is = tt
  peek_kept (Some m) peek.Unfound is = tt
  peek_kept None told is = tt

  line_kept : (given : Given) (line : Line) (end : LineEnd) (now : List (ℕ × Entry Meaning)) → AreCallsOf h now → IsLine h given line end now → IsKept h given line end
  line_kept given (LookUp l) (Looked end) now of is = look_kept given l end now of is.0 is.1
  line_kept given (Run name fuel args) (Ran end output) now of is = run_kept (address_of name given) fuel args end output now of is
  line_kept given (PeekAt name) (Peeked told) now of is = peek_kept (match_of name given) told is.0
  line_kept given _ _ now of is = tt

  -- nothing is promised of a line that was stopped or skipped
  stop_kept : (given : Given) (line : Line) (st : Stop) → IsKept h given line (Stopped st)
  stop_kept given (One e) st = tt
  stop_kept given (LookUp l) st = tt
  stop_kept given (Run name fuel args) st = tt
  stop_kept given (PeekAt name) st = tt

  skip_kept : (given : Given) (line : Line) → IsKept h given line Skipped
  skip_kept given (One e) = tt
  skip_kept given (LookUp l) = tt
  skip_kept given (Run name fuel args) = tt
  skip_kept given (PeekAt name) = tt

  -- All lines

  skipped_kept : (given : Given) (lines : List Line) (ends : List LineEnd) → AreSkipped lines ends → AreKept h given lines ends
  skipped_kept given [] [] s = tt
  skipped_kept given (line ∷ lines) (Skipped ∷ ends) s = (skip_kept given line, skipped_kept (given_by line Skipped ++ given) lines ends s)
  skipped_kept given _ _ s = absurd s

  lines_kept : (given : Given) (lines : List Line) (ends : List LineEnd) (cs : List (ℕ × Entry Meaning)) → AreCallsOf h cs → AreLines h given lines ends cs → AreKept h given lines ends
  lines_kept _ _ _ _ of (AtEnd given) = tt
  lines_kept _ _ _ _ of (Goes given line lines end ends now later is rest) =
      let P : ℕ × Entry Meaning → Type 0 = λ c. (n : ℕ) × (c.0 ≡ n + 1) × (slice_get h n ≡ Some c.1) in
      (line_kept given line end now (all_front P now later of) is, lines_kept (given_by line end ++ given) lines ends later (all_back P now later of) rest)
  lines_kept _ _ _ _ of (Stops given line lines st skipped now stopped skips) = (stop_kept given line st, skipped_kept (given_by line (Stopped st) ++ given) lines skipped skips)

  went_kept : (script : Script) (ends : List (List LineEnd)) (setup later : List (Entry Meaning)) (stopped : Option Stop) → Went jmax script ends h setup later stopped →
      (k : ℕ) (lines : List Line) (its : List LineEnd) → slice_get script.clients k ≡ Some lines → slice_get ends k ≡ Some its → AreKept h [] lines its
  went_kept script ends setup later _ (Whole are ran) k lines its there at = lines_kept [] lines its (numbered_calls (1 + k) 1 h) (calls_of (1 + k) h) (ran.each k lines its there at)
  went_kept script ends setup later _ (InSetUp n st few are none cause skipped) k lines its there at = skipped_kept [] lines its (skipped.each k lines its there at)

pub script_keeps_promises : ScriptKeepsPromises
script_keeps_promises jmax workers script stopped ends h run = record {
  lines = went_kept jmax h run.legal script ends run.setup run.later stopped run.went;
  closures = λ asks n i intact. objects_have_closures jmax (take n h) (front_legal jmax h n run.legal)
      (all_taken (λ (e : Entry Meaning). HandsIn IsLinkable e.event) n h (hands_objects jmax workers script stopped ends h run asks)) i intact;
  failures = failure_hits_those h;
  nothing_else = nothing_else_fails h;
}
