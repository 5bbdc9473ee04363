-- The session that was run is the one of the objects, and what is told of it.
use Rattle.std.proofs.Common.{◌≡◌, inl, inr, ℕ, suc, ◌+◌, ◌*◌, ◌<◌, false, List, [], ◌∷◌, length, map, Option, None, Some, Result, Ok, Err, refl, sym, ◌∙◌, ap, ap₂, subst, arith}
use Rattle.std.specs.Prelude.{◌||◌, IfErr, IfOk, slice_get}
use Rattle.std.specs.List.{list_any}
use Rattle.std.proofs.lemmas.List.{length-map}
use Rattle.std.proofs.lemmas.Option.{same_Some}
use Rattle.orc_ids.specs.declared.lookup.Stop.{Stop}
use Rattle.orc_ids.specs.declared.lookup.Stop.TheVariants.{JournalFull, NoMemory}
use Rattle.session_model.specs.Meaning.{Meaning}
use Rattle.session_model.specs.declared.entry.Entry.{Entry}
use Rattle.script_model.specs.Asking.{Script}
use Rattle.script_model.specs.Plans.{line_of, script_of}
use Rattle.script_model.specs.declared.calls.Plan.{Plan}
use Rattle.script_model.specs.Scripts.{InSetUp, IsScriptRun, Went, Whole}
use Rattle.script_model.specs.declared.line_end.LineEnd.{LineEnd}
use Rattle.script_model.specs.declared.line_end.LineEnd.TheVariants.{Stopped}
use Rattle.generated_session.specs.Runs.{IsGeneratedRun, is_stopped}
use Rattle.generated_session.specs.Scripts.{generated_script}
use Rattle.generated_session.proofs.Short.{is_never_full}
use Rattle.generated_session.specs.Plans.{IsGenerated}
use Rattle.gen_command.specs.Found.{IsSummary}
use Rattle.gen_command.specs.Ends.{HasStopped, IsRun, IsTold, first_ends, first_stop, or_else, stop_in, stop_of}

-- ---- its one client

as_many : (jmax : ℕ) (script : Script) (ends : List (List LineEnd)) (h setup later : List (Entry Meaning)) (stopped : Option Stop) → Went jmax script ends h setup later stopped → length ends ≡ length script.clients
as_many jmax script ends h setup later stopped (Whole called ran) = ran.count
as_many jmax script ends h setup later stopped (InSetUp n st less called none cause skipped) = skipped.count

only : {X : Type 0} (xs : List X) → length xs ≡ 1 → (x : X) × (xs ≡ x ∷ [])
only [] one = absurd (omega (arith, one))
only (x ∷ []) one = (x, refl)
only (x ∷ y ∷ ys) one = absurd (omega (arith, one))

pub was_run : (jmax n : ℕ) (script : Script) (stopped : Option Stop) (ends : List (List LineEnd)) (h : List (Entry Meaning)) → IsGenerated n script → IsScriptRun jmax 0 script stopped ends h → IsRun jmax n stopped ends h
was_run jmax n script stopped ends h generated ran =
    let units = generated.0 in
    let run : IsScriptRun jmax 0 (generated_script n units) stopped ends h = subst (λ s. IsScriptRun jmax 0 s stopped ends h) generated.2 ran in
    let one = only ends (as_many jmax (generated_script n units) ends h run.setup run.later stopped run.went) in
    (one.0, one.1, record { units = units; are = generated.1; run = subst (λ its. IsScriptRun jmax 0 (generated_script n units) stopped its h) one.1 run })

-- the plan has one client
pub one_planned : {U N : Type 0} (means : U → Meaning) (n : ℕ) (plan : Plan U N) → IsGenerated n (script_of means plan) → length plan.clients.items ≡ 1
one_planned means n plan is = sym (length-map plan.clients.items (λ lines. map (line_of means) lines.items)) ∙ ap (λ (s : Script). length s.clients) is.2

-- what holds of a result, by what is known of it
pub if_ok : {S E : Type 0} {P Q : S → Type 0} (r : Result S E) → ((s : S) → P s → Q s) → IfOk r P → IfOk r Q
if_ok (Ok s) more is = more s is
if_ok (Err e) more is = tt

-- ---- where it was stopped

one_going : (end : LineEnd) (rest : Option Stop) → or_else (stop_of end) rest ≡ None → (is_stopped end ≡ false) × (rest ≡ None)
one_going (Stopped st) rest e = absurd cc
one_going _ rest e = (refl, e)

all_going : (ends : List LineEnd) → first_stop ends ≡ None → list_any is_stopped ends ≡ false
all_going [] e = refl
all_going (end ∷ ends) e = let p = one_going end (first_stop ends) e in ap₂ (λ a b. a || b) p.0 (all_going ends p.1)

stop_there : (ends : List LineEnd) (st : Stop) → first_stop ends ≡ Some st → (i : ℕ) × (slice_get ends i ≡ Some (Stopped st))
stop_there [] st e = absurd cc
stop_there (Stopped other ∷ ends) st e = (0, ap (λ s. Some (Stopped s)) (same_Some other st e))
stop_there (_ ∷ ends) st e = let more = stop_there ends st e in (suc more.0, more.1)

set_up_going : (set_up : Option Stop) (ends : List LineEnd) → stop_in set_up ends ≡ None → (set_up ≡ None) × (first_stop ends ≡ None)
set_up_going None ends e = (refl, e)
set_up_going (Some st) ends e = absurd cc

-- ---- what is told

pub summary_is : (jmax n : ℕ) (set_up : Option Stop) (ends : List LineEnd) (h : List (Entry Meaning)) (text : List ℕ) → IsGeneratedRun jmax n set_up ends h → IsTold n h set_up ends text → IsSummary jmax n text
summary_is jmax n set_up ends h text run told =
    let going = set_up_going set_up ends told.unstopped in
    record {
      ends = ends;
      history = h;
      run = subst (λ s. IsGeneratedRun jmax n s ends h) going.0 run;
      unstopped = all_going ends going.1;
      kept = told.kept;
      counted = told.counted;
    }

-- a journal with enough places isn't what stopped it
never_full : (jmax n len : ℕ) (set_up : Option Stop) (ends : List LineEnd) (h : List (Entry Meaning)) → 21 * n + 9 < jmax → IsGeneratedRun jmax n set_up ends h → stop_in set_up ends ≡ Some (JournalFull len) → ⊥
never_full jmax n len None ends h room run e = let at = stop_there ends (JournalFull len) e in (is_never_full jmax n len None ends h room run).1 at.0 at.1
never_full jmax n len (Some st) ends h room run e = (is_never_full jmax n len (Some st) ends h room run).0 e

pub stop_is : (jmax n : ℕ) (set_up : Option Stop) (ends : List LineEnd) (h : List (Entry Meaning)) (st : Stop) → 21 * n + 9 < jmax → IsGeneratedRun jmax n set_up ends h → HasStopped set_up ends st → st ≡ NoMemory
stop_is jmax n set_up ends h st room run (inl e) = e
stop_is jmax n set_up ends h NoMemory room run (inr e) = refl
stop_is jmax n set_up ends h (JournalFull len) room run (inr e) = absurd (never_full jmax n len set_up ends h room run e)

module _ (jmax n : ℕ) (set_up : Option Stop) (all : List (List LineEnd)) (ends : List LineEnd) (h other : List (Entry Meaning)) (run : IsRun jmax n set_up all h) (are : ends ≡ first_ends all) (same : other ≡ h) where
  ends_run : IsGeneratedRun jmax n set_up ends other
  ends_run =
      let its : ends ≡ run.0 = are ∙ ap first_ends run.1 in
      subst (λ es. IsGeneratedRun jmax n set_up es other) (sym its) (subst (λ g. IsGeneratedRun jmax n set_up run.0 g) (sym same) run.2)

  pub concluded : (text : Result (List ℕ) Stop) → IfOk text (IsTold n other set_up ends) → IfOk text (IsSummary jmax n)
  concluded (Ok text) told = summary_is jmax n set_up ends other text ends_run told
  concluded (Err st) told = tt

  pub concluded_stop : (text : Result (List ℕ) Stop) → IfErr text (HasStopped set_up ends) → 21 * n + 9 < jmax → IfErr text (λ st. st ≡ NoMemory)
  concluded_stop (Ok text) stopped room = tt
  concluded_stop (Err st) stopped room = stop_is jmax n set_up ends other st room ends_run stopped
