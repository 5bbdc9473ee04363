-- The entries of a seat that goes by the stages are one job.
use Rattle.std.proofs.Common.{◌≡◌, ℕ, suc, ◌+◌, true, false, map, take, List, [], ◌∷◌, ◌++◌, length, append_assoc, subst, sym, refl, ap, ◌∙◌, Option}
use Rattle.std.proofs.Math.Seq.{take-append-add}
use Rattle.std.proofs.lemmas.Bool.{both_ways}
use Rattle.orc_ids.specs.declared.ids.UnitId.{UnitId}
use Rattle.orc_ids.specs.declared.lookup.Stop.{Stop}
use Rattle.orc_ids.specs.declared.lookup.Stop.TheVariants as stop
use Rattle.session_model.specs.Meaning.{Meaning, Refusal}
use Rattle.session_model.specs.Plain.{Plain}
use Rattle.session_model.specs.State.{state}
use Rattle.session_model.specs.Calls.{AfterTake, IsJob, numbered_calls, refusal_of}
use Rattle.session_model.specs.History.{IsLegal}
use Rattle.session_model.specs.declared.entry.Entry.{Entry}
use Rattle.session_model.specs.declared.entry.Why.TheVariants as why
use Rattle.session_laws.specs.Holding.{AllOthers}
use Rattle.session_laws.proofs.Declared.{prefixes_legal, call_first, call_skipped}
use Rattle.history_laws.proofs.Others.{one_other}
use Rattle.materialization.specs.Rest.{Has, HoldsNone, Rest}
use Rattle.materialization.specs.Stages.{next, stopped}
use Rattle.materialization.specs.Laws.{Begins, GoesOn, first_of, may_stop}
use Rattle.materialization.specs.Driving.{Drives, IsOver, Others, Call, Stops, Refuses, DrivenJobIsOne}
use Rattle.materialization.specs.declared.stage.Stage.{Stage}
use Rattle.materialization.specs.declared.stage.Stage.TheVariants as stage
use Rattle.materialization.proofs.Beginning.{job_begins}
use Rattle.materialization.proofs.Going.{job_goes_on}
use Rattle.materialization.proofs.Leaving.{others_leave_has}
use Rattle.materialization.proofs.Stopping.{may_give_up, refused_edge_fails, stop_cuts_job, stopped_job_fails}

-- The seat's entries

abbrev own : ℕ → ℕ → List (Entry Meaning) → List (Entry Meaning)
own s n es = map (λ d. d.1) (numbered_calls s n es)

no_calls : (s n : ℕ) (es : List (Entry Meaning)) → AllOthers s es → numbered_calls s n es ≡ []
no_calls s n [] o = refl
no_calls s n (e ∷ es) o = call_skipped s n e es (o 0 e refl) ∙ no_calls s (n + 1) es (λ k f. o (suc k) f)

-- The stages, one after the other

-- the seat has no unit in the end, and its entries are the rest of the job
abbrev IsEnded : List (Entry Meaning) → List (Entry Meaning) → ℕ → UnitId → Option Refusal → Stage → ℕ → Type 0
IsEnded h more s u refusal at n = HoldsNone (state (h ++ more)) s × Rest u refusal at (own s n more)

-- the history goes on by one entry
ended_after : (h : List (Entry Meaning)) (e : Entry Meaning) (more : List (Entry Meaning)) (s : ℕ) → HoldsNone (state ((h ++ e ∷ []) ++ more)) s → HoldsNone (state (h ++ e ∷ more)) s
ended_after h e more s = subst (λ l. HoldsNone (state l) s) (append_assoc h (e ∷ []) more)

legal_after : (jmax : ℕ) (h : List (Entry Meaning)) (e : Entry Meaning) (more : List (Entry Meaning)) → IsLegal jmax (h ++ e ∷ more) → IsLegal jmax ((h ++ e ∷ []) ++ more)
legal_after jmax h e more = subst (IsLegal jmax) (sym (append_assoc h (e ∷ []) more))

-- what a stop gives up
stopped_has : (m : Plain) (s u : ℕ) (at : Stage) (st : Stop) → may_stop at ≡ true → Has m s u at → Has m s u (stopped st)
stopped_has m s u at (stop.JournalFull len) may has = may_give_up m s u at why.Full (λ e. both_ways false refl (ap may_stop (sym e) ∙ may)) has
stopped_has m s u at stop.NoMemory may has = may_give_up m s u at why.NoMemory (λ e. both_ways false refl (ap may_stop (sym e) ∙ may)) has

driven : (jmax s : ℕ) (u : UnitId) (refusal : Option Refusal) (h more : List (Entry Meaning)) (at : Stage) (n : ℕ) → IsLegal jmax (h ++ more) → Has (state h) s u.0 at → Drives u s refusal at more → IsEnded h more s u refusal at n
driven jmax s u refusal h _ _ n l has (IsOver es o) = (others_leave_has jmax h es l s u.0 o stage.Over has, ap (map (λ d. d.1)) (no_calls s n es o))
driven jmax s u refusal h _ _ n l has (Others at e es apart d) =
    let legal = legal_after jmax h e es l in
    let first = (prefixes_legal jmax (h ++ e ∷ []) es).0 legal in
    let rest = driven jmax s u refusal (h ++ e ∷ []) es at (n + 1) legal (others_leave_has jmax h (e ∷ []) first s u.0 (one_other s e apart) at has) d in
    (ended_after h e es s rest.0, subst (λ cs. Rest u refusal at (map (λ d. d.1) cs)) (sym (call_skipped s n e es apart)) rest.1)
driven jmax s u refusal h _ _ n l has (Call at e es mine call passes d) =
    let legal = legal_after jmax h e es l in
    let goes : GoesOn jmax h e u at (next at e.reply) = job_goes_on jmax h e u at ((prefixes_legal jmax (h ++ e ∷ []) es).0 legal) (subst (λ t. Has (state h) t u.0 at) (sym mine) has) call in
    let rest = driven jmax s u refusal (h ++ e ∷ []) es (next at e.reply) (n + 1) legal (subst (λ t. Has (state (h ++ e ∷ [])) t u.0 (next at e.reply)) mine goes.has) d in
    (ended_after h e es s rest.0, subst (λ cs. Rest u refusal at (map (λ d. d.1) cs)) (sym (call_first s n e es mine)) (goes.rest refusal passes (own s (n + 1) es) rest.1))
driven jmax s u refusal h _ _ n l has (Stops at st es may d) =
    let rest = driven jmax s u refusal h es (stopped st) n l (stopped_has (state h) s u.0 at st may has) d in
    (rest.0, stopped_job_fails u refusal at (own s n es) may (stop_cuts_job u refusal st (own s n es) rest.1))
driven jmax s u refusal h _ _ n l has (Refuses r es is d) =
    let rest = driven jmax s u refusal h es (stage.Fail (why.Refused r.0 r.1 r.2)) n l (may_give_up (state h) s u.0 stage.Emit (why.Refused r.0 r.1 r.2) (λ e. cc) has) d in
    (rest.0, subst (λ q. Rest u q stage.Emit (own s n es)) (sym is) (refused_edge_fails u r (own s n es) rest.1))

pub driven_job_is_one : DrivenJobIsOne
driven_job_is_one jmax h more e u l take is none d = record {
  job = subst (IsJob (h ++ e ∷ more)) (sym (call_first s (length h + 1) e more refl))
      (take, subst (λ p. AfterTake (state p) e.reply (own s (length h + 1 + 1) more)) (sym (take-append-add h (e ∷ more) 1)) (begins.job (own s (length h + 1 + 1) more) rest.1));
  none = ended_after h e more s rest.0;
}
  where
    s : ℕ
    s = e.seat.0

    m : Plain
    m = state (h ++ e ∷ [])

    legal : IsLegal jmax ((h ++ e ∷ []) ++ more)
    legal = legal_after jmax h e more l

    begins : Begins jmax h e u (first_of m u e.reply)
    begins = job_begins jmax h e u ((prefixes_legal jmax (h ++ e ∷ []) more).0 legal) take is none

    rest : IsEnded (h ++ e ∷ []) more s u (refusal_of m u) (first_of m u e.reply) (length h + 1 + 1)
    rest = driven jmax s u (refusal_of m u) (h ++ e ∷ []) more (first_of m u e.reply) (length h + 1 + 1) legal begins.has d
