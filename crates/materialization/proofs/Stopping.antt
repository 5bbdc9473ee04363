-- A job that is stopped, and a unit that isn't emitted.
use Rattle.std.proofs.Common.{◌≤◌, ◌+◌, ℕ, false, [], ◌∷◌, inl, inr, arith, subst, sym, refl, le_refl}
use Rattle.std.specs.Option.{option_map_or}
use Rattle.std.specs.Prelude.{slice_get}
use Rattle.std.proofs.lemmas.Bool.{both_ways, ltb-true}
use Rattle.orc_ids.specs.declared.ids.UnitId.{UnitId}
use Rattle.orc_ids.specs.declared.lookup.Stop.TheVariants as stop
use Rattle.session_model.specs.Meaning.{Meaning}
use Rattle.session_model.specs.Plain.{Plain, kept}
use Rattle.session_model.specs.State.{state}
use Rattle.session_model.specs.Answer.{is_held}
use Rattle.session_model.specs.Calls.{IsCut, Cut}
use Rattle.session_model.specs.History.{places}
use Rattle.session_model.specs.declared.entry.Event.{Event}
use Rattle.session_model.specs.declared.entry.Event.TheVariants as event
use Rattle.session_model.specs.declared.entry.Why.{Why}
use Rattle.session_laws.proofs.Declared.{entries_are, kept_within, chosen}
use Rattle.materialization.specs.Rest.{IsAt, IsCall}
use Rattle.materialization.specs.Laws.{MayGiveUp, StopCutsJob, StoppedJobFails, RefusedEdgeFails, FullIsCause}
use Rattle.materialization.specs.declared.stage.Stage.{Stage}
use Rattle.materialization.specs.declared.stage.Stage.TheVariants as stage

-- the phase makes no difference
given_up : (m : Plain) (s u : ℕ) (at : Stage) (cause : Why) → IsAt m s u at → IsAt m s u (stage.Fail cause)
given_up m s u at cause b = record { unit = b.unit; there = b.there; seat = b.seat; how = inr refl }

-- no entries are no fail
uncut : {P : Type 0} (u : UnitId) → IsCut u [] → P
uncut u (inl c) = absurd c
uncut u (inr c) = absurd c

pub may_give_up : MayGiveUp
may_give_up m s u stage.Place cause goes has = (given_up m s u stage.Place cause has.0, has.1)
may_give_up m s u stage.Resolve cause goes has = (given_up m s u stage.Resolve cause has.0, has.1)
may_give_up m s u stage.Link cause goes has = (given_up m s u stage.Link cause has.0, has.1)
may_give_up m s u (stage.Generate g) cause goes has = (given_up m s u (stage.Generate g) cause has.0, has.1)
may_give_up m s u stage.ResolveAlias cause goes has = (given_up m s u stage.ResolveAlias cause has.0, has.1)
may_give_up m s u stage.Emit cause goes has = (given_up m s u stage.Emit cause has.0, has.1)
may_give_up m s u (stage.Fail why) cause goes has = (given_up m s u (stage.Fail why) cause has.0, has.1)
may_give_up m s u stage.Over cause goes has = absurd (goes refl)

pub stop_cuts_job : StopCutsJob
stop_cuts_job u refusal (stop.JournalFull len) es fails = inr fails
stop_cuts_job u refusal stop.NoMemory es fails = inl fails

pub stopped_job_fails : StoppedJobFails
stopped_job_fails u refusal stage.Place [] may c = uncut u c
stopped_job_fails u refusal stage.Place (e ∷ es) may c = inl c
stopped_job_fails u refusal stage.Resolve [] may c = uncut u c
stopped_job_fails u refusal stage.Resolve (e ∷ es) may c = inl c
stopped_job_fails u refusal stage.Link es may c = Cut es c
stopped_job_fails u refusal (stage.Generate g) [] may c = uncut u c
stopped_job_fails u refusal (stage.Generate g) (e ∷ es) may c = inl c
stopped_job_fails u refusal stage.ResolveAlias [] may c = uncut u c
stopped_job_fails u refusal stage.ResolveAlias (e ∷ es) may c = inl c
stopped_job_fails u refusal stage.Emit es may c = inl c
stopped_job_fails u refusal (stage.Fail why) es may c = absurd (both_ways false refl may)
stopped_job_fails u refusal stage.Over es may c = absurd (both_ways false refl may)

pub refused_edge_fails : RefusedEdgeFails
refused_edge_fails u (place, kind, v) es fails = inr fails

-- no call of a job needs more than one place
pub one_place : (m : Plain) (s : ℕ) (u : UnitId) (at : Stage) (e : Event Meaning) → IsCall u at e → places m s e ≤ 1
one_place m s u stage.Place (event.Place v shape) c = le_refl 1
one_place m s u stage.Place _ c = absurd (both_ways false refl c)
one_place m s u stage.Resolve e c = subst (λ f. places m s f ≤ 1) (sym c) (le_refl 1)
one_place m s u stage.Link e c = subst (λ f. places m s f ≤ 1) (sym c) (le_refl 1)
one_place m s u (stage.Generate g) e c = subst (λ f. places m s f ≤ 1) (sym c) (le_refl 1)
one_place m s u stage.ResolveAlias e c = subst (λ f. places m s f ≤ 1) (sym c) (le_refl 1)
one_place m s u stage.Emit (event.Emit v groups) c = le_refl 1
one_place m s u stage.Emit _ c = absurd (both_ways false refl c)
one_place m s u (stage.Fail why) e c = subst (λ f. places m s f ≤ 1) (sym c)
    (chosen (λ n. n ≤ 1) (option_map_or (is_held s) (slice_get m.units u.0) false) 0 1 (λ b. omega arith) (λ b. le_refl 1))
one_place m s u stage.Over e c = absurd c

pub full_is_cause : FullIsCause
full_is_cause jmax h s u at e l had call full x right =
    omega (arith, entries_are h, kept_within jmax h l had, one_place (state h) s u at e call, ltb-true jmax ((state h).entries + kept (state h) + places (state h) s e) full)
