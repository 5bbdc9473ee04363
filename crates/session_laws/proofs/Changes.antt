-- Each change of the session keeps the invariant.
use Rattle.std.proofs.Common.{◌≡◌, ℕ, Bool, true, false, not, ◌&&◌, ◌==◌, map, List, [], ◌∷◌, ◌++◌, slice_get, Contains, ◌⊎◌, inl, inr, subst, sym, refl, ap, ◌∙◌, Some, option_map, is_some}
use Rattle.std.specs.Bool.{if◌then◌else◌}
use Rattle.std.proofs.lemmas.Bool.{both_ways, eq-eqb, eqb-true, and_parts, and_from}
use Rattle.session_model.specs.Lists.{changed_at}
use Rattle.session_model.specs.Plain.{UnitRow, is_unsearched, is_defunct, is_owned, phase_deps}
use Rattle.session_model.specs.Reach.{deps_at}
use Rattle.session_model.specs.declared.rows.InstRow.{InstRow}
use Rattle.session_model.specs.declared.rows.Job.{Job}
use Rattle.session_model.specs.declared.rows.Job.TheVariants as job
use Rattle.session_model.specs.declared.rows.Phase.{Phase}
use Rattle.session_model.specs.declared.rows.Phase.TheVariants as phase
use Rattle.session_model.specs.declared.rows.UnitPhase.{UnitPhase}
use Rattle.session_model.specs.declared.rows.UnitPhase.TheVariants as stage
use Rattle.session_laws.proofs.Elements.{mapped_at}
use Rattle.session_laws.proofs.Facts.{no_dep, jobs_pushed_same, jobs_pushed_other, jobs_head_same, jobs_head_other, due_some, due_start, due_finish}
use Rattle.session_laws.proofs.Settling.{chosen}
use Rattle.session_laws.proofs.Steps.{IsStep, stepped, deps_kept, unit_stepped}
use Rattle.session_laws.specs.Sound.{Sound, UnitFits, is_sure, sure_at, is_underway, fits, is_held_phase, due_at, its_jobs}
use Rattle.session_model.specs.declared.rows.Query.{Query}
use Rattle.std.proofs.Common.{unwrap_or}
use Rattle.session_model.specs.Answer.{can_resolve}
use Rattle.session_model.specs.Change.{claimed_row, listed_unit, started_unit, finishing_unit, placed_unit, resolved_unit, resolved_row, linked_unit, let_go_unit}
use Rattle.session_model.specs.declared.entry.Finishing.{Finishing}
use Rattle.session_laws.specs.Sound.{is_unbased, is_early, row_stage}
use Rattle.session_laws.proofs.RowStages.{row_is, row_moves, row_follows, resolvable_held, resolved_phase, resolved_fits}
use Rattle.session_laws.proofs.Facts.{held_due, held_alive}

-- Work on a unit

-- a unit's own jobs, by its row
pub own_jobs : (rows : List InstRow) (units : List UnitRow) (queries : List Query) (jobs : List Job) (u : ℕ) (x : UnitRow) → Sound rows units queries jobs → slice_get units u ≡ Some x → its_jobs u jobs ≡ due_at u x.phase
own_jobs rows units queries jobs u x s t = s.jobs_due u ∙ due_some u units x t

pub sound_started : (rows : List InstRow) (units : List UnitRow) (queries : List Query) (js : List Job) (u seat : ℕ) → Sound rows units queries (job.Start (record { 0 = u }) ∷ js) →
    Sound rows (changed_at u (started_unit seat) units) queries js
sound_started rows units queries js u seat s = by_job (due_start u units (record { 0 = u }) (its_jobs u js) (sym (jobs_head_same u (job.Start (record { 0 = u })) js refl) ∙ s.jobs_due u))
  where
    by_job : (x : UnitRow) × (slice_get units u ≡ Some x) × (x.phase ≡ stage.Listed) × (its_jobs u js ≡ []) → Sound rows (changed_at u (started_unit seat) units) queries js
    by_job d = unit_stepped rows units queries (job.Start (record { 0 = u }) ∷ js) js u d.0 (started_unit seat) s d.1 (record {
      mine = row_moves d.0 (started_unit seat d.0) stage.Listed stage.Started d.2 refl refl refl (λ p f. f);
      unit = record { seat = λ n. refl; waits = λ w. absurd (cc); early = λ e. (s.units_fit u d.0 d.1).early (ap is_early d.2) };
      own = d.3;
      others = λ v n. sym (jobs_head_other v (job.Start (record { 0 = u })) js (λ e. n (sym e)));
    })

pub sound_finishing : (rows : List InstRow) (units : List UnitRow) (queries : List Query) (js : List Job) (u seat : ℕ) (how : Finishing) → Sound rows units queries (job.Finish (record { 0 = u }) ∷ js) →
    Sound rows (changed_at u (finishing_unit seat how) units) queries js
sound_finishing rows units queries js u seat how s = by_job (due_finish u units (record { 0 = u }) (its_jobs u js) (sym (jobs_head_same u (job.Finish (record { 0 = u })) js refl) ∙ s.jobs_due u))
  where
    by_job : (x : UnitRow) × (slice_get units u ≡ Some x) × (x.phase ≡ stage.Linked) × (its_jobs u js ≡ []) → Sound rows (changed_at u (finishing_unit seat how) units) queries js
    by_job d = unit_stepped rows units queries (job.Finish (record { 0 = u }) ∷ js) js u d.0 (finishing_unit seat how) s d.1 (record {
      mine = row_follows (is_unbased d.0) d.0.phase stage.Linked stage.Finishing d.2 refl (λ p f. f);
      unit = record { seat = λ n. refl; waits = λ w. absurd (cc); early = λ e. absurd (both_ways false refl e) };
      own = d.3;
      others = λ v n. sym (jobs_head_other v (job.Finish (record { 0 = u })) js (λ e. n (sym e)));
    })

pub sound_placed : (rows : List InstRow) (units : List UnitRow) (queries : List Query) (jobs : List Job) (u base : ℕ) (x : UnitRow) → Sound rows units queries jobs → slice_get units u ≡ Some x → x.phase ≡ stage.Started →
    Sound rows (changed_at u (placed_unit base) units) queries jobs
sound_placed rows units queries jobs u base x s t p = unit_stepped rows units queries jobs jobs u x (placed_unit base) s t (record {
  mine = row_moves x (placed_unit base x) stage.Started stage.Placed p refl refl refl (λ q f. f);
  unit = record { seat = λ n. (s.units_fit u x t).seat (ap is_defunct p) ∙ ap is_held_phase p; waits = λ w. absurd (cc); early = λ e. absurd (both_ways false refl e) };
  own = own_jobs rows units queries jobs u x s t ∙ ap (due_at u) p;
  others = λ v n. refl;
})

pub sound_let_go : (rows : List InstRow) (units : List UnitRow) (queries : List Query) (jobs : List Job) (u seat : ℕ) (x : UnitRow) → Sound rows units queries jobs → slice_get units u ≡ Some x → is_defunct x.phase ≡ true →
    Sound rows (changed_at u (let_go_unit seat) units) queries jobs
sound_let_go rows units queries jobs u seat x s t d = unit_stepped rows units queries jobs jobs u x (let_go_unit seat) s t (record {
  mine = λ q fit. fit;
  unit = record { seat = λ n. absurd (both_ways (is_defunct x.phase) n d); waits = λ w. absurd (both_ways false refl (sym (ap is_defunct w) ∙ d)); early = λ e. (s.units_fit u x t).early e };
  own = own_jobs rows units queries jobs u x s t;
  others = λ v n. refl;
})

-- a unit that waited is linked
pub sound_linked : (rows : List InstRow) (units : List UnitRow) (queries : List Query) (jobs : List Job) (u : ℕ) (x : UnitRow) → Sound rows units queries jobs → slice_get units u ≡ Some x → x.phase ≡ stage.Waiting →
    Sound rows (changed_at u linked_unit units) queries (jobs ++ job.Finish (record { 0 = u }) ∷ [])
sound_linked rows units queries jobs u x s t p = unit_stepped rows units queries jobs (jobs ++ job.Finish (record { 0 = u }) ∷ []) u x linked_unit s t (record {
  mine = row_follows (is_unbased x) x.phase stage.Waiting stage.Linked p refl (λ q f. f);
  unit = record { seat = λ n. (s.units_fit u x t).seat (ap is_defunct p) ∙ ap is_held_phase p; waits = λ w. absurd (cc); early = λ e. absurd (both_ways false refl e) };
  own = jobs_pushed_same u jobs (job.Finish (record { 0 = u })) refl ∙ ap (λ l. l ++ job.Finish (record { 0 = u }) ∷ []) (own_jobs rows units queries jobs u x s t ∙ ap (due_at u) p);
  others = λ v n. jobs_pushed_other v jobs (job.Finish (record { 0 = u })) (λ e. n (sym e));
})

-- Work on a unit's instances

-- the instances that pass, all of them the unit's, get a new phase
abbrev pub rephased : (ℕ → InstRow → Bool) → (ℕ → InstRow → Phase) → ℕ → InstRow → InstRow
rephased test new i r = record r { phase = if test i r then new i r else r.phase }

pub owned_parts : (u : ℕ) (r : InstRow) → is_owned u r ≡ true → (r.present ≡ true) × (r.unit.0 ≡ u)
owned_parts u r e = let p = and_parts r.present (r.unit.0 == u) e in (p.0, eqb-true r.unit.0 u p.1)

pub owned_from : (u : ℕ) (r : InstRow) → r.present ≡ true → r.unit.0 ≡ u → is_owned u r ≡ true
owned_from u r p e = and_from r.present (r.unit.0 == u) p (eq-eqb r.unit.0 u e)

pub record IsRephasing (rows : List InstRow) (new : List InstRow) (test : ℕ → InstRow → Bool) (next : ℕ → InstRow → Phase) (u : ℕ) (s t : UnitPhase) : Type 0 where
  pub at : (i : ℕ) → slice_get new i ≡ option_map (rephased test next i) (slice_get rows i)
  pub owned : (i : ℕ) (r : InstRow) → test i r ≡ true → is_owned u r ≡ true
  pub fit : (i : ℕ) (r : InstRow) → is_owned u r ≡ true → fits s r.phase ≡ true → fits t (if test i r then next i r else r.phase) ≡ true
  pub searched : (i : ℕ) (r : InstRow) → not (is_unsearched (next i r)) ≡ true
  pub deps : (i j : ℕ) → Contains (deps_at new i) j → sure_at new j ≡ true

pub rephased_step : (rows : List InstRow) (units : List UnitRow) (queries : List Query) (jobs : List Job) (new : List InstRow) (test : ℕ → InstRow → Bool) (next : ℕ → InstRow → Phase) (listed : List Job) (u : ℕ) (x y : UnitRow) →
    slice_get units u ≡ Some x → IsRephasing rows new test next u (row_stage x) (row_stage y) → UnitFits queries u y → its_jobs u listed ≡ due_at u y.phase → ((v : ℕ) → (v ≡ u → ⊥) → its_jobs v listed ≡ its_jobs v jobs) →
    IsStep rows units queries jobs new (rephased test next) listed u x y
rephased_step rows units queries jobs new test next listed u x y there a unit own others = record {
  there = there;
  at = a.at;
  same = λ i r. (refl, refl);
  mine = λ i r e h is f. a.fit i r (owned_from u r h is) f;
  other = λ i r e h apart s f. chosen (λ p. fits s p ≡ true) (test i r) (next i r) r.phase (λ t. absurd (apart (owned_parts u r (a.owned i r t)).1)) (λ t. f);
  gone = λ i r e h n. chosen (λ p. is_underway p ≡ false) (test i r) (next i r) r.phase (λ t. absurd (both_ways r.present h (owned_parts u r (a.owned i r t)).0)) (λ t. n);
  deps = a.deps;
  searched = λ i r e h. chosen (λ p. not (is_unsearched p) ≡ true) (test i r) (next i r) r.phase (λ t. a.searched i r) (λ t. h);
  unit = unit;
  own = own;
  others = others;
}

-- what is recorded stays sure where the new phases record nothing and are sure
pub rephased_deps : (rows new : List InstRow) (test : ℕ → InstRow → Bool) (next : ℕ → InstRow → Phase) → ((i : ℕ) → slice_get new i ≡ option_map (rephased test next i) (slice_get rows i)) →
    ((i j : ℕ) → Contains (deps_at rows i) j → sure_at rows j ≡ true) →
    ((i j : ℕ) (r : InstRow) → Contains (phase_deps (next i r)) j → ⊥) → ((i : ℕ) (r : InstRow) → is_sure (record r { phase = next i r }) ≡ true) →
    (i j : ℕ) → Contains (deps_at new i) j → sure_at new j ≡ true
rephased_deps rows new test next at old none sure = deps_kept rows new (rephased test next) at old
    (λ i j r e. chosen (λ p. Contains (phase_deps p) j → Contains (phase_deps r.phase) j) (test i r) (next i r) r.phase (λ t c. absurd (none i j r c)) (λ t c. c))
    (λ i r e h. chosen (λ p. is_sure (record r { phase = p }) ≡ true) (test i r) (next i r) r.phase (λ t. sure i r) (λ t. h))

pub sound_resolved : (rows : List InstRow) (units : List UnitRow) (queries : List Query) (jobs : List Job) (u : ℕ) (x : UnitRow) → Sound rows units queries jobs → slice_get units u ≡ Some x → can_resolve x ≡ true →
    Sound (map (resolved_row u (resolved_unit x)) rows) (changed_at u resolved_unit units) queries jobs
sound_resolved rows units queries jobs u x s t c = stepped rows units queries jobs (map (resolved_row u y) rows) (rephased (λ i r. is_owned u r) (λ i r. phase.Resolved (address r))) jobs u x resolved_unit s
    (rephased_step rows units queries jobs (map (resolved_row u y) rows) (λ i r. is_owned u r) (λ i r. phase.Resolved (address r)) jobs u x y t
    (record {
      at = at;
      owned = λ i r e. e;
      fit = λ i r o f. chosen (λ q. fits (row_stage y) q ≡ true) (is_owned u r) (phase.Resolved (address r)) r.phase (λ b. resolved_fits x c (address r)) (λ b. absurd (both_ways (is_owned u r) b o));
      searched = λ i r. refl;
      deps = rephased_deps rows (map (resolved_row u y) rows) (λ i r. is_owned u r) (λ i r. phase.Resolved (address r)) at s.deps (λ i j r c. no_dep j c) (λ i r. refl);
    })
    (record { seat = λ n. held ∙ sym (held_after (resolved_phase x c)); waits = λ w. absurd (unwaiting (resolved_phase x c) w); early = λ e. absurd (both_ways (is_early y.phase) (late (resolved_phase x c)) e) })
    (own_jobs rows units queries jobs u x s t ∙ (held_due u x.phase (resolvable_held x c) ∙ sym (held_due u y.phase (held_after (resolved_phase x c)))))
    (λ v n. refl))
  where
    y : UnitRow
    y = resolved_unit x

    address : InstRow → ℕ
    address r = x.meaning.address r.offer (unwrap_or (resolved_unit x).base 0)

    at : (i : ℕ) → slice_get (map (resolved_row u (resolved_unit x)) rows) i ≡ option_map (rephased (λ i r. is_owned u r) (λ i r. phase.Resolved (address r)) i) (slice_get rows i)
    at i = mapped_at (resolved_row u (resolved_unit x)) rows i

    held : is_some x.seat ≡ true
    held = (s.units_fit u x t).seat (held_alive x.phase (resolvable_held x c)) ∙ resolvable_held x c

    held_after : (y.phase ≡ stage.Finishing) ⊎ (y.phase ≡ stage.Linking) → is_held_phase y.phase ≡ true
    held_after (inl e) = ap is_held_phase e
    held_after (inr e) = ap is_held_phase e

    unwaiting : (y.phase ≡ stage.Finishing) ⊎ (y.phase ≡ stage.Linking) → y.phase ≡ stage.Waiting → ⊥
    unwaiting (inl e) w = let f : stage.Finishing ≡ stage.Waiting = sym e ∙ w in cc
    unwaiting (inr e) w = let f : stage.Linking ≡ stage.Waiting = sym e ∙ w in cc

    late : (y.phase ≡ stage.Finishing) ⊎ (y.phase ≡ stage.Linking) → is_early y.phase ≡ false
    late (inl e) = ap is_early e
    late (inr e) = ap is_early e

pub sound_claimed : (rows : List InstRow) (units : List UnitRow) (queries : List Query) (jobs : List Job) (u : ℕ) (x : UnitRow) → Sound rows units queries jobs → slice_get units u ≡ Some x → x.phase ≡ stage.Unclaimed →
    Sound (map (claimed_row u) rows) (changed_at u listed_unit units) queries (jobs ++ job.Start (record { 0 = u }) ∷ [])
sound_claimed rows units queries jobs u x s t p = stepped rows units queries jobs (map (claimed_row u) rows) (rephased (λ i r. is_owned u r && is_unsearched r.phase) (λ i r. phase.Claimed)) (jobs ++ job.Start (record { 0 = u }) ∷ []) u x listed_unit s
    (rephased_step rows units queries jobs (map (claimed_row u) rows) (λ i r. is_owned u r && is_unsearched r.phase) (λ i r. phase.Claimed) (jobs ++ job.Start (record { 0 = u }) ∷ []) u x (listed_unit x) t
    (record {
      at = mapped_at (claimed_row u) rows;
      owned = λ i r e. (and_parts (is_owned u r) (is_unsearched r.phase) e).0;
      fit = λ i r o f. subst (λ q. fits q (if is_owned u r && is_unsearched r.phase then phase.Claimed else r.phase) ≡ true) (sym (row_is (listed_unit x) stage.Listed refl refl))
          (chosen (λ q. fits stage.Listed q ≡ true) (is_owned u r && is_unsearched r.phase) phase.Claimed r.phase (λ b. refl) (λ b. absurd (both_ways (is_owned u r && is_unsearched r.phase) b (and_from (is_owned u r) (is_unsearched r.phase) o (subst (λ q. fits q r.phase ≡ true) (row_is x stage.Unclaimed p refl) f)))));
      searched = λ i r. refl;
      deps = rephased_deps rows (map (claimed_row u) rows) (λ i r. is_owned u r && is_unsearched r.phase) (λ i r. phase.Claimed) (mapped_at (claimed_row u) rows) s.deps (λ i j r c. no_dep j c) (λ i r. refl);
    })
    (record { seat = λ n. (s.units_fit u x t).seat (ap is_defunct p) ∙ ap is_held_phase p; waits = λ w. absurd (cc); early = λ e. (s.units_fit u x t).early (ap is_early p) })
    (jobs_pushed_same u jobs (job.Start (record { 0 = u })) refl ∙ ap (λ l. l ++ job.Start (record { 0 = u }) ∷ []) (own_jobs rows units queries jobs u x s t ∙ ap (due_at u) p))
    (λ v n. jobs_pushed_other v jobs (job.Start (record { 0 = u })) (λ e. n (sym e))))
