-- Small facts on instances, units and jobs.
use Rattle.std.proofs.Common.{◌≡◌, ℕ, Bool, true, false, not, ◌==◌, cond, filter, List, [], ◌∷◌, ◌++◌, slice_get, Contains, ◌⊎◌, inl, inr, subst, sym, refl, ap, ◌∙◌, Option, Some, None, not-suc-le-zero, append-nil}
use Rattle.std.specs.Bool.{if◌then◌else◌}
use Rattle.std.specs.Option.{option_map_or}
use Rattle.std.proofs.lemmas.Bool.{both_ways, cases_Bool, cases_eq, eq-eqb, ne_eqb}
use Rattle.orc_ids.specs.declared.ids.InstId.{InstId}
use Rattle.orc_ids.specs.declared.ids.UnitId.{UnitId}
use Rattle.session_model.specs.Plain.{UnitRow, is_defunct, is_unsearched, is_emitted, row_test, emitted_at, phase_deps}
use Rattle.graph_walks.specs.Walks.{IsPath}
use Rattle.session_model.specs.Reach.{IsReady, is_hit, deps_at}
use Rattle.session_model.specs.Change.{job_unit}
use Rattle.session_model.specs.declared.rows.InstRow.{InstRow}
use Rattle.session_model.specs.declared.rows.Job.{Job}
use Rattle.session_model.specs.declared.rows.Job.TheVariants as job
use Rattle.session_model.specs.declared.rows.Phase.{Phase}
use Rattle.session_model.specs.declared.rows.Phase.TheVariants as phase
use Rattle.session_model.specs.declared.rows.UnitPhase.{UnitPhase}
use Rattle.session_model.specs.declared.rows.UnitPhase.TheVariants as stage
use Rattle.session_laws.proofs.Paths.{hit_from_test, test_from_hit, reaches_self, reaches_dep}
use Rattle.session_laws.specs.Sound.{is_underway, fits, is_held_phase, due_at, due, its_jobs, AllMatched}

-- A test of a row that is there

pub test_parts : (test : InstRow → Bool) (rows : List InstRow) (i : ℕ) → row_test test rows i ≡ true → (r : InstRow) × (slice_get rows i ≡ Some r) × (test r ≡ true)
test_parts test rows i = split (slice_get rows i) refl
  where
    split : (o : Option InstRow) → slice_get rows i ≡ o → option_map_or test o false ≡ true → (r : InstRow) × (slice_get rows i ≡ Some r) × (test r ≡ true)
    split None e h = absurd (both_ways false refl h)
    split (Some r) e h = (r, e, h)

pub test_is : (test : InstRow → Bool) (rows : List InstRow) (i : ℕ) (r : InstRow) → slice_get rows i ≡ Some r → row_test test rows i ≡ test r
test_is test rows i r e = ap (λ o. option_map_or test o false) e

pub test_from : (test : InstRow → Bool) (rows : List InstRow) (i : ℕ) (r : InstRow) → slice_get rows i ≡ Some r → test r ≡ true → row_test test rows i ≡ true
test_from test rows i r e h = test_is test rows i r e ∙ h

pub deps_parts : (rows : List InstRow) (i j : ℕ) → Contains (deps_at rows i) j → (r : InstRow) × (slice_get rows i ≡ Some r) × Contains (phase_deps r.phase) j
deps_parts rows i j = split (slice_get rows i) refl
  where
    split : (o : Option InstRow) → slice_get rows i ≡ o → Contains (option_map_or (λ (r : InstRow). phase_deps r.phase) o []) j → (r : InstRow) × (slice_get rows i ≡ Some r) × Contains (phase_deps r.phase) j
    split None e c = absurd (not-suc-le-zero c.1)
    split (Some r) e c = (r, e, c)

pub deps_from : (rows : List InstRow) (i j : ℕ) (r : InstRow) → slice_get rows i ≡ Some r → Contains (phase_deps r.phase) j → Contains (deps_at rows i) j
deps_from rows i j r e c = subst (λ o. Contains (option_map_or (λ (x : InstRow). phase_deps x.phase) o []) j) (sym e) c

pub no_dep : (j : ℕ) → Contains [] j → ⊥
no_dep j c = not-suc-le-zero c.1

-- only an emitted instance has dependencies
pub dep_emitted : (p : Phase) (j : ℕ) → Contains (phase_deps p) j → is_emitted p ≡ true
dep_emitted phase.Unsearched j c = absurd (no_dep j c)
dep_emitted phase.Claimed j c = absurd (no_dep j c)
dep_emitted (phase.Resolved a) j c = absurd (no_dep j c)
dep_emitted (phase.Emitted a ds) j c = refl
dep_emitted phase.Failed j c = absurd (no_dep j c)

-- Phases

pub emitted_done : (s : UnitPhase) (p : Phase) → fits s p ≡ true → is_emitted p ≡ true → fits s phase.Failed ≡ true
emitted_done s (phase.Emitted a ds) f e = by_unit s f
  where
    by_unit : (s : UnitPhase) → fits s (phase.Emitted a ds) ≡ true → fits s phase.Failed ≡ true
    by_unit stage.Done f = refl
    by_unit stage.Failed f = refl
    by_unit stage.Unclaimed f = f
    by_unit stage.Listed f = f
    by_unit stage.Started f = f
    by_unit stage.Placed f = f
    by_unit stage.Linking f = f
    by_unit stage.Waiting f = f
    by_unit stage.Linked f = f
    by_unit stage.Finishing f = f
    by_unit stage.Defunct f = f
emitted_done s phase.Unsearched f e = absurd (both_ways false refl e)
emitted_done s phase.Claimed f e = absurd (both_ways false refl e)
emitted_done s (phase.Resolved a) f e = absurd (both_ways false refl e)
emitted_done s phase.Failed f e = f

-- no instance of a held unit is emitted
pub held_unemitted : (s : UnitPhase) (p : Phase) → is_held_phase s ≡ true → fits s p ≡ true → is_emitted p ≡ false
held_unemitted s phase.Unsearched h f = refl
held_unemitted s phase.Claimed h f = refl
held_unemitted s (phase.Resolved a) h f = refl
held_unemitted s phase.Failed h f = refl
held_unemitted s (phase.Emitted a ds) h f = absurd (by_unit s h f)
  where
    by_unit : (s : UnitPhase) → is_held_phase s ≡ true → fits s (phase.Emitted a ds) ≡ true → ⊥
    by_unit stage.Done h f = both_ways false refl h
    by_unit stage.Failed h f = both_ways false refl f
    by_unit stage.Unclaimed h f = both_ways false refl f
    by_unit stage.Listed h f = both_ways false refl f
    by_unit stage.Started h f = both_ways false refl f
    by_unit stage.Placed h f = both_ways false refl f
    by_unit stage.Linking h f = both_ways false refl f
    by_unit stage.Waiting h f = both_ways false refl f
    by_unit stage.Linked h f = both_ways false refl f
    by_unit stage.Finishing h f = both_ways false refl f
    by_unit stage.Defunct h f = both_ways false refl f

pub emitted_settled : (p : Phase) → is_emitted p ≡ true → is_underway p ≡ false
emitted_settled phase.Unsearched e = refl
emitted_settled phase.Claimed e = absurd (both_ways false refl e)
emitted_settled (phase.Resolved a) e = absurd (both_ways false refl e)
emitted_settled (phase.Emitted a ds) e = refl
emitted_settled phase.Failed e = refl

pub unsearched_settled : (p : Phase) → is_unsearched p ≡ true → is_underway p ≡ false
unsearched_settled phase.Unsearched e = refl
unsearched_settled phase.Claimed e = absurd (both_ways false refl e)
unsearched_settled (phase.Resolved a) e = absurd (both_ways false refl e)
unsearched_settled (phase.Emitted a ds) e = refl
unsearched_settled phase.Failed e = refl

-- a unit with an unsearched instance is unclaimed
pub unsearched_unclaimed : (s : UnitPhase) (p : Phase) → fits s p ≡ true → is_unsearched p ≡ true → s ≡ stage.Unclaimed
unsearched_unclaimed s phase.Unsearched f e = by_unit s f
  where
    by_unit : (s : UnitPhase) → fits s phase.Unsearched ≡ true → s ≡ stage.Unclaimed
    by_unit stage.Unclaimed f = refl
    by_unit stage.Done f = absurd (both_ways false refl f)
    by_unit stage.Failed f = absurd (both_ways false refl f)
    by_unit stage.Listed f = absurd (both_ways false refl f)
    by_unit stage.Started f = absurd (both_ways false refl f)
    by_unit stage.Placed f = absurd (both_ways false refl f)
    by_unit stage.Linking f = absurd (both_ways false refl f)
    by_unit stage.Waiting f = absurd (both_ways false refl f)
    by_unit stage.Linked f = absurd (both_ways false refl f)
    by_unit stage.Finishing f = absurd (both_ways false refl f)
    by_unit stage.Defunct f = absurd (both_ways false refl f)
unsearched_unclaimed s phase.Claimed f e = absurd (both_ways false refl e)
unsearched_unclaimed s (phase.Resolved a) f e = absurd (both_ways false refl e)
unsearched_unclaimed s (phase.Emitted a ds) f e = absurd (both_ways false refl e)
unsearched_unclaimed s phase.Failed f e = absurd (both_ways false refl e)

-- Hits

-- what is hit and is no root is emitted
pub hit_emitted : (rows : List InstRow) (roots : ℕ → Bool) (i : ℕ) → is_hit rows roots i ≡ true → roots i ≡ false → emitted_at rows i ≡ true
hit_emitted rows roots i e n = let h = hit_from_test rows roots i e in by_path h.root h.reaches.path h.reaches.leads h.chosen
  where
    by_path : (j : ℕ) (p : List ℕ) → IsPath (deps_at rows) i p j → roots j ≡ true → emitted_at rows i ≡ true
    by_path j [] l c = absurd (both_ways (roots i) n (subst (λ k. roots k ≡ true) (sym l) c))
    by_path j (k ∷ ks) l c = let d = deps_parts rows i k l.0 in test_from (λ r. is_emitted r.phase) rows i d.0 d.1 (dep_emitted d.0.phase k d.2)

-- what depends on a hit instance is hit
pub dep_hit : (rows : List InstRow) (roots : ℕ → Bool) (i j : ℕ) → Contains (deps_at rows i) j → is_hit rows roots j ≡ true → is_hit rows roots i ≡ true
dep_hit rows roots i j c e = let h = hit_from_test rows roots j e in
    test_from_hit rows roots i (record {
      unready = λ r. h.unready (record { each = λ k p. r.each k (reaches_dep rows i j k c p) });
      root = h.root;
      chosen = h.chosen;
      reaches = reaches_dep rows i j h.root c h.reaches;
    })

-- a root that isn't ready is hit
pub root_hit : (rows : List InstRow) (roots : ℕ → Bool) (i : ℕ) → roots i ≡ true → (IsReady rows i → ⊥) → is_hit rows roots i ≡ true
root_hit rows roots i c n = test_from_hit rows roots i (record { unready = n; root = i; chosen = c; reaches = reaches_self rows i })

pub ready_emitted : (rows : List InstRow) (i : ℕ) → IsReady rows i → emitted_at rows i ≡ true
ready_emitted rows i h = h.each i (reaches_self rows i)

-- Matched instances

pub matched_more : (P Q : ℕ → Type 0) → ((i : ℕ) → P i → Q i) → (os : List (Option InstId)) → AllMatched P os → AllMatched Q os
matched_more P Q f [] a = a
matched_more P Q f (None ∷ os) a = matched_more P Q f os a
matched_more P Q f (Some i ∷ os) a = (f i.0 a.0, matched_more P Q f os a.1)

-- Jobs

pub jobs_pushed : (u : ℕ) (js : List Job) (j : Job) → its_jobs u (js ++ j ∷ []) ≡ its_jobs u js ++ (if job_unit j == u then j ∷ [] else [])
jobs_pushed u [] j = refl
jobs_pushed u (i ∷ is) j = split (cases_Bool (job_unit i == u)) (jobs_pushed u is j)
  where
    split : (job_unit i == u ≡ true) ⊎ (job_unit i == u ≡ false) → its_jobs u (is ++ j ∷ []) ≡ its_jobs u is ++ (if job_unit j == u then j ∷ [] else []) → its_jobs u ((i ∷ is) ++ j ∷ []) ≡ its_jobs u (i ∷ is) ++ (if job_unit j == u then j ∷ [] else [])
    split (inl t) ih = rw t (ap (λ xs. i ∷ xs) ih)
    split (inr f) ih = rw f ih

pub jobs_pushed_same : (u : ℕ) (js : List Job) (j : Job) → job_unit j ≡ u → its_jobs u (js ++ j ∷ []) ≡ its_jobs u js ++ j ∷ []
jobs_pushed_same u js j e = jobs_pushed u js j ∙ ap (λ b. its_jobs u js ++ (if b then j ∷ [] else [])) (eq-eqb (job_unit j) u e)

pub jobs_pushed_other : (u : ℕ) (js : List Job) (j : Job) → (job_unit j ≡ u → ⊥) → its_jobs u (js ++ j ∷ []) ≡ its_jobs u js
jobs_pushed_other u js j n = jobs_pushed u js j ∙ (ap (λ b. its_jobs u js ++ (if b then j ∷ [] else [])) (ne_eqb (job_unit j) u n) ∙ append-nil (its_jobs u js))

pub jobs_head_same : (u : ℕ) (j : Job) (js : List Job) → job_unit j ≡ u → its_jobs u (j ∷ js) ≡ j ∷ its_jobs u js
jobs_head_same u j js e = ap (λ b. cond b (j ∷ its_jobs u js) (its_jobs u js)) (eq-eqb (job_unit j) u e)

pub jobs_head_other : (u : ℕ) (j : Job) (js : List Job) → (job_unit j ≡ u → ⊥) → its_jobs u (j ∷ js) ≡ its_jobs u js
jobs_head_other u j js n = ap (λ b. cond b (j ∷ its_jobs u js) (its_jobs u js)) (ne_eqb (job_unit j) u n)

-- dropping the jobs of some units
pub jobs_dropped : (gone : ℕ → Bool) (u : ℕ) (js : List Job) → its_jobs u (filter (λ j. not (gone (job_unit j))) js) ≡ (if gone u then [] else its_jobs u js)
jobs_dropped gone u [] = split (gone u)
  where
    split : (b : Bool) → ◌≡◌ {A = List Job} [] (if b then [] else [])
    split true = refl
    split false = refl
jobs_dropped gone u (j ∷ js) = split (cases_Bool (gone (job_unit j))) (cases_eq (job_unit j) u) (jobs_dropped gone u js)
  where
    split : (gone (job_unit j) ≡ true) ⊎ (gone (job_unit j) ≡ false) → (job_unit j ≡ u) ⊎ (job_unit j ≡ u → ⊥) → its_jobs u (filter (λ i. not (gone (job_unit i))) js) ≡ (if gone u then [] else its_jobs u js) → its_jobs u (filter (λ i. not (gone (job_unit i))) (j ∷ js)) ≡ (if gone u then [] else its_jobs u (j ∷ js))
    split (inl t) (inl e) ih = rw t (ih ∙ (ap (λ b. if b then [] else its_jobs u js) (sym (ap gone e) ∙ t) ∙ ap (λ b. if b then [] else its_jobs u (j ∷ js)) (sym (sym (ap gone e) ∙ t))))
    split (inl t) (inr n) ih = rw t (ih ∙ ap (λ xs. if gone u then [] else xs) (sym (jobs_head_other u j js n)))
    split (inr f) (inl e) ih = rw f (jobs_head_same u j (filter (λ i. not (gone (job_unit i))) js) e ∙ (ap (λ xs. j ∷ xs) (ih ∙ ap (λ b. if b then [] else its_jobs u js) (sym (ap gone e) ∙ f)) ∙ (sym (jobs_head_same u j js e) ∙ ap (λ b. if b then [] else its_jobs u (j ∷ js)) (sym (sym (ap gone e) ∙ f)))))
    split (inr f) (inr n) ih = rw f (jobs_head_other u j (filter (λ i. not (gone (job_unit i))) js) n ∙ (ih ∙ ap (λ xs. if gone u then [] else xs) (sym (jobs_head_other u j js n))))

pub due_some : (u : ℕ) (units : List UnitRow) (x : UnitRow) → slice_get units u ≡ Some x → due u units ≡ due_at u x.phase
due_some u units x e = ap (λ o. option_map_or (λ (y : UnitRow). due_at u y.phase) o []) e

pub due_none : (u : ℕ) (units : List UnitRow) → slice_get units u ≡ None → due u units ≡ []
due_none u units e = ap (λ o. option_map_or (λ (y : UnitRow). due_at u y.phase) o []) e

-- a job that is due tells its unit's phase, and is the only one
pub due_start : (u : ℕ) (units : List UnitRow) (a : UnitId) (js : List Job) → job.Start a ∷ js ≡ due u units → (x : UnitRow) × (slice_get units u ≡ Some x) × (x.phase ≡ stage.Listed) × (js ≡ [])
due_start u units a js = split (slice_get units u) refl
  where
    by_phase : (s : UnitPhase) → job.Start a ∷ js ≡ due_at u s → (s ≡ stage.Listed) × (js ≡ [])
    by_phase stage.Listed e = (refl, cc)
    by_phase stage.Linked e = absurd (cc)
    by_phase _ e = absurd (cc)

    split : (o : Option UnitRow) → slice_get units u ≡ o → job.Start a ∷ js ≡ option_map_or (λ (x : UnitRow). due_at u x.phase) o [] → (x : UnitRow) × (slice_get units u ≡ Some x) × (x.phase ≡ stage.Listed) × (js ≡ [])
    split None e h = absurd (cc)
    split (Some x) e h = let p = by_phase x.phase h in (x, e, p.0, p.1)

pub due_finish : (u : ℕ) (units : List UnitRow) (a : UnitId) (js : List Job) → job.Finish a ∷ js ≡ due u units → (x : UnitRow) × (slice_get units u ≡ Some x) × (x.phase ≡ stage.Linked) × (js ≡ [])
due_finish u units a js = split (slice_get units u) refl
  where
    by_phase : (s : UnitPhase) → job.Finish a ∷ js ≡ due_at u s → (s ≡ stage.Linked) × (js ≡ [])
    by_phase stage.Linked e = (refl, cc)
    by_phase stage.Listed e = absurd (cc)
    by_phase _ e = absurd (cc)

    split : (o : Option UnitRow) → slice_get units u ≡ o → job.Finish a ∷ js ≡ option_map_or (λ (x : UnitRow). due_at u x.phase) o [] → (x : UnitRow) × (slice_get units u ≡ Some x) × (x.phase ≡ stage.Linked) × (js ≡ [])
    split None e h = absurd (cc)
    split (Some x) e h = let p = by_phase x.phase h in (x, e, p.0, p.1)

-- at the phases of work no job is due
pub held_due : (u : ℕ) (s : UnitPhase) → is_held_phase s ≡ true → due_at u s ≡ []
held_due u stage.Listed h = absurd (both_ways false refl h)
held_due u stage.Linked h = absurd (both_ways false refl h)
held_due u stage.Started h = refl
held_due u stage.Placed h = refl
held_due u stage.Linking h = refl
held_due u stage.Finishing h = refl
held_due u stage.Unclaimed h = refl
held_due u stage.Waiting h = refl
held_due u stage.Done h = refl
held_due u stage.Failed h = refl
held_due u stage.Defunct h = refl

-- what is held isn't gone
pub held_alive : (s : UnitPhase) → is_held_phase s ≡ true → is_defunct s ≡ false
held_alive stage.Defunct h = absurd (both_ways false refl h)
held_alive stage.Listed h = refl
held_alive stage.Linked h = refl
held_alive stage.Started h = refl
held_alive stage.Placed h = refl
held_alive stage.Linking h = refl
held_alive stage.Finishing h = refl
held_alive stage.Unclaimed h = refl
held_alive stage.Waiting h = refl
held_alive stage.Done h = refl
held_alive stage.Failed h = refl
