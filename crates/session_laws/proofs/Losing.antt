-- Emitting a unit, failing one and removing a tracker keep the invariant.
use Rattle.std.proofs.Common.{◌≡◌, ℕ, zero, suc, Bool, true, false, not, ◌&&◌, ◌||◌, ◌==◌, map, filter, List, [], ◌∷◌, ◌++◌, slice_get, Contains, ◌⊎◌, inl, inr, subst, sym, refl, ap, ◌∙◌, Option, Some, None, option_map, is_some, unwrap_or}
use Rattle.std.specs.Bool.{if◌then◌else◌}
use Rattle.std.specs.List.{list_any}
use Rattle.std.specs.Option.{option_map_or}
use Rattle.std.proofs.lemmas.Bool.{both_ways, cases_Bool, and_parts, and_from, and_left, and_right, not-true, not-false, not_from_false, false_from_ne_true}
use Rattle.std.proofs.lemmas.Option.{none-some}
use Rattle.orc_ids.specs.declared.ids.InstId.{InstId}
use Rattle.session_model.specs.Lists.{changed_at, numbered}
use Rattle.session_model.specs.Plain.{Plain, UnitRow, is_unsearched, is_failed, is_emitted, is_defunct, is_owned, failed_at, present_at, unsearched_at, phase_deps}
use Rattle.session_model.specs.Reach.{is_hit, is_ready, deps_at}
use Rattle.session_model.specs.Change.{job_unit}
use Rattle.session_model.specs.declared.entry.Reply.TheVariants as reply
use Rattle.session_model.specs.declared.rows.InstRow.{InstRow}
use Rattle.session_model.specs.declared.rows.Job.{Job}
use Rattle.session_model.specs.declared.rows.Phase.{Phase}
use Rattle.session_model.specs.declared.rows.Phase.TheVariants as phase
use Rattle.session_model.specs.declared.rows.UnitPhase.{UnitPhase}
use Rattle.session_model.specs.declared.rows.UnitPhase.TheVariants as stage
use Rattle.orc_ids.specs.declared.groups.Group.{Group}
use Rattle.std.proofs.Common.{flat_map, le_of_suc-le-suc}
use Rattle.std.specs.List.{AllByRecursion}
use Rattle.session_model.specs.Lists.{first_some, only_if, or_else}
use Rattle.session_model.specs.Plain.{phase_address}
use Rattle.session_model.specs.Change.{deps_in, hits_failed, tracker_roots, is_unit_of}
use Rattle.session_model.specs.Plain.{is_owned_at}
use Rattle.session_model.specs.Answer.{bad_dep}
use Rattle.session_laws.proofs.Elements.{map_parts, numbered_at, mapped_at, mapped_parts, mapped_some}
use Rattle.session_laws.proofs.Facts.{test_parts, test_from, test_is, deps_parts, deps_from, no_dep, emitted_done, held_unemitted, emitted_settled, hit_emitted, dep_hit, root_hit, ready_emitted, matched_more, jobs_dropped, due_some, due_none, held_due}
use Rattle.session_laws.proofs.Paths.{ready_from_test, test_from_ready}
use Rattle.session_laws.proofs.Settling.{chosen}
use Rattle.session_laws.proofs.Steps.{stepped}
use Rattle.session_laws.specs.Sound.{row_stage, Sound, IsSound, RowFits, UnitFits, LinkQuery, is_sure, sure_at, searched_at, is_underway, fits, is_held_phase, due_at, due, its_jobs}
use Rattle.std.proofs.lemmas.Bool.{or_parts, and_cases}
use Rattle.list_laws.proofs.Each.{each_weaker}
use Rattle.session_laws.proofs.Changes.{own_jobs, rephased, rephased_step, owned_parts, owned_from}
use Rattle.session_model.specs.declared.rows.Query.{Query}
use Rattle.session_model.specs.Change.{emitted_row, done_unit, failed_unit, removed_row, removed_unit}
use Rattle.session_laws.specs.Sound.{is_early}
use Rattle.session_laws.proofs.RowStages.{row_is, held_row}

-- Emitting

pub none_of_first : {X Y : Type 0} (f : X → Option Y) (xs : List X) → first_some f xs ≡ None → AllByRecursion (λ x. f x ≡ None) xs
none_of_first f [] e = tt
none_of_first {X} {Y} f (x ∷ xs) e = split (f x) refl e (none_of_first f xs)
  where
    split : (o : Option Y) → f x ≡ o → or_else o (first_some f xs) ≡ None → (first_some f xs ≡ None → AllByRecursion (λ x. f x ≡ None) xs) → AllByRecursion (λ x. f x ≡ None) (x ∷ xs)
    split None is h rest = (is, rest h)
    split (Some y) is h rest = absurd (none-some y (sym h))

pub all_appended : {X : Type 0} (P : X → Type 0) (xs ys : List X) → AllByRecursion P (xs ++ ys) → AllByRecursion P xs × AllByRecursion P ys
all_appended P [] ys a = (tt, a)
all_appended P (x ∷ xs) ys a = let p = all_appended P xs ys a.1 in ((a.0, p.0), p.1)

pub deps_in_groups : (P : InstId → Type 0) (groups : List Group) (i : ℕ) → AllByRecursion P (flat_map (λ (g : Group). g.deps) groups) → AllByRecursion P (deps_in groups i)
deps_in_groups P [] i a = tt
deps_in_groups P (g ∷ gs) i a = let p = all_appended P g.deps (flat_map (λ (h : Group). h.deps) gs) a in split p.0 (deps_in_groups P gs i p.1) (list_any (λ (j : InstId). j.0 == i) g.members)
  where
    split : AllByRecursion P g.deps → AllByRecursion P (deps_in gs i) → (b : Bool) → AllByRecursion P (unwrap_or (or_else (only_if b g.deps) (first_some (λ (h : Group). only_if (list_any (λ (j : InstId). j.0 == i) h.members) h.deps) gs)) [])
    split mine rest true = mine
    split mine rest false = rest

pub numbers_all : (Q : ℕ → Type 0) (ds : List InstId) (j : ℕ) → AllByRecursion (λ (i : InstId). Q i.0) ds → Contains (map (λ (i : InstId). i.0) ds) j → Q j
numbers_all Q [] j a c = absurd (no_dep j c)
numbers_all Q (d ∷ ds) j a (zero, b, is) = subst Q is a.0
numbers_all Q (d ∷ ds) j a (suc k, b, is) = numbers_all Q ds j a.1 (k, le_of_suc-le-suc b, is)

-- what isn't a bad dependency is sure
good_dep : (rows : List InstRow) (i : InstId) → only_if (failed_at rows i.0 || not (present_at rows i.0) || unsearched_at rows i.0) (reply.BadDep i) ≡ None → sure_at rows i.0 ≡ true
good_dep rows i e = by_tests (or_parts (failed_at rows i.0 || not (present_at rows i.0)) (unsearched_at rows i.0) (passed (failed_at rows i.0 || not (present_at rows i.0) || unsearched_at rows i.0) e))
  where
    passed : (b : Bool) → only_if b (reply.BadDep i) ≡ None → b ≡ false
    passed true h = absurd (none-some (reply.BadDep i) (sym h))
    passed false h = refl

    by_tests : (failed_at rows i.0 || not (present_at rows i.0) ≡ false) × (unsearched_at rows i.0 ≡ false) → sure_at rows i.0 ≡ true
    by_tests p = let q = or_parts (failed_at rows i.0) (not (present_at rows i.0)) p.0 in
        let r = test_parts (λ (r : InstRow). r.present) rows i.0 (not-false (present_at rows i.0) q.1) in
        test_from is_sure rows i.0 r.0 r.1 (and_from (not (is_unsearched r.0.phase)) (not (is_failed r.0.phase))
        (not_from_false (is_unsearched r.0.phase) (sym (test_is (λ (x : InstRow). is_unsearched x.phase) rows i.0 r.0 r.1) ∙ p.1))
        (not_from_false (is_failed r.0.phase) (sym (test_is (λ (x : InstRow). is_failed x.phase) rows i.0 r.0 r.1) ∙ q.0)))

pub good_deps : (rows : List InstRow) (groups : List Group) → bad_dep rows groups ≡ None → AllByRecursion (λ (i : InstId). sure_at rows i.0 ≡ true) (flat_map (λ (g : Group). g.deps) groups)
good_deps rows groups e = each_weaker (λ (i : InstId). only_if (failed_at rows i.0 || not (present_at rows i.0) || unsearched_at rows i.0) (reply.BadDep i) ≡ None) (λ (i : InstId). sure_at rows i.0 ≡ true) (good_dep rows) (flat_map (λ (g : Group). g.deps) groups)
    (none_of_first (λ (i : InstId). only_if (failed_at rows i.0 || not (present_at rows i.0) || unsearched_at rows i.0) (reply.BadDep i)) (flat_map (λ (g : Group). g.deps) groups) e)

pub sound_emitted : (rows : List InstRow) (units : List UnitRow) (queries : List Query) (jobs : List Job) (u : ℕ) (groups : List Group) (x : UnitRow) → Sound rows units queries jobs → slice_get units u ≡ Some x → x.phase ≡ stage.Finishing → bad_dep rows groups ≡ None →
    Sound (numbered (emitted_row u groups) 0 rows) (changed_at u done_unit units) queries jobs
sound_emitted rows units queries jobs u groups x s t p good = stepped rows units queries jobs (numbered (rephased (λ i r. is_owned u r) next) 0 rows) (rephased (λ i r. is_owned u r) next) jobs u x done_unit s
    (rephased_step rows units queries jobs (numbered (rephased (λ i r. is_owned u r) next) 0 rows) (λ i r. is_owned u r) next jobs u x (done_unit x) t
    (record {
      at = at;
      owned = λ i r e. e;
      fit = λ i r o f. subst (λ q. fits q (if is_owned u r then next i r else r.phase) ≡ true) (sym (row_is (done_unit x) stage.Done refl refl)) (chosen (λ q. fits stage.Done q ≡ true) (is_owned u r) (next i r) r.phase (λ b. refl) (λ b. absurd (both_ways (is_owned u r) b o)));
      searched = λ i r. refl;
      deps = deps;
    })
    (record { seat = λ n. refl; waits = λ w. absurd (cc); early = λ e. absurd (both_ways false refl e) })
    (own_jobs rows units queries jobs u x s t ∙ ap (due_at u) p)
    (λ v n. refl))
  where
    next : ℕ → InstRow → Phase
    next i r = phase.Emitted (unwrap_or (phase_address r.phase) 0) (deps_in groups i)

    at : (i : ℕ) → slice_get (numbered (rephased (λ i r. is_owned u r) next) 0 rows) i ≡ option_map (rephased (λ i r. is_owned u r) next i) (slice_get rows i)
    at i = numbered_at (rephased (λ i r. is_owned u r) next) rows i

    stays : (i : ℕ) → sure_at rows i ≡ true → sure_at (numbered (rephased (λ i r. is_owned u r) next) 0 rows) i ≡ true
    stays i h = let q = test_parts is_sure rows i h in
        test_from is_sure (numbered (rephased (λ i r. is_owned u r) next) 0 rows) i (rephased (λ i r. is_owned u r) next i q.0) (at i ∙ ap (option_map (rephased (λ i r. is_owned u r) next i)) q.1)
        (chosen (λ f. is_sure (record (q.0) { phase = f }) ≡ true) (is_owned u q.0) (next i q.0) q.0.phase (λ b. refl) (λ b. q.2))

    deps : (i j : ℕ) → Contains (deps_at (numbered (rephased (λ i r. is_owned u r) next) 0 rows) i) j → sure_at (numbered (rephased (λ i r. is_owned u r) next) 0 rows) j ≡ true
    deps i j c = found (deps_parts (numbered (rephased (λ i r. is_owned u r) next) 0 rows) i j c)
      where
        old : (r : InstRow) → slice_get rows i ≡ Some r → Contains (phase_deps (rephased (λ i r. is_owned u r) next i r).phase) j → sure_at rows j ≡ true
        old r e = chosen (λ f. Contains (phase_deps f) j → sure_at rows j ≡ true) (is_owned u r) (next i r) r.phase
            (λ b d. numbers_all (λ k. sure_at rows k ≡ true) (deps_in groups i) j (deps_in_groups (λ (k : InstId). sure_at rows k.0 ≡ true) groups i (good_deps rows groups good)) d)
            (λ b d. s.deps i j (deps_from rows i j r e d))

        found : (r : InstRow) × (slice_get (numbered (rephased (λ i r. is_owned u r) next) 0 rows) i ≡ Some r) × Contains (phase_deps r.phase) j → sure_at (numbered (rephased (λ i r. is_owned u r) next) 0 rows) j ≡ true
        found q = let r = map_parts (rephased (λ i r. is_owned u r) next i) (slice_get rows i) q.0 (sym (at i) ∙ q.1) in
            stays j (old r.0 r.1 (subst (λ (y : InstRow). Contains (phase_deps y.phase) j) r.2 q.2))

-- Failing and removing

-- where the hit instances fail, each recorded dependency is sure still
pub hit_deps : (rows new : List InstRow) (g : ℕ → InstRow → InstRow) (roots : ℕ → Bool) → ((i : ℕ) → slice_get new i ≡ option_map (g i) (slice_get rows i)) →
    ((i : ℕ) (r : InstRow) → (g i r).phase ≡ (if is_hit rows roots i then phase.Failed else r.phase)) →
    ((i j : ℕ) → Contains (deps_at rows i) j → sure_at rows j ≡ true) →
    (i j : ℕ) → Contains (deps_at new i) j → sure_at new j ≡ true
hit_deps rows new g roots at phase_is old i j c = found (deps_parts new i j c)
  where
    unhit : (r : InstRow) → slice_get rows i ≡ Some r → Contains (phase_deps (if is_hit rows roots i then phase.Failed else r.phase)) j → (is_hit rows roots i ≡ false) × Contains (deps_at rows i) j
    unhit r e = chosen (λ f. Contains (phase_deps f) j → (is_hit rows roots i ≡ false) × Contains (deps_at rows i) j) (is_hit rows roots i) phase.Failed r.phase
        (λ b d. absurd (no_dep j d)) (λ b d. (b, deps_from rows i j r e d))

    kept : (is_hit rows roots i ≡ false) × Contains (deps_at rows i) j → sure_at new j ≡ true
    kept p = let q = test_parts is_sure rows j (old i j p.1) in
        test_from is_sure new j (g j q.0) (at j ∙ ap (option_map (g j)) q.1)
        (subst (λ f. not (is_unsearched f) && not (is_failed f) ≡ true) (sym (phase_is j q.0))
        (chosen (λ f. not (is_unsearched f) && not (is_failed f) ≡ true) (is_hit rows roots j) phase.Failed q.0.phase
        (λ b. absurd (both_ways (is_hit rows roots i) p.0 (dep_hit rows roots i j p.1 b))) (λ b. q.2)))

    found : (r : InstRow) × (slice_get new i ≡ Some r) × Contains (phase_deps r.phase) j → sure_at new j ≡ true
    found q = let r = map_parts (g i) (slice_get rows i) q.0 (sym (at i) ∙ q.1) in
        kept (unhit r.0 r.1 (subst (λ f. Contains (phase_deps f) j) (ap (λ (y : InstRow). y.phase) r.2 ∙ phase_is i r.0) q.2))

root_is : (u : ℕ) (rows : List InstRow) (i : ℕ) (r : InstRow) → slice_get rows i ≡ Some r → is_owned_at u rows i ≡ is_owned u r
root_is u rows i r e = ap (λ o. option_map_or (is_owned u) o false) e

pub sound_failed : (rows : List InstRow) (units : List UnitRow) (queries : List Query) (jobs : List Job) (u : ℕ) (x : UnitRow) (seat : ℕ) → Sound rows units queries jobs → slice_get units u ≡ Some x → is_defunct x.phase ≡ false → x.seat ≡ Some seat →
    Sound (hits_failed (is_owned_at u rows) rows) (changed_at u failed_unit units) queries jobs
sound_failed rows units queries jobs u x seat s t alive holds = stepped rows units queries jobs (hits_failed roots rows) g jobs u x failed_unit s (record {
  there = t;
  at = numbered_at g rows;
  same = λ i r. (refl, refl);
  mine = λ i r e h is f. subst (λ q. fits q (if is_hit rows roots i then phase.Failed else r.phase) ≡ true) (sym (row_is (failed_unit x) stage.Failed refl refl)) (chosen (λ p. fits stage.Failed p ≡ true) (is_hit rows roots i) phase.Failed r.phase (λ b. refl)
      (λ b. absurd (both_ways (is_hit rows roots i) b (root_hit rows roots i (root_is u rows i r e ∙ owned_from u r h is)
      (λ ready. both_ways (is_emitted r.phase) (held_unemitted (row_stage x) r.phase (held_row x held) f) (sym (test_is (λ (y : InstRow). is_emitted y.phase) rows i r e) ∙ ready_emitted rows i ready))))));
  other = λ i r e h apart st f. chosen (λ p. fits st p ≡ true) (is_hit rows roots i) phase.Failed r.phase
      (λ b. emitted_done st r.phase f (sym (test_is (λ (y : InstRow). is_emitted y.phase) rows i r e) ∙ hit_emitted rows roots i b (false_from_ne_true (roots i) (λ c. apart (owned_parts u r (sym (root_is u rows i r e) ∙ c)).1)))) (λ b. f);
  gone = λ i r e h n. chosen (λ p. is_underway p ≡ false) (is_hit rows roots i) phase.Failed r.phase (λ b. refl) (λ b. n);
  deps = hit_deps rows (hits_failed roots rows) g roots (numbered_at g rows) (λ i r. refl) s.deps;
  searched = λ i r e h. chosen (λ p. not (is_unsearched p) ≡ true) (is_hit rows roots i) phase.Failed r.phase (λ b. refl) (λ b. h);
  unit = record { seat = λ n. refl; waits = λ w. absurd (cc); early = λ e. absurd (both_ways false refl e) };
  own = own_jobs rows units queries jobs u x s t ∙ held_due u x.phase held;
  others = λ v n. refl;
})
  where
    roots : ℕ → Bool
    roots = is_owned_at u rows

    g : ℕ → InstRow → InstRow
    g i r = record r { phase = if is_hit rows roots i then phase.Failed else r.phase }

    held : is_held_phase x.phase ≡ true
    held = sym ((s.units_fit u x t).seat alive) ∙ ap is_some holds

pub unit_of_is : (m : Plain) (t v : ℕ) (x : UnitRow) → slice_get m.units v ≡ Some x → is_unit_of m t v ≡ (x.tracker == t)
unit_of_is m t v x e = ap (λ o. option_map_or (λ w. w == t) (option_map (λ (y : UnitRow). y.tracker) o) false) e

-- a unit of another tracker stays
pub unremoved : (t : ℕ) (x : UnitRow) → (x.tracker == t) ≡ false → removed_unit t x ≡ x
unremoved t x e = ap (λ b. record x { phase = if b then stage.Defunct else x.phase; base = if b then None else x.base }) e

pub sound_removed : (m : Plain) (t : ℕ) → IsSound m →
    Sound (map (removed_row m t) (hits_failed (tracker_roots m t) m.rows)) (map (removed_unit t) m.units)
    m.queries (filter (λ j. not (is_unit_of m t (job_unit j))) m.jobs)
sound_removed m t s = record { rows_fit = rows_fit; deps = hit_deps m.rows new g roots at (λ i r. refl) s.deps; units_fit = units_fit; jobs_due = jobs_due; searched = λ k q e. matched_more (λ i. searched_at m.rows i ≡ true) (λ i. searched_at new i ≡ true) searched q.matched (s.searched k q e) }
  where
    roots : ℕ → Bool
    roots = tracker_roots m t

    h : UnitRow → UnitRow
    h = removed_unit t

    hit : ℕ → InstRow → InstRow
    hit i r = record r { phase = if is_hit m.rows roots i then phase.Failed else r.phase }

    go : InstRow → InstRow
    go = removed_row m t

    g : ℕ → InstRow → InstRow
    g i r = go (hit i r)

    new : List InstRow
    new = map go (hits_failed roots m.rows)

    at : (i : ℕ) → slice_get new i ≡ option_map (g i) (slice_get m.rows i)
    at i = mapped_at go (hits_failed roots m.rows) i ∙ (ap (option_map go) (numbered_at hit m.rows i) ∙ twice (slice_get m.rows i))
      where
        twice : (o : Option InstRow) → option_map go (option_map (hit i) o) ≡ option_map (g i) o
        twice None = refl
        twice (Some r) = refl

    root_at : (i : ℕ) (r : InstRow) → slice_get m.rows i ≡ Some r → roots i ≡ ((r.present && is_unit_of m t r.unit.0) && not (is_ready m.rows i))
    root_at i r e = ap (λ o. option_map_or (λ (y : InstRow). y.present && is_unit_of m t y.unit.0) o false && not (is_ready m.rows i)) e

    searched : (i : ℕ) → searched_at m.rows i ≡ true → searched_at new i ≡ true
    searched i e = let p = test_parts (λ (r : InstRow). not (is_unsearched r.phase)) m.rows i e in
        test_from (λ (r : InstRow). not (is_unsearched r.phase)) new i (g i p.0) (at i ∙ ap (option_map (g i)) p.1)
        (chosen (λ f. not (is_unsearched f) ≡ true) (is_hit m.rows roots i) phase.Failed p.0.phase (λ b. refl) (λ b. p.2))

    row_at : (i : ℕ) (r : InstRow) → slice_get m.rows i ≡ Some r → RowFits (map h m.units) (g i r)
    row_at i r e = record { here = λ p. here (and_parts r.present (not (is_unit_of m t r.unit.0)) p); gone = λ n. chosen (λ f. is_underway f ≡ false) (is_hit m.rows roots i) phase.Failed r.phase (λ b. refl) (λ b. gone b (cases_Bool r.present) (and_cases r.present (not (is_unit_of m t r.unit.0)) n)) }
      where
        here : (r.present ≡ true) × (not (is_unit_of m t r.unit.0) ≡ true) → (x : UnitRow) × (slice_get (map h m.units) r.unit.0 ≡ Some x) × (fits (row_stage x) (if is_hit m.rows roots i then phase.Failed else r.phase) ≡ true)
        here p = let x = (s.rows_fit i r e).here p.0 in (
          h x.0,
          mapped_some h m.units r.unit.0 x.0 x.1,
          subst (λ (y : UnitRow). fits (row_stage y) (if is_hit m.rows roots i then phase.Failed else r.phase) ≡ true) (sym (unremoved t x.0 (sym (unit_of_is m t r.unit.0 x.0 x.1) ∙ not-true (is_unit_of m t r.unit.0) p.1)))
              (chosen (λ f. fits (row_stage x.0) f ≡ true) (is_hit m.rows roots i) phase.Failed r.phase
              (λ k. emitted_done (row_stage x.0) r.phase x.2 (sym (test_is (λ (y : InstRow). is_emitted y.phase) m.rows i r e) ∙ hit_emitted m.rows roots i k
              (root_at i r e ∙ and_left (r.present && is_unit_of m t r.unit.0) (not (is_ready m.rows i)) (and_right r.present (is_unit_of m t r.unit.0) (not-true (is_unit_of m t r.unit.0) p.1)))))
              (λ k. x.2)),
        )

        gone : is_hit m.rows roots i ≡ false → (r.present ≡ true) ⊎ (r.present ≡ false) → (r.present ≡ false) ⊎ (not (is_unit_of m t r.unit.0) ≡ false) → is_underway r.phase ≡ false
        gone b (inr n) c = (s.rows_fit i r e).gone n
        gone b (inl p) (inl n) = (s.rows_fit i r e).gone n
        gone b (inl p) (inr n) = ready (cases_Bool (is_ready m.rows i))
          where
            ready : (is_ready m.rows i ≡ true) ⊎ (is_ready m.rows i ≡ false) → is_underway r.phase ≡ false
            ready (inl y) = emitted_settled r.phase (sym (test_is (λ (z : InstRow). is_emitted z.phase) m.rows i r e) ∙ ready_emitted m.rows i (ready_from_test m.rows i y))
            ready (inr y) = absurd (both_ways (is_hit m.rows roots i) b (root_hit m.rows roots i
                (root_at i r e ∙ and_from (r.present && is_unit_of m t r.unit.0) (not (is_ready m.rows i)) (and_from r.present (is_unit_of m t r.unit.0) p (not-false (is_unit_of m t r.unit.0) n)) (not_from_false (is_ready m.rows i) y))
                (λ z. both_ways (is_ready m.rows i) y (test_from_ready m.rows i z))))

    rows_fit : (i : ℕ) (r : InstRow) → slice_get new i ≡ Some r → RowFits (map h m.units) r
    rows_fit i r e = let p = map_parts (g i) (slice_get m.rows i) r (sym (at i) ∙ e) in subst (RowFits (map h m.units)) (sym p.2) (row_at i p.0 p.1)

    unit_at : (u : ℕ) (x : UnitRow) → slice_get m.units u ≡ Some x → UnitFits m.queries u (h x)
    unit_at u x e = record {
      seat = chosen (λ p. is_defunct p ≡ false → is_some x.seat ≡ is_held_phase p) (x.tracker == t) stage.Defunct x.phase (λ b d. absurd (both_ways true d refl)) (λ b d. (s.units_fit u x e).seat d);
      waits = chosen (λ p. p ≡ stage.Waiting → LinkQuery m.queries u (h x)) (x.tracker == t) stage.Defunct x.phase (λ b w. absurd (cc))
          (λ b w. let l = (s.units_fit u x e).waits w in record { number = l.number; query = l.query; its = l.its; there = l.there; links = l.links; level = l.level });
      early = early (x.tracker == t);
    }
      where
        early : (b : Bool) → is_early (if b then stage.Defunct else x.phase) ≡ true → (if b then None else x.base) ≡ None
        early true a = refl
        early false a = (s.units_fit u x e).early a

    units_fit : (u : ℕ) (y : UnitRow) → slice_get (map h m.units) u ≡ Some y → UnitFits m.queries u y
    units_fit u y e = let p = mapped_parts h m.units u y e in subst (UnitFits m.queries u) (sym p.2) (unit_at u p.0 p.1)

    jobs_due : (u : ℕ) → its_jobs u (filter (λ j. not (is_unit_of m t (job_unit j))) m.jobs) ≡ due u (map h m.units)
    jobs_due u = jobs_dropped (is_unit_of m t) u m.jobs ∙ split (slice_get m.units u) refl
      where
        by_tracker : (b : Bool) (p : UnitPhase) → (if b then [] else due_at u p) ≡ due_at u (if b then stage.Defunct else p)
        by_tracker true p = refl
        by_tracker false p = refl

        same : (b : Bool) → ◌≡◌ {A = List Job} (if b then [] else []) []
        same true = refl
        same false = refl

        split : (o : Option UnitRow) → slice_get m.units u ≡ o → (if is_unit_of m t u then [] else its_jobs u m.jobs) ≡ due u (map h m.units)
        split None e = ap (λ l. if is_unit_of m t u then [] else l) (s.jobs_due u ∙ due_none u m.units e) ∙ (same (is_unit_of m t u) ∙ sym (due_none u (map h m.units) (mapped_at h m.units u ∙ ap (option_map h) e)))
        split (Some x) e = ap (λ l. if is_unit_of m t u then [] else l) (s.jobs_due u ∙ due_some u m.units x e) ∙ (ap (λ b. if b then [] else due_at u x.phase) (unit_of_is m t u x e) ∙ (by_tracker (x.tracker == t) x.phase ∙ sym (due_some u (map h m.units) (h x) (mapped_some h m.units u x e))))
