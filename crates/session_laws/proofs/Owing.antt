-- Where a query is open, work is owed.
use Rattle.std.proofs.Common.{Contains, zero-lt-suc, suc-le-suc}
use Rattle.std.specs.Prelude.{is_none}
use Rattle.session_model.specs.Plain.{is_alias}
use Rattle.session_model.specs.Chain.{chain_next, matched_instances}
use Rattle.session_laws.specs.Chains.{Ends, Stops, AllEnd}
use Rattle.session_laws.specs.Sound.{LinkQuery, is_unbased, row_stage}
use Rattle.session_laws.proofs.Following.{next_from, chains_end}
use Rattle.session_laws.proofs.RowStages.{stage_of}
use Rattle.std.proofs.Common.{◌≡◌, ℕ, zero, suc, ◌+◌, Bool, true, false, not, ◌&&◌, ◌==◌, cond, List, [], ◌∷◌, length, slice_get, ◌⊎◌, inl, inr, subst, sym, refl, ap, ◌∙◌, Option, Some, None, is_some}
use Rattle.std.specs.Bool.{if◌then◌else◌}
use Rattle.std.specs.List.{list_any}
use Rattle.std.specs.Option.{option_map_or}
use Rattle.std.proofs.lemmas.Bool.{both_ways, cases_Bool, and_parts, and_from, or_left, or_right, not-true, not-false, not_from_false, false_from_ne_true}
use Rattle.std.proofs.lemmas.Option.{none-some, same_Some}
use Rattle.orc_ids.specs.declared.ids.InstId.{InstId}
use Rattle.session_model.specs.Plain.{Plain, UnitRow, is_unsearched, is_failed, is_emitted, is_defunct, emitted_at}
use Rattle.session_model.specs.Reach.{is_ready}
use Rattle.session_model.specs.Change.{job_unit}
use Rattle.session_model.specs.declared.rows.InstRow.{InstRow}
use Rattle.session_model.specs.declared.rows.Job.{Job}
use Rattle.session_model.specs.declared.rows.Job.TheVariants as job
use Rattle.session_model.specs.declared.rows.Phase.{Phase}
use Rattle.session_model.specs.declared.rows.Phase.TheVariants as phase
use Rattle.session_model.specs.declared.rows.UnitPhase.{UnitPhase}
use Rattle.session_model.specs.declared.rows.UnitPhase.TheVariants as stage
use Rattle.orc_ids.specs.declared.lookup.Level.TheVariants as level
use Rattle.std.proofs.Common.{arith, ◌<◌}
use Rattle.session_model.specs.Plain.{phase_address}
use Rattle.session_model.specs.Change.{settled, finish_listed, waits_for}
use Rattle.session_laws.proofs.Elements.{changed_cases, changed_some, same_element}
use Rattle.session_laws.proofs.Facts.{test_parts, test_from, test_is, due_some}
use Rattle.session_laws.proofs.Settling.{chosen}
use Rattle.session_laws.specs.Sound.{row_stage, IsSound, is_sure, sure_at, searched_at, is_underway, fits, is_held_phase, due_at, its_jobs, AllMatched}
use Rattle.std.proofs.lemmas.Bool.{or_parts, and_cases}
use Rattle.orc_ids.specs.declared.lookup.Level.{Level}
use Rattle.session_model.specs.Meaning.{Meaning}
use Rattle.session_model.specs.Query.{is_met}
use Rattle.session_model.specs.Change.{settled_from}
use Rattle.session_laws.proofs.Settling.{settling_keeps}
use Rattle.session_model.specs.Query.{all_at}
use Rattle.session_model.specs.Change.{change_of, changed}
use Rattle.session_model.specs.declared.entry.Entry.{Entry}
use Rattle.session_model.specs.Plain.{empty}
use Rattle.session_model.specs.State.{after, state, state_from}
use Rattle.session_model.specs.Reach.{Reaches}
use Rattle.session_laws.proofs.Paths.{closed_reached}
use Rattle.session_laws.proofs.Invariant.{legal_is_sound}
use Rattle.session_laws.proofs.Settling.{settled_rows, settled_queries}
use Rattle.std.proofs.Common.{le_refl}
use Rattle.std.proofs.lemmas.List.{take_all}
use Rattle.session_model.specs.Plain.{phase_address}
use Rattle.session_model.specs.Query.{at_level, is_lost, first_lost}
use Rattle.session_laws.proofs.Ending.{query_was_asked}
use Rattle.std.proofs.Common.{sum_by}
use Rattle.std.proofs.lemmas.List.Sums.{sum_by-cons}
use Rattle.session_model.proofs.Units.{waiting_from}
use Rattle.session_model.specs.Change.{settled_one}
use Rattle.session_model.specs.Owed.{IsOwed}
use Rattle.session_laws.proofs.Defining.{waiting_parts}
use Rattle.session_laws.proofs.Settling.{settled_one_keeps}
use Rattle.session_laws.proofs.Paths.{row_walks}
use Rattle.session_laws.proofs.Meeting.{NoneLost, none_lost, none_some, unlost_parts}
use Rattle.session_laws.specs.Work.{WorkIsOwed, IdleHasNoOpenQuery, NoneWaitsForMet}
use Rattle.session_model.specs.declared.rows.Query.{Query}

-- No unit waits for a query that is met

listing_keeps : (u k v : ℕ) (m : Plain) → waits_for m u k ≡ false → waits_for (finish_listed v m) u k ≡ false
listing_keeps u k v m n = false_from_ne_true (waits_for (finish_listed v m) u k) (λ w. clash (waiting_parts (finish_listed v m) u k w))
  where
    clash : (x : UnitRow) × (slice_get (finish_listed v m).units u ≡ Some x) × (x.phase ≡ stage.Waiting) × (x.query ≡ Some k) → ⊥
    clash p = split (changed_cases v (λ y. record y { phase = stage.Linked }) m.units u p.0 p.1)
      where
        split : ((u ≡ v) × ((x : UnitRow) × (slice_get m.units u ≡ Some x) × (p.0 ≡ record x { phase = stage.Linked }))) ⊎ ((u ≡ v → ⊥) × (slice_get m.units u ≡ Some p.0)) → ⊥
        split (inl a) = let e : stage.Linked ≡ stage.Waiting = sym (ap (λ (y : UnitRow). y.phase) a.1.2) ∙ p.2 in cc
        split (inr a) = both_ways (waits_for m u k) n (waiting_from m u k p.0 a.1 p.2 p.3)

listing_ends : (u k : ℕ) (m : Plain) → waits_for m u k ≡ true → waits_for (finish_listed u m) u k ≡ false
listing_ends u k m w = false_from_ne_true (waits_for (finish_listed u m) u k) (λ v. clash (waiting_parts m u k w) (waiting_parts (finish_listed u m) u k v))
  where
    clash : (x : UnitRow) × (slice_get m.units u ≡ Some x) × (x.phase ≡ stage.Waiting) × (x.query ≡ Some k) → (x : UnitRow) × (slice_get (finish_listed u m).units u ≡ Some x) × (x.phase ≡ stage.Waiting) × (x.query ≡ Some k) → ⊥
    clash p q = let is = same_element (slice_get (finish_listed u m).units u) (record (p.0) { phase = stage.Linked }) q.0 (changed_some u (λ y. record y { phase = stage.Linked }) m.units p.0 p.1) q.1 in
        let e : stage.Linked ≡ stage.Waiting = ap (λ (y : UnitRow). y.phase) is ∙ q.2 in cc

settling_leaves : (u k j : ℕ) (qs : List Query) (m : Plain) → waits_for m u k ≡ false → waits_for (settled_from j qs m) u k ≡ false
settling_leaves u k j qs m n = settling_keeps (λ a. waits_for a u k ≡ false) (λ v l q a p w b e. listing_keeps u k v a p) j qs m n

one_ends : (u k : ℕ) (q : Query) (m : Plain) → q.unit ≡ Some u → is_met m.rows q ≡ true → waits_for (settled_one k q m) u k ≡ false
one_ends u k q m e met = subst (λ o. waits_for (option_map_or (λ v. if is_met m.rows q && waits_for m v k then finish_listed v m else m) o m) u k ≡ false) (sym e)
    (chosen (λ n. waits_for n u k ≡ false) (is_met m.rows q && waits_for m u k) (finish_listed u m) m
    (λ b. listing_ends u k m (and_parts (is_met m.rows q) (waits_for m u k) b).1)
    (λ b. false_from_ne_true (waits_for m u k) (λ w. both_ways (is_met m.rows q && waits_for m u k) b (and_from (is_met m.rows q) (waits_for m u k) met w))))

pub one_rows : (k : ℕ) (q : Query) (m : Plain) → (settled_one k q m).rows ≡ m.rows
one_rows k q m = settled_one_keeps (λ n. n.rows ≡ m.rows) (λ u l p n r w b e. r) k q m refl

settling_ends : (u j i n : ℕ) (qs : List Query) (q : Query) (m : Plain) → n ≡ j + i → slice_get qs i ≡ Some q → q.unit ≡ Some u → is_met m.rows q ≡ true → waits_for (settled_from j qs m) u n ≡ false
settling_ends u j i n [] q m is t e met = absurd (none-some q t)
settling_ends u j zero n (p ∷ ps) q m is t e met = settling_leaves u n (j + 1) ps (settled_one j p m)
    (subst (λ k. waits_for (settled_one j p m) u k ≡ false) at (one_ends u j p m (ap (λ (r : Query). r.unit) same ∙ e) (ap (is_met m.rows) same ∙ met)))
  where
    at : j ≡ n
    at = omega (arith, is)

    same : p ≡ q
    same = same_Some p q t
settling_ends u j (suc i) n (p ∷ ps) q m is t e met = settling_ends u (j + 1) i n ps q (settled_one j p m) (omega (arith, is)) t e (ap (λ rows. is_met rows q) (one_rows j p m) ∙ met)

abbrev pub NoMetWaits : Plain → Type 0
NoMetWaits m = (u k : ℕ) (q : Query) → slice_get m.queries k ≡ Some q → q.unit ≡ Some u → is_met m.rows q ≡ true → waits_for m u k ≡ false

settled_waits : (m : Plain) → NoMetWaits (settled m)
settled_waits m u k q t e met = settling_ends u 0 k k m.queries q m (omega arith) (ap (λ l. slice_get l k) (sym (settled_queries m)) ∙ t) e (ap (λ rows. is_met rows q) (sym (settled_rows m)) ∙ met)

waits_from : (m : Plain) (h : List (Entry Meaning)) → NoMetWaits m → NoMetWaits (state_from m h)
waits_from m [] w = w
waits_from m (e ∷ es) w = waits_from (after m e) es (settled_waits (changed (change_of m e.seat.0 e.event e.reply) m))

pub no_met_waits : (h : List (Entry Meaning)) → NoMetWaits (state h)
no_met_waits h = waits_from empty h (λ u k q t. absurd (none-some q t))

-- Work by a unit's phase

listed_job : (u : ℕ) (js : List Job) (j : Job) (rest : List Job) → its_jobs u js ≡ j ∷ rest → list_any (λ (i : Job). job_unit i == u) js ≡ true
listed_job u [] j rest e = absurd (cc)
listed_job u (i ∷ is) j rest e = split (cases_Bool (job_unit i == u)) (listed_job u is j rest)
  where
    split : (job_unit i == u ≡ true) ⊎ (job_unit i == u ≡ false) → (its_jobs u is ≡ j ∷ rest → list_any (λ (k : Job). job_unit k == u) is ≡ true) → list_any (λ (k : Job). job_unit k == u) (i ∷ is) ≡ true
    split (inl t) later = or_left (job_unit i == u) (list_any (λ (k : Job). job_unit k == u) is) t
    split (inr f) later = or_right (job_unit i == u) (list_any (λ (k : Job). job_unit k == u) is) (later (subst (λ b. cond b (i ∷ its_jobs u is) (its_jobs u is) ≡ j ∷ rest) f e))

owed_job : (m : Plain) (u : ℕ) (x : UnitRow) (j : Job) → IsSound m → slice_get m.units u ≡ Some x → due_at u x.phase ≡ j ∷ [] → IsOwed m
owed_job m u x j s t d = record { number = u; unit = x; there = t; work = inl (listed_job u m.jobs j [] (s.jobs_due u ∙ (due_some u m.units x t ∙ d))) }

owed_held : (m : Plain) (u : ℕ) (x : UnitRow) → IsSound m → slice_get m.units u ≡ Some x → is_defunct x.phase ≡ false → is_held_phase x.phase ≡ true → IsOwed m
owed_held m u x s t d h = record { number = u; unit = x; there = t; work = inr ((s.units_fit u x t).seat d ∙ h) }

underway_here : (m : Plain) (i : ℕ) (r : InstRow) → IsSound m → slice_get m.rows i ≡ Some r → is_underway r.phase ≡ true → (x : UnitRow) × (slice_get m.units r.unit.0 ≡ Some x) × (fits (row_stage x) r.phase ≡ true)
underway_here m i r s e w = split (cases_Bool r.present)
  where
    split : (r.present ≡ true) ⊎ (r.present ≡ false) → (x : UnitRow) × (slice_get m.units r.unit.0 ≡ Some x) × (fits (row_stage x) r.phase ≡ true)
    split (inl p) = (s.rows_fit i r e).here p
    split (inr n) = absurd (both_ways (is_underway r.phase) ((s.rows_fit i r e).gone n) w)

-- an unmet query

-- an instance that isn't at the level yet
pub record IsBehind (rows : List InstRow) (lev : Level) (os : List (Option InstId)) : Type 0 where
  pub number : ℕ
  pub matched : Contains (matched_instances os) number
  pub behind : at_level rows lev number ≡ false
  pub kept : is_lost rows number ≡ false
  pub searched : searched_at rows number ≡ true

not_all : (rows : List InstRow) (lev : Level) (os : List (Option InstId)) → all_at rows lev os ≡ false → NoneLost rows os → AllMatched (λ i. searched_at rows i ≡ true) os → IsBehind rows lev os
not_all rows lev [] e n s = absurd (both_ways true e refl)
not_all rows lev (None ∷ os) e n s = let p = not_all rows lev os e n s in record { number = p.number; matched = p.matched; behind = p.behind; kept = p.kept; searched = p.searched }
not_all rows lev (Some i ∷ os) e n s = split (and_cases (at_level rows lev i.0) (all_at rows lev os) e) (not_all rows lev os)
  where
    split : (at_level rows lev i.0 ≡ false) ⊎ (all_at rows lev os ≡ false) → (all_at rows lev os ≡ false → NoneLost rows os → AllMatched (λ j. searched_at rows j ≡ true) os → IsBehind rows lev os) → IsBehind rows lev (Some i ∷ os)
    split (inl a) later = record { number = i.0; matched = (0, zero-lt-suc (length (matched_instances os)), refl); behind = a; kept = n.0; searched = s.0 }
    split (inr b) later = let p = later b n.1 s.1 in record { number = p.number; matched = (suc p.matched.0, suc-le-suc p.matched.1, p.matched.2); behind = p.behind; kept = p.kept; searched = p.searched }

-- a searched instance that isn't lost
live_row : (rows : List InstRow) (i : ℕ) → is_lost rows i ≡ false → searched_at rows i ≡ true → (r : InstRow) × (slice_get rows i ≡ Some r) × (is_failed r.phase ≡ false) × (is_unsearched r.phase ≡ false)
live_row rows i l s = let p = unlost_parts rows i l in let q = test_parts (λ (r : InstRow). not (is_unsearched r.phase)) rows i s in
    (p.0, p.1, p.3, not-true (is_unsearched p.0.phase) (subst (λ (r : InstRow). not (is_unsearched r.phase) ≡ true) (same_element (slice_get rows i) q.0 p.0 q.1 p.1) q.2))

unaddressed_claimed : (p : Phase) → is_failed p ≡ false → is_unsearched p ≡ false → is_some (phase_address p) ≡ false → p ≡ phase.Claimed
unaddressed_claimed phase.Claimed f u a = refl
unaddressed_claimed phase.Unsearched f u a = absurd (both_ways true u refl)
unaddressed_claimed phase.Failed f u a = absurd (both_ways true f refl)
unaddressed_claimed (phase.Resolved n) f u a = absurd (both_ways true a refl)
unaddressed_claimed (phase.Emitted n ds) f u a = absurd (both_ways true a refl)

unemitted_underway : (p : Phase) → is_failed p ≡ false → is_unsearched p ≡ false → is_emitted p ≡ false → (p ≡ phase.Claimed) ⊎ ((a : ℕ) × (p ≡ phase.Resolved a))
unemitted_underway phase.Claimed f u e = inl refl
unemitted_underway (phase.Resolved a) f u e = inr (a, refl)
unemitted_underway phase.Unsearched f u e = absurd (both_ways true u refl)
unemitted_underway phase.Failed f u e = absurd (both_ways true f refl)
unemitted_underway (phase.Emitted n ds) f u e = absurd (both_ways true e refl)

unmet_parts : (m : Plain) (k : ℕ) (q : Query) → IsSound m → slice_get m.queries k ≡ Some q → is_met m.rows q ≡ false → IsBehind m.rows q.level q.matched
unmet_parts m k q s t u = let p = or_parts (all_at m.rows q.level q.matched) (is_some (first_lost m.rows q.matched)) u in
    not_all m.rows q.level q.matched p.0 (none_lost m.rows q.matched (none_some (first_lost m.rows q.matched) p.1)) (s.searched k q t)

-- the link query of a unit that waits isn't met
link_unmet : (m : Plain) (u : ℕ) (x : UnitRow) → IsSound m → NoMetWaits m → slice_get m.units u ≡ Some x → x.phase ≡ stage.Waiting → (l : LinkQuery m.queries u x) × IsBehind m.rows level.Resolved l.query.matched
link_unmet m u x s w t e =
    let l = (s.units_fit u x t).waits e in
    let unmet = false_from_ne_true (is_met m.rows l.query) (λ met. both_ways (waits_for m u l.number) (w u l.number l.query l.there l.links met) (waiting_from m u l.number x t e l.its)) in
    (l, subst (λ lev. IsBehind m.rows lev l.query.matched) l.level (unmet_parts m l.number l.query s l.there unmet))

-- Work that a claimed instance's unit owes: it is listed or held; or it is an alias that waits for an
-- instance which is claimed too, at the end of a chain.
claimed_owed : (m : Plain) → IsSound m → NoMetWaits m → (i : ℕ) → Ends (chain_next m.rows m.units m.queries) i → (r : InstRow) → slice_get m.rows i ≡ Some r → r.phase ≡ phase.Claimed → IsOwed m
claimed_owed m s w _ (Stops i h) r e c = by_unit (underway_here m i r s e (ap is_underway c)) (λ j d q f g. claimed_owed m s w j (h j d) q f g)
  where
    by_unit : (x : UnitRow) × (slice_get m.units r.unit.0 ≡ Some x) × (fits (row_stage x) r.phase ≡ true) → ((j : ℕ) → Contains (chain_next m.rows m.units m.queries i) j → (q : InstRow) → slice_get m.rows j ≡ Some q → q.phase ≡ phase.Claimed → IsOwed m) → IsOwed m
    by_unit p next = by_phase (is_unbased p.0) refl p.0.phase refl (subst (λ f. fits (row_stage p.0) f ≡ true) c p.2)
      where
        u : ℕ
        u = r.unit.0

        waiting : is_unbased p.0 ≡ true → p.0.phase ≡ stage.Waiting → IsOwed m
        waiting a b =
            let l = link_unmet m u p.0 s w p.1 b in
            let q = live_row m.rows l.1.number l.1.kept l.1.searched in
            next l.1.number
            (next_from m.rows m.units m.queries i l.1.number (record { row = r; here = e; unit = p.0; there = p.1; alias = (and_parts (is_alias p.0) (is_none p.0.base) a).0; waits = b; number = l.0.number; its = l.0.its; query = l.0.query; asked = l.0.there; matched = l.1.matched }))
            q.0 q.1 (unaddressed_claimed q.0.phase q.2 q.3 (ap (λ o. is_some (option_map_or (λ (y : InstRow). phase_address y.phase) o None)) (sym q.1) ∙ l.1.behind))

        by_phase : (b : Bool) → is_unbased p.0 ≡ b → (ph : UnitPhase) → p.0.phase ≡ ph → fits (stage_of b ph) phase.Claimed ≡ true → IsOwed m
        by_phase b a stage.Listed g f = owed_job m u p.0 (job.Start (record { 0 = u })) s p.1 (ap (due_at u) g)
        by_phase b a stage.Started g f = owed_held m u p.0 s p.1 (ap is_defunct g) (ap is_held_phase g)
        by_phase b a stage.Placed g f = owed_held m u p.0 s p.1 (ap is_defunct g) (ap is_held_phase g)
        by_phase b a stage.Linking g f = owed_held m u p.0 s p.1 (ap is_defunct g) (ap is_held_phase g)
        by_phase b a stage.Finishing g f = owed_held m u p.0 s p.1 (ap is_defunct g) (ap is_held_phase g)
        by_phase b a stage.Linked g f = owed_job m u p.0 (job.Finish (record { 0 = u })) s p.1 (ap (due_at u) g)
        by_phase true a stage.Waiting g f = waiting a g
        by_phase false a stage.Waiting g f = absurd (both_ways false refl f)
        by_phase true a stage.Unclaimed g f = absurd (both_ways false refl f)
        by_phase false a stage.Unclaimed g f = absurd (both_ways false refl f)
        by_phase true a stage.Done g f = absurd (both_ways false refl f)
        by_phase false a stage.Done g f = absurd (both_ways false refl f)
        by_phase true a stage.Failed g f = absurd (both_ways false refl f)
        by_phase false a stage.Failed g f = absurd (both_ways false refl f)
        by_phase true a stage.Defunct g f = absurd (both_ways false refl f)
        by_phase false a stage.Defunct g f = absurd (both_ways false refl f)

-- a live instance without an address is claimed
resolved_owed : (m : Plain) (i : ℕ) → IsSound m → NoMetWaits m → AllEnd m → at_level m.rows level.Resolved i ≡ false → is_lost m.rows i ≡ false → searched_at m.rows i ≡ true → IsOwed m
resolved_owed m i s w ends a l d = let r = live_row m.rows i l d in
    claimed_owed m s w i (ends i) r.0 r.1 (unaddressed_claimed r.0.phase r.2 r.3 (ap (λ o. is_some (option_map_or (λ (y : InstRow). phase_address y.phase) o None)) (sym r.1) ∙ a))

-- a resolved instance's unit is held, or it is linked, or it waits for an unmet link query
resolved_unit_owed : (m : Plain) (u a : ℕ) (x : UnitRow) → IsSound m → NoMetWaits m → AllEnd m → slice_get m.units u ≡ Some x → fits (row_stage x) (phase.Resolved a) ≡ true → IsOwed m
resolved_unit_owed m u a x s w ends t f = by_phase (is_unbased x) x.phase refl f
  where
    waiting : x.phase ≡ stage.Waiting → IsOwed m
    waiting e = let l = link_unmet m u x s w t e in resolved_owed m l.1.number s w ends l.1.behind l.1.kept l.1.searched

    by_phase : (b : Bool) (p : UnitPhase) → x.phase ≡ p → fits (stage_of b p) (phase.Resolved a) ≡ true → IsOwed m
    by_phase b stage.Listed e f = owed_job m u x (job.Start (record { 0 = u })) s t (ap (due_at u) e)
    by_phase b stage.Started e f = owed_held m u x s t (ap is_defunct e) (ap is_held_phase e)
    by_phase b stage.Placed e f = owed_held m u x s t (ap is_defunct e) (ap is_held_phase e)
    by_phase b stage.Linking e f = owed_held m u x s t (ap is_defunct e) (ap is_held_phase e)
    by_phase b stage.Finishing e f = owed_held m u x s t (ap is_defunct e) (ap is_held_phase e)
    by_phase b stage.Linked e f = owed_job m u x (job.Finish (record { 0 = u })) s t (ap (due_at u) e)
    by_phase b stage.Waiting e f = waiting e
    by_phase true stage.Unclaimed e f = absurd (both_ways false refl f)
    by_phase false stage.Unclaimed e f = absurd (both_ways false refl f)
    by_phase true stage.Done e f = absurd (both_ways false refl f)
    by_phase false stage.Done e f = absurd (both_ways false refl f)
    by_phase true stage.Failed e f = absurd (both_ways false refl f)
    by_phase false stage.Failed e f = absurd (both_ways false refl f)
    by_phase true stage.Defunct e f = absurd (both_ways false refl f)
    by_phase false stage.Defunct e f = absurd (both_ways false refl f)

underway_owed : (m : Plain) (i : ℕ) (r : InstRow) → IsSound m → NoMetWaits m → AllEnd m → slice_get m.rows i ≡ Some r → (r.phase ≡ phase.Claimed) ⊎ ((a : ℕ) × (r.phase ≡ phase.Resolved a)) → IsOwed m
underway_owed m i r s w ends e (inl p) = claimed_owed m s w i (ends i) r e p
underway_owed m i r s w ends e (inr p) = let x = underway_here m i r s e (ap is_underway p.1) in resolved_unit_owed m r.unit.0 p.0 x.0 s w ends x.1 (subst (λ f. fits (row_stage x.0) f ≡ true) p.1 x.2)

-- a live instance that isn't ready reaches one whose work is under way
unready_owed : (m : Plain) (i : ℕ) → IsSound m → NoMetWaits m → AllEnd m → is_ready m.rows i ≡ false → is_lost m.rows i ≡ false → searched_at m.rows i ≡ true → IsOwed m
unready_owed m i s w ends n l d = found ((row_walks m.rows (λ j. not (emitted_at m.rows j)) i).0 (not-false _ n))
  where
    sure : sure_at m.rows i ≡ true
    sure = let r = live_row m.rows i l d in test_from is_sure m.rows i r.0 r.1 (and_from (not (is_unsearched r.0.phase)) (not (is_failed r.0.phase)) (not_from_false (is_unsearched r.0.phase) r.3) (not_from_false (is_failed r.0.phase) r.2))

    found : (j : ℕ) × Reaches m.rows i j × (not (emitted_at m.rows j) ≡ true) → IsOwed m
    found p = let r = test_parts is_sure m.rows p.0 (closed_reached m.rows (λ k. sure_at m.rows k ≡ true) (λ k j a c. s.deps k j c) i p.0 sure p.1) in
        let q = and_parts (not (is_unsearched r.0.phase)) (not (is_failed r.0.phase)) r.2 in
        underway_owed m p.0 r.0 s w ends r.1 (unemitted_underway r.0.phase (not-true (is_failed r.0.phase) q.1) (not-true (is_unsearched r.0.phase) q.0)
        (sym (test_is (λ (y : InstRow). is_emitted y.phase) m.rows p.0 r.0 r.1) ∙ not-true (emitted_at m.rows p.0) p.2))

pub unmet_owed : (m : Plain) (k : ℕ) (q : Query) → IsSound m → NoMetWaits m → AllEnd m → slice_get m.queries k ≡ Some q → is_met m.rows q ≡ false → IsOwed m
unmet_owed m k q s w ends t u = let p = unmet_parts m k q s t u in by_level q.level refl p.number p.behind p.kept p.searched
  where
    by_level : (lev : Level) → q.level ≡ lev → (i : ℕ) → at_level m.rows q.level i ≡ false → is_lost m.rows i ≡ false → searched_at m.rows i ≡ true → IsOwed m
    by_level level.Resolved e i a l d = resolved_owed m i s w ends (subst (λ lev. at_level m.rows lev i ≡ false) e a) l d
    by_level level.Ready e i a l d = unready_owed m i s w ends (subst (λ lev. at_level m.rows lev i ≡ false) e a) l d

pub work_is_owed : WorkIsOwed
work_is_owed jmax h number q l t o = unmet_owed (state h) number q (legal_is_sound jmax h l) (no_met_waits h) (chains_end jmax h l) t
    (ap (λ g. is_met (state g).rows q) (sym (take_all (length h) h (le_refl (length h)))) ∙ o.unmet (length h) (query_was_asked h number q t).1 (le_refl (length h)))

counted : {X : Type 0} (test : X → Bool) (xs : List X) (k : ℕ) (x : X) → slice_get xs k ≡ Some x → test x ≡ true → 0 < sum_by (λ y. cond (test y) 1 0) xs
counted test [] k x e t = absurd (none-some x e)
counted test (y ∷ ys) zero x e t = let one : ◌≡◌ {A = ℕ} (cond (test y) 1 0) 1 = ap (λ b. cond b 1 0) (ap test (same_Some y x e) ∙ t) in omega (arith, sum_by-cons (λ z. cond (test z) 1 0) y ys, one)
counted test (y ∷ ys) (suc k) x e t = omega (arith, sum_by-cons (λ z. cond (test z) 1 0) y ys, counted test ys k x e t)

pub idle_has_none : IdleHasNoOpenQuery
idle_has_none jmax h number q l j k t o = let w = work_is_owed jmax h number q l t o in clash w w.work
  where
    clash : (w : IsOwed (state h)) → (list_any (λ (i : Job). job_unit i == w.number) (state h).jobs ≡ true) ⊎ (is_some w.unit.seat ≡ true) → ⊥
    clash w (inl a) = both_ways false refl (ap (λ js. list_any (λ (i : Job). job_unit i == w.number) js) (sym j) ∙ a)
    clash w (inr a) = omega (arith, counted (λ (x : UnitRow). is_some x.seat) (state h).units w.number w.unit w.there a, k)

pub none_waits_for_met : NoneWaitsForMet
none_waits_for_met h u number q t e met = no_met_waits h u number q t e met
