-- A unit's phase never falls back, so each job is handed out once.
use Rattle.std.proofs.Common.{Bool}
use Rattle.session_model.specs.Answer.{can_link}
use Rattle.session_model.specs.Change.{new_unit, linked, listed_unit, started_unit, finishing_unit, placed_unit, resolved_unit, resolved_row, waiting_unit, done_unit, failed_unit, removed_unit, moved_unit, moved_generator, gone_tracker, let_go_unit, linked_unit}
use Rattle.session_model.specs.Plain.{is_alias}
use Rattle.session_model.specs.declared.rows.Verdict.{Verdict}
use Rattle.session_laws.specs.Sound.{row_stage, is_held_phase}
use Rattle.session_laws.proofs.RowStages.{resolvable, linkable, linkable_held, unclaimed_row}
use Rattle.std.proofs.Common.{◌≡◌, ℕ, ◌+◌, true, false, ◌==◌, map, List, [], ◌∷◌, ◌++◌, length, drop, slice_get, ◌⊎◌, inl, inr, subst, sym, refl, ap, ◌∙◌, Option, Some, None}
use Rattle.std.specs.Bool.{if◌then◌else◌}
use Rattle.std.specs.Option.{option_map_or}
use Rattle.std.proofs.lemmas.Bool.{both_ways, cases_eq}
use Rattle.orc_ids.specs.declared.ids.InstId.{InstId}
use Rattle.orc_ids.specs.declared.ids.UnitId.{UnitId}
use Rattle.session_model.specs.Lists.{changed_at, numbered}
use Rattle.session_model.specs.Plain.{Plain, UnitRow, GenRow, is_unsearched, is_defunct}
use Rattle.session_model.specs.declared.entry.Reply.TheVariants as reply
use Rattle.session_model.specs.declared.rows.InstRow.{InstRow}
use Rattle.session_model.specs.declared.rows.Job.{Job}
use Rattle.session_model.specs.declared.rows.Job.TheVariants as job
use Rattle.session_model.specs.declared.rows.UnitPhase.{UnitPhase}
use Rattle.session_model.specs.declared.rows.UnitPhase.TheVariants as stage
use Rattle.std.proofs.Common.{arith, ◌<◌}
use Rattle.session_model.specs.Change.{settled, finish_listed, waits_for, claimed}
use Rattle.session_laws.proofs.Elements.{changed_some, changed_elsewhere, same_element, mapped_some}
use Rattle.session_laws.proofs.Facts.{unsearched_unclaimed, jobs_head_same, due_start, due_finish}
use Rattle.session_laws.proofs.Settling.{chosen}
use Rattle.session_laws.specs.Sound.{IsSound, its_jobs, AllMatched}
use Rattle.session_model.specs.Meaning.{Meaning}
use Rattle.session_model.specs.Query.{is_met}
use Rattle.session_model.specs.Change.{without_replaced, defined, all_claimed}
use Rattle.session_laws.proofs.Elements.{front_some, numbered_some}
use Rattle.session_laws.proofs.Settling.{settling_keeps}
use Rattle.session_model.specs.Change.{change_of, changed}
use Rattle.session_model.specs.declared.change.Change.{Change}
use Rattle.session_model.specs.declared.change.Change.TheVariants.{Nothing, MakeDylib, MakeTracker, SetOrder, Attach, Define, Generate, Spend, Ask, Start, Finish, Place, Resolve, Link, Emit, Fail, Move, Remove, LetGo}
use Rattle.session_model.specs.Answer.{Answers}
use Rattle.session_model.specs.declared.entry.Entry.{Entry}
use Rattle.session_model.specs.declared.entry.Event.TheVariants as event
use Rattle.session_laws.proofs.Defining.{IsHere}
use Rattle.session_laws.proofs.Replies.{GoodMatches, Guard}
use Rattle.session_model.specs.Plain.{empty}
use Rattle.session_model.specs.State.{after, state, state_from}
use Rattle.session_model.specs.History.{LegalFrom, IsLegal}
use Rattle.session_model.specs.Change.{spent}
use Rattle.session_laws.proofs.Guards.{guard_of}
use Rattle.session_laws.proofs.Defining.{claims_keep, claim_sound}
use Rattle.session_laws.proofs.Along.{state_from_push, prefixes_legal, one_more_legal}
use Rattle.session_laws.proofs.Invariant.{sound_after, legal_is_sound, good_here}
use Rattle.session_laws.proofs.Elements.{numbered_some}
use Rattle.std.proofs.Common.{take, ◌≤◌, le_refl}
use Rattle.std.proofs.lemmas.Bool.{cases_order}
use Rattle.std.proofs.lemmas.List.{take-take}
use Rattle.list_laws.proofs.Lists.{taken_more}
use Rattle.session_laws.proofs.Readying.{state_from_joined, legal_rest}
use Rattle.session_laws.proofs.Ending.{front_legal, front_and_rest}
use Rattle.session_laws.proofs.Defining.{waiting_parts}
use Rattle.session_laws.proofs.Invariant.{claims_leave}
use Rattle.session_model.specs.declared.entry.Finishing.{Finishing}
use Rattle.session_laws.specs.Work.{rank, PhasesRise, StartedOnce, FinishedOnce}
use Rattle.session_laws.specs.Holding.{DefunctStays}
use Rattle.session_model.specs.declared.rows.Query.{Query}

-- each unit stays, at a phase no lower
abbrev pub Rises : List UnitRow → List UnitRow → Type 0
Rises units new = (u : ℕ) (x : UnitRow) → slice_get units u ≡ Some x → (y : UnitRow) × (slice_get new u ≡ Some y) × (rank x.phase ≤ rank y.phase)

rises_same : (units : List UnitRow) → Rises units units
rises_same units u x t = (x, t, le_refl (rank x.phase))

rises_again : (units new newer : List UnitRow) → Rises units new → Rises new newer → Rises units newer
rises_again units new newer f g u x t = let y = f u x t in let z = g u y.0 y.1 in (z.0, z.1, (omega (arith, y.2, z.2)))

rises_at : (units : List UnitRow) (u : ℕ) (f : UnitRow → UnitRow) → ((x : UnitRow) → slice_get units u ≡ Some x → rank x.phase ≤ rank (f x).phase) → Rises units (changed_at u f units)
rises_at units u f h v x t = split (cases_eq v u)
  where
    split : (v ≡ u) ⊎ (v ≡ u → ⊥) → (y : UnitRow) × (slice_get (changed_at u f units) v ≡ Some y) × (rank x.phase ≤ rank y.phase)
    split (inl e) = (f x, ap (slice_get (changed_at u f units)) e ∙ changed_some u f units x (ap (slice_get units) (sym e) ∙ t), h x (ap (slice_get units) (sym e) ∙ t))
    split (inr n) = (x, changed_elsewhere u f units v n ∙ t, le_refl (rank x.phase))

-- from one phase to another
rises_from : (units : List UnitRow) (u : ℕ) (f : UnitRow → UnitRow) (x : UnitRow) → slice_get units u ≡ Some x → rank x.phase ≤ rank (f x).phase → Rises units (changed_at u f units)
rises_from units u f x t h = rises_at units u f (λ y e. subst (λ (z : UnitRow). rank z.phase ≤ rank (f z).phase) (same_element (slice_get units u) x y t e) h)

rank_le : (p q : UnitPhase) (x : UnitPhase) → x ≡ p → rank p ≤ rank q → rank x ≤ rank q
rank_le p q x e h = subst (λ r. rank r ≤ rank q) (sym e) h

rank_last : (p : UnitPhase) → rank p ≤ 9
rank_last stage.Unclaimed = omega arith
rank_last stage.Listed = omega arith
rank_last stage.Started = omega arith
rank_last stage.Placed = omega arith
rank_last stage.Linking = omega arith
rank_last stage.Waiting = omega arith
rank_last stage.Linked = omega arith
rank_last stage.Finishing = omega arith
rank_last stage.Done = omega arith
rank_last stage.Failed = omega arith
rank_last stage.Defunct = omega arith

rank_alive : (p : UnitPhase) → is_defunct p ≡ false → rank p ≤ 8
rank_alive stage.Unclaimed n = omega arith
rank_alive stage.Listed n = omega arith
rank_alive stage.Started n = omega arith
rank_alive stage.Placed n = omega arith
rank_alive stage.Linking n = omega arith
rank_alive stage.Waiting n = omega arith
rank_alive stage.Linked n = omega arith
rank_alive stage.Finishing n = omega arith
rank_alive stage.Done n = omega arith
rank_alive stage.Failed n = omega arith
rank_alive stage.Defunct n = absurd (both_ways true n refl)

-- what has the last rank is gone
last_defunct : (p : UnitPhase) → 9 ≤ rank p → p ≡ stage.Defunct
last_defunct stage.Unclaimed h = absurd (omega (arith, h))
last_defunct stage.Listed h = absurd (omega (arith, h))
last_defunct stage.Started h = absurd (omega (arith, h))
last_defunct stage.Placed h = absurd (omega (arith, h))
last_defunct stage.Linking h = absurd (omega (arith, h))
last_defunct stage.Waiting h = absurd (omega (arith, h))
last_defunct stage.Linked h = absurd (omega (arith, h))
last_defunct stage.Finishing h = absurd (omega (arith, h))
last_defunct stage.Done h = absurd (omega (arith, h))
last_defunct stage.Failed h = absurd (omega (arith, h))
last_defunct stage.Defunct h = refl

rises_mapped : (units : List UnitRow) (f : UnitRow → UnitRow) → ((x : UnitRow) → rank x.phase ≤ rank (f x).phase) → Rises units (map f units)
rises_mapped units f h u x t = (f x, mapped_some f units u x t, h x)

defined_rises : (m : Plain) (d t : ℕ) (v : Meaning) (vs : List Verdict) → Rises m.units (defined d t v vs m).units
defined_rises m d t v vs u x e = (without_replaced m.rows vs u x, front_some (numbered (without_replaced m.rows vs) 0 m.units) (new_unit t v vs ∷ []) u (without_replaced m.rows vs u x) (numbered_some (without_replaced m.rows vs) m.units u x e), le_refl (rank x.phase))

claims_rise : (m : Plain) (os : List (Option InstId)) → IsSound m → AllMatched (IsHere m.rows) os → Rises m.units (all_claimed os m).units
claims_rise m os s here = (claims_keep (λ n. IsSound n × Rises m.units n.units) step os m here (s, rises_same m.units)).1
  where
    step : (i : ℕ) (r : InstRow) (n : Plain) → IsSound n × Rises m.units n.units → slice_get n.rows i ≡ Some r → r.present ≡ true → is_unsearched r.phase ≡ true → IsSound (claimed r.unit.0 n) × Rises m.units (claimed r.unit.0 n).units
    step i r n p e present unsearched = let x = (p.0.rows_fit i r e).here present in (
      claim_sound i r n p.0 e present unsearched,
      rises_again m.units n.units (claimed r.unit.0 n).units p.1
          (rises_from n.units r.unit.0 listed_unit x.0 x.1 (rank_le stage.Unclaimed stage.Listed x.0.phase (unclaimed_row x.0 (unsearched_unclaimed (row_stage x.0) r.phase x.2 unsearched)) (omega arith))),
    )

-- the unit of the first job
pub start_listed : (m : Plain) (u : ℕ) (js : List Job) → IsSound m → m.jobs ≡ job.Start (record { 0 = u }) ∷ js → (x : UnitRow) × (slice_get m.units u ≡ Some x) × (x.phase ≡ stage.Listed)
start_listed m u js s e = let d = due_start u m.units (record { 0 = u }) (its_jobs u js) (sym (jobs_head_same u (job.Start (record { 0 = u })) js refl) ∙ (ap (its_jobs u) (sym e) ∙ s.jobs_due u)) in (d.0, d.1, d.2)

pub finish_linked : (m : Plain) (u : ℕ) (js : List Job) → IsSound m → m.jobs ≡ job.Finish (record { 0 = u }) ∷ js → (x : UnitRow) × (slice_get m.units u ≡ Some x) × (x.phase ≡ stage.Linked)
finish_linked m u js s e = let d = due_finish u m.units (record { 0 = u }) (its_jobs u js) (sym (jobs_head_same u (job.Finish (record { 0 = u })) js refl) ∙ (ap (its_jobs u) (sym e) ∙ s.jobs_due u)) in (d.0, d.1, d.2)

link_rises : (m : Plain) (u : ℕ) (x : UnitRow) (os : List (Option InstId)) → IsSound m → slice_get m.units u ≡ Some x → can_link x ≡ true → GoodMatches m os → Rises m.units (linked u os m).units
link_rises m u x os s t p g = rises_again m.units (all_claimed os m).units (linked u os m).units (claims_rise m os s (good_here m os g))
    (rises_from (all_claimed os m).units u (waiting_unit (length m.queries)) x
    (claims_leave m u x os s t (λ e. both_ways (is_held_phase x.phase) (ap is_held_phase e) (linkable_held x p)) (good_here m os g)) (low (linkable x p)))
  where
    low : ((is_alias x ≡ true) × (x.phase ≡ stage.Started)) ⊎ ((is_alias x ≡ false) × (x.phase ≡ stage.Linking)) → rank x.phase ≤ rank stage.Waiting
    low (inl e) = rank_le stage.Started stage.Waiting x.phase e.1 (omega arith)
    low (inr e) = rank_le stage.Linking stage.Waiting x.phase e.1 (omega arith)

pub change_rises : (m : Plain) (s : ℕ) (c : Change Meaning) → IsSound m → Guard m s c → Rises m.units (changed c m).units
change_rises m s Nothing h g = rises_same m.units
change_rises m s (MakeDylib name) h g = rises_same m.units
change_rises m s (MakeTracker d) h g = rises_same m.units
change_rises m s (SetOrder d order) h g = rises_same m.units
change_rises m s (Attach d t u) h g = rises_same m.units
change_rises m s (Define d t u found) h g = defined_rises m d.0 t.0 u found
change_rises m s (Generate k found) h g = split (slice_get m.generators k.0)
  where
    split : (o : Option GenRow) → Rises m.units (option_map_or (λ x. spent k.0 (defined x.dylib x.tracker x.meaning found m)) o m).units
    split None = rises_same m.units
    split (Some x) = defined_rises m x.dylib x.tracker x.meaning found
change_rises m s (Spend k) h g = rises_same m.units
change_rises m s (Ask found lev n) h g = claims_rise m found h (good_here m found g)
change_rises m s (Start t u) h g = let x = start_listed m u.0 g.1 h g.2 in rises_from m.units u.0 (started_unit t.0) x.0 x.1 (rank_le stage.Listed stage.Started x.0.phase x.2 (omega arith))
change_rises m s (Finish t u how) h g = let x = finish_linked m u.0 g.1 h g.2 in rises_from m.units u.0 (finishing_unit t.0 how) x.0 x.1 (rank_le stage.Linked stage.Finishing x.0.phase x.2 (omega arith))
change_rises m s (Place u base) h g = rises_from m.units u.0 (placed_unit base) g.0 g.1 (rank_le stage.Started stage.Placed g.0.phase g.3.0 (omega arith))
change_rises m s (Resolve u) h g = subst (λ o. Rises m.units (option_map_or (λ (x : UnitRow). record m { rows = map (resolved_row u.0 (resolved_unit x)) m.rows; units = changed_at u.0 resolved_unit m.units }) o m).units) (sym g.1)
    (rises_from m.units u.0 resolved_unit g.0 g.1 (low (resolvable g.0 g.3)))
  where
    later : (b : Bool) → is_alias g.0 ≡ b → (if b then g.0.phase else stage.Linking) ≡ (resolved_unit g.0).phase
    later b e = ap (λ c. if c then g.0.phase else stage.Linking) (sym e)

    low : ((is_alias g.0 ≡ true) × (g.0.phase ≡ stage.Finishing)) ⊎ ((is_alias g.0 ≡ false) × ((g.0.phase ≡ stage.Placed) ⊎ (g.0.phase ≡ stage.Started))) → rank g.0.phase ≤ rank (resolved_unit g.0).phase
    low (inl e) = subst (λ p. rank g.0.phase ≤ rank p) (later true e.0) (le_refl (rank g.0.phase))
    low (inr (a, inl e)) = subst (λ p. rank g.0.phase ≤ rank p) (later false a) (rank_le stage.Placed stage.Linking g.0.phase e (omega arith))
    low (inr (a, inr e)) = subst (λ p. rank g.0.phase ≤ rank p) (later false a) (rank_le stage.Started stage.Linking g.0.phase e (omega arith))
change_rises m s (Link u found) h g = link_rises m u.0 g.0 found h g.1 g.3.0 g.3.3
change_rises m s (Emit u groups) h g = rises_from m.units u.0 done_unit g.0 g.1 (rank_alive g.0.phase (ap is_defunct g.3.0))
change_rises m s (Fail u) h g = rises_from m.units u.0 failed_unit g.0 g.1 (rank_alive g.0.phase g.3)
change_rises m s (Move t to) h g = chosen (λ n. Rises m.units n.units) (t.0 == to.0) m (record m { units = map (moved_unit t.0 to.0) m.units; generators = map (moved_generator t.0 to.0) m.generators; trackers = changed_at t.0 gone_tracker m.trackers })
    (λ b. rises_same m.units) (λ b. rises_mapped m.units (moved_unit t.0 to.0) (λ x. le_refl (rank x.phase)))
change_rises m s (Remove t) h g = rises_mapped m.units (removed_unit t.0)
    (λ x. chosen (λ p. rank x.phase ≤ rank p) (x.tracker == t.0) stage.Defunct x.phase (λ b. rank_last x.phase) (λ b. le_refl (rank x.phase)))
change_rises m s (LetGo t u) h g = rises_from m.units u.0 (let_go_unit t.0) g.1 g.2 (le_refl (rank g.1.phase))

settled_rises : (m : Plain) → Rises m.units (settled m).units
settled_rises m = settling_keeps (λ n. Rises m.units n.units) step 0 m.queries m (rises_same m.units)
  where
    step : (u k : ℕ) (q : Query) (n : Plain) → Rises m.units n.units → waits_for n u k ≡ true → is_met n.rows q ≡ true → q.unit ≡ Some u → Rises m.units (finish_listed u n).units
    step u k q n r w b e = let x = waiting_parts n u k w in rises_again m.units n.units (finish_listed u n).units r
        (rises_from n.units u linked_unit x.0 x.1 (rank_le stage.Waiting stage.Linked x.0.phase x.2 (omega arith)))

pub after_rises : (jmax : ℕ) (past : List (Entry Meaning)) (m : Plain) (e : Entry Meaning) → IsSound m → Answers jmax past m e.seat.0 e.event e.reply → Rises m.units (after m e).units
after_rises jmax past m e s a = rises_again m.units (changed (change_of m e.seat.0 e.event e.reply) m).units (after m e).units
    (change_rises m e.seat.0 (change_of m e.seat.0 e.event e.reply) s (guard_of jmax past m e.seat.0 e.event e.reply a)) (settled_rises (changed (change_of m e.seat.0 e.event e.reply) m))

from_rises : (jmax : ℕ) (past : List (Entry Meaning)) (m : Plain) (h : List (Entry Meaning)) → IsSound m → LegalFrom jmax past m h → Rises m.units (state_from m h).units
from_rises jmax past m [] s l = rises_same m.units
from_rises jmax past m (e ∷ es) s l = rises_again m.units (after m e).units (state_from (after m e) es).units (after_rises jmax past m e s l.0) (from_rises jmax (past ++ e ∷ []) (after m e) es (sound_after jmax past m e s l.0) l.1)

pub phases_rise : PhasesRise
phases_rise jmax h more l u x t = let p = from_rises jmax h (state h) more (legal_is_sound jmax h ((prefixes_legal jmax h more).0 l)) (legal_rest jmax [] empty h more l) u x t in
    (p.0, ap (λ m. slice_get m.units u) (state_from_joined empty h more) ∙ p.1, p.2)

-- Jobs that are handed out

-- a given entry's step
pub record EntryStep (jmax : ℕ) (h : List (Entry Meaning)) (k : ℕ) (e : Entry Meaning) : Type 0 where
  pub sound : IsSound (state (take k h))
  pub answers : Answers jmax (take k h) (state (take k h)) e.seat.0 e.event e.reply
  pub leads : state (take (k + 1) h) ≡ after (state (take k h)) e

pub entry_step : (jmax : ℕ) (h : List (Entry Meaning)) (k : ℕ) (e : Entry Meaning) → IsLegal jmax h → slice_get h k ≡ Some e → EntryStep jmax h k e
entry_step jmax h k e l t = record {
  sound = legal_is_sound jmax (take k h) (front_legal jmax h k l);
  answers = (one_more_legal jmax (take k h) e).1 (subst (IsLegal jmax) (taken_more h k e t) (front_legal jmax h (k + 1) l));
  leads = ap state (taken_more h k e t) ∙ state_from_push empty (take k h) e;
}

-- a unit's phase at two numbers of a history
fronts_rise : (jmax : ℕ) (h : List (Entry Meaning)) (a b : ℕ) → IsLegal jmax h → a ≤ b → Rises (state (take a h)).units (state (take b h)).units
fronts_rise jmax h a b l le u x t = let p = phases_rise jmax (take a h) (drop a (take b h)) (subst (IsLegal jmax) whole (front_legal jmax h b l)) u x t in
    (p.0, ap (λ g. slice_get (state g).units u) whole ∙ p.1, p.2)
  where
    whole : take b h ≡ take a h ++ drop a (take b h)
    whole = front_and_rest a (take b h) ∙ ap (λ g. g ++ drop a (take b h)) (take-take a b h le)

-- the unit that an entry takes was at one phase, and is at another
record Takes (jmax : ℕ) (h : List (Entry Meaning)) (k u : ℕ) (p q : UnitPhase) : Type 0 where
  unit : UnitRow
  there : slice_get (state (take k h)).units u ≡ Some unit
  is : unit.phase ≡ p
  next : UnitRow
  later : slice_get (state (take (k + 1) h)).units u ≡ Some next
  above : rank q ≤ rank next.phase

takes_apart : (jmax : ℕ) (h : List (Entry Meaning)) (i j u : ℕ) (p q : UnitPhase) → IsLegal jmax h → rank p < rank q → Takes jmax h i u p q → Takes jmax h j u p q → i < j → ⊥
takes_apart jmax h i j u p q l lt a b less = let y = fronts_rise jmax h (i + 1) j l (omega (arith, less)) u a.next a.later in
    let same = same_element (slice_get (state (take j h)).units u) y.0 b.unit y.1 b.there in
    let low : rank y.0.phase ≡ rank p = ap (λ (z : UnitRow). rank z.phase) same ∙ ap rank b.is in
    omega (arith, lt, a.above, y.2, low)

takes_once : (jmax : ℕ) (h : List (Entry Meaning)) (i j u : ℕ) (p q : UnitPhase) → IsLegal jmax h → rank p < rank q → Takes jmax h i u p q → Takes jmax h j u p q → i ≡ j
takes_once jmax h i j u p q l lt a b = split (cases_order i j)
  where
    split : (i ≡ j) ⊎ ((i < j) ⊎ (j < i)) → i ≡ j
    split (inl e) = e
    split (inr (inl x)) = absurd (takes_apart jmax h i j u p q l lt a b x)
    split (inr (inr x)) = absurd (takes_apart jmax h j i u p q l lt b a x)

-- an entry that made a change of the unit alone
takes_by : (jmax : ℕ) (h : List (Entry Meaning)) (k u : ℕ) (e : Entry Meaning) (f : UnitRow → UnitRow) (x : UnitRow) (p q : UnitPhase) → EntryStep jmax h k e → slice_get (state (take k h)).units u ≡ Some x → x.phase ≡ p →
    (changed (change_of (state (take k h)) e.seat.0 e.event e.reply) (state (take k h))).units ≡ changed_at u f (state (take k h)).units → (f x).phase ≡ q → Takes jmax h k u p q
takes_by jmax h k u e f x p q s t is c phase_is =
    let y = settled_rises (changed (change_of (state (take k h)) e.seat.0 e.event e.reply) (state (take k h))) u (f x) (ap (λ l. slice_get l u) c ∙ changed_some u f (state (take k h)).units x t) in
    record { unit = x; there = t; is = is; next = y.0; later = ap (λ (m : Plain). slice_get m.units u) s.leads ∙ y.1; above = subst (λ r. rank r ≤ rank y.0.phase) phase_is y.2 }

start_takes : (jmax : ℕ) (h : List (Entry Meaning)) (k : ℕ) (e : Entry Meaning) (u : UnitId) → IsLegal jmax h → slice_get h k ≡ Some e → e.event ≡ event.Take → e.reply ≡ reply.Start u → Takes jmax h k u.0 stage.Listed stage.Started
start_takes jmax h k e u l t is r = takes_by jmax h k u.0 e (started_unit e.seat.0) x.0 stage.Listed stage.Started step x.1 x.2 (ap (λ d. (changed d (state (take k h))).units) change) refl
  where
    step : EntryStep jmax h k e
    step = entry_step jmax h k e l t

    change : change_of (state (take k h)) e.seat.0 e.event e.reply ≡ Start (record { 0 = e.seat.0 }) u
    change = ap (λ v. change_of (state (take k h)) e.seat.0 v e.reply) is ∙ ap (change_of (state (take k h)) e.seat.0 event.Take) r

    guard : Guard (state (take k h)) e.seat.0 (Start (record { 0 = e.seat.0 }) u)
    guard = subst (Guard (state (take k h)) e.seat.0) change (guard_of jmax (take k h) (state (take k h)) e.seat.0 e.event e.reply step.answers)

    x : (x : UnitRow) × (slice_get (state (take k h)).units u.0 ≡ Some x) × (x.phase ≡ stage.Listed)
    x = start_listed (state (take k h)) u.0 guard.1 step.sound guard.2

finish_takes : (jmax : ℕ) (h : List (Entry Meaning)) (k : ℕ) (e : Entry Meaning) (u : UnitId) (how : Finishing) → IsLegal jmax h → slice_get h k ≡ Some e → e.event ≡ event.Take → e.reply ≡ reply.Finish u how → Takes jmax h k u.0 stage.Linked stage.Finishing
finish_takes jmax h k e u how l t is r = takes_by jmax h k u.0 e (finishing_unit e.seat.0 how) x.0 stage.Linked stage.Finishing step x.1 x.2 (ap (λ d. (changed d (state (take k h))).units) change) refl
  where
    step : EntryStep jmax h k e
    step = entry_step jmax h k e l t

    change : change_of (state (take k h)) e.seat.0 e.event e.reply ≡ Finish (record { 0 = e.seat.0 }) u how
    change = ap (λ v. change_of (state (take k h)) e.seat.0 v e.reply) is ∙ ap (change_of (state (take k h)) e.seat.0 event.Take) r

    guard : Guard (state (take k h)) e.seat.0 (Finish (record { 0 = e.seat.0 }) u how)
    guard = subst (Guard (state (take k h)) e.seat.0) change (guard_of jmax (take k h) (state (take k h)) e.seat.0 e.event e.reply step.answers)

    x : (x : UnitRow) × (slice_get (state (take k h)).units u.0 ≡ Some x) × (x.phase ≡ stage.Linked)
    x = finish_linked (state (take k h)) u.0 guard.1 step.sound guard.2

pub started_once : StartedOnce
started_once jmax h l i j e f u a b c d x y = takes_once jmax h i j u.0 stage.Listed stage.Started l (omega arith) (start_takes jmax h i e u l a c x) (start_takes jmax h j f u l b d y)

pub finished_once : FinishedOnce
finished_once jmax h l i j e f u a b p q c d x y = takes_once jmax h i j u.0 stage.Linked stage.Finishing l (omega arith) (finish_takes jmax h i e u a l p c x) (finish_takes jmax h j f u b l q d y)

-- a unit that is gone stays so
pub defunct_stays : DefunctStays
defunct_stays jmax h more l u x t d = let p = phases_rise jmax h more l u x t in
    (p.0, p.1, last_defunct p.0.phase (subst (λ q. rank q ≤ rank p.0.phase) d p.2))

pub after_defunct : (jmax : ℕ) (past : List (Entry Meaning)) (m : Plain) (h : List (Entry Meaning)) (u : ℕ) (x : UnitRow) → IsSound m → LegalFrom jmax past m h → slice_get m.units u ≡ Some x → x.phase ≡ stage.Defunct → (y : UnitRow) × (slice_get (state_from m h).units u ≡ Some y) × (y.phase ≡ stage.Defunct)
after_defunct jmax past m h u x s l t d = let p = from_rises jmax past m h s l u x t in
    (p.0, p.1, last_defunct p.0.phase (subst (λ q. rank q ≤ rank p.0.phase) d p.2))
