-- Defining a unit, claiming, lodging a query, moving a tracker and settling keep the invariant.
use Rattle.std.proofs.Common.{◌≡◌, ℕ, zero, suc, ◌+◌, Bool, true, false, not, ◌&&◌, ◌||◌, nat_eq, map, List, [], ◌∷◌, ◌++◌, length, slice_get, Contains, ◌⊎◌, inl, inr, subst, sym, refl, ap, ◌∙◌, Option, Some, None, option_map}
use Rattle.std.specs.Bool.{if◌then◌else◌}
use Rattle.std.specs.Option.{option_map_or}
use Rattle.std.proofs.lemmas.Bool.{both_ways, eqb-true, and_parts, and_from, or_cases, not-false, not_from_false}
use Rattle.std.proofs.lemmas.Option.{none-some, same_Some}
use Rattle.orc_ids.specs.declared.ids.InstId.{InstId}
use Rattle.session_model.specs.Lists.{numbered}
use Rattle.session_model.specs.Plain.{Plain, UnitRow, is_unsearched, is_owned, present_at, unsearched_at, phase_deps}
use Rattle.session_model.specs.Reach.{deps_at}
use Rattle.session_model.specs.declared.rows.InstRow.{InstRow}
use Rattle.session_model.specs.declared.rows.Job.{Job}
use Rattle.session_model.specs.declared.rows.Phase.TheVariants as phase
use Rattle.session_model.specs.declared.rows.UnitPhase.{UnitPhase}
use Rattle.session_model.specs.declared.rows.UnitPhase.TheVariants as stage
use Rattle.session_model.specs.Change.{settled, waits_for, claimed}
use Rattle.session_laws.proofs.Elements.{mapped_at, numbered_parts, mapped_parts, mapped_some, none_there}
use Rattle.session_laws.proofs.Facts.{test_parts, test_from, test_is, deps_parts, deps_from, no_dep, unsearched_settled, unsearched_unclaimed, matched_more, due_some, due_none}
use Rattle.session_laws.proofs.Settling.{chosen}
use Rattle.session_laws.specs.Sound.{Sound, IsSound, RowFits, UnitFits, is_sure, sure_at, searched_at, is_underway, due_at, due, its_jobs, AllMatched}
use Rattle.std.proofs.lemmas.Bool.{or_parts, and_cases}
use Rattle.session_laws.proofs.Changes.{owned_from}
use Rattle.orc_ids.specs.declared.ids.NameId.{NameId}
use Rattle.orc_ids.specs.declared.flags.SymFlags.{SymFlags}
use Rattle.session_model.specs.Meaning.{Meaning}
use Rattle.session_model.specs.declared.rows.Row.{Row}
use Rattle.session_model.specs.Match.{row_of}
use Rattle.session_model.specs.Change.{verdict, verdicts, verdict_on, is_kept, replaced_by, is_replaced, is_strong, unreplaced_row, new_row, new_rows, new_unit, without_replaced, defined, all_claimed, claimed_for, claimed_row}
use Rattle.session_laws.proofs.Changes.{sound_claimed, sound_linked}
use Rattle.session_laws.proofs.Elements.{appended_cases, pushed_cases, pushed_last, front_some, numbered_length, numbered_some}
use Rattle.session_laws.proofs.Settling.{settling_keeps}
use Rattle.session_model.specs.declared.rows.Query.{Query}
use Rattle.session_model.specs.declared.rows.Verdict.{Verdict}
use Rattle.session_laws.specs.Sound.{row_stage, fits}
use Rattle.session_laws.proofs.RowStages.{row_is, unclaimed_row}
use Rattle.session_model.specs.declared.rows.Verdict.TheVariants.{Kept, Replaces, Discarded, Clashes}

-- Defining

-- only unsearched instances are replaced
pub replaced_unsearched : (rows : List InstRow) (d : ℕ) (offers : List (NameId × SymFlags)) (i : ℕ) → is_replaced (verdicts rows d offers) i ≡ true → unsearched_at rows i ≡ true
replaced_unsearched rows d [] i h = absurd (both_ways false refl h)
replaced_unsearched rows d (offer ∷ offers) i h = split (or_cases (option_map_or (nat_eq i) (replaced_by (verdict rows d offer)) false) (is_replaced (verdicts rows d offers) i) h) (replaced_unsearched rows d offers i)
  where
    by_verdict : (flags : SymFlags) (o : Option Row) → option_map_or (nat_eq i) (replaced_by (option_map_or (verdict_on rows flags) o Kept)) false ≡ true → unsearched_at rows i ≡ true
    by_verdict flags None h = absurd (both_ways false refl h)
    by_verdict flags (Some old) h = chosen (λ w. option_map_or (nat_eq i) (replaced_by w) false ≡ true → unsearched_at rows i ≡ true) (not (is_strong flags)) Discarded
        (if is_strong old.flags || not (unsearched_at rows old.inst.0) then Clashes old.inst else Replaces old.inst)
        (λ b h. absurd (both_ways false refl h))
        (λ b. chosen (λ w. option_map_or (nat_eq i) (replaced_by w) false ≡ true → unsearched_at rows i ≡ true) (is_strong old.flags || not (unsearched_at rows old.inst.0)) (Clashes old.inst) (Replaces old.inst)
        (λ c h. absurd (both_ways false refl h))
        (λ c h. subst (λ k. unsearched_at rows k ≡ true) (sym (eqb-true i old.inst.0 h)) (not-false (unsearched_at rows old.inst.0) (or_parts (is_strong old.flags) (not (unsearched_at rows old.inst.0)) c).1))) h

    split : (option_map_or (nat_eq i) (replaced_by (verdict rows d offer)) false ≡ true) ⊎ (is_replaced (verdicts rows d offers) i ≡ true) → (is_replaced (verdicts rows d offers) i ≡ true → unsearched_at rows i ≡ true) → unsearched_at rows i ≡ true
    split (inl a) rest = by_verdict offer.1 (row_of rows d offer.0.0) a
    split (inr b) rest = rest b

-- a new row is the unit's, present and unsearched
record IsNew (u : ℕ) (r : InstRow) : Type 0 where
  unit : r.unit.0 ≡ u
  phase_is : r.phase ≡ phase.Unsearched
  present : r.present ≡ true

new_rows_new : (d u k : ℕ) (offers : List (NameId × SymFlags)) (found : List Verdict) (n : ℕ) (r : InstRow) → slice_get (new_rows d u k offers found) n ≡ Some r → IsNew u r
new_rows_new d u k [] found n r e = absurd (none-some r e)
new_rows_new d u k (offer ∷ offers) [] n r e = absurd (none-some r e)
new_rows_new d u k (offer ∷ offers) (v ∷ vs) n r e = chosen (λ rs. slice_get rs n ≡ Some r → IsNew u r) (is_kept v) (new_row d u k offer ∷ new_rows d u (k + 1) offers vs) (new_rows d u (k + 1) offers vs)
    (λ b. with_one n (new_rows_new d u (k + 1) offers vs))
    (λ b. new_rows_new d u (k + 1) offers vs n r) e
  where
    with_one : (n : ℕ) → ((j : ℕ) (s : InstRow) → slice_get (new_rows d u (k + 1) offers vs) j ≡ Some s → IsNew u s) →
        slice_get (new_row d u k offer ∷ new_rows d u (k + 1) offers vs) n ≡ Some r → IsNew u r
    with_one zero rest e = subst (IsNew u) (same_Some (new_row d u k offer) r e) (record { unit = refl; phase_is = refl; present = refl })
    with_one (suc j) rest e = rest j r e

pub new_rows_phase : (d u k : ℕ) (offers : List (NameId × SymFlags)) (found : List Verdict) (n : ℕ) (r : InstRow) → slice_get (new_rows d u k offers found) n ≡ Some r → r.phase ≡ phase.Unsearched
new_rows_phase d u k offers found n r e = (new_rows_new d u k offers found n r e).phase_is

pub new_rows_unit : (d u k : ℕ) (offers : List (NameId × SymFlags)) (found : List Verdict) (n : ℕ) (r : InstRow) → slice_get (new_rows d u k offers found) n ≡ Some r → r.unit.0 ≡ u
new_rows_unit d u k offers found n r e = (new_rows_new d u k offers found n r e).unit

pub sound_defined : (m : Plain) (d t : ℕ) (v : Meaning) → IsSound m → IsSound (defined d t v (verdicts m.rows d v.offers) m)
sound_defined m d t v s = record { rows_fit = rows_fit; deps = deps; units_fit = units_fit; jobs_due = λ u. jobs_due u (slice_get m.units u) refl; searched = λ k q e. matched_more (λ i. searched_at m.rows i ≡ true) (λ i. searched_at rows i ≡ true) searched q.matched (s.searched k q e) }
  where
    vs : List Verdict
    vs = verdicts m.rows d v.offers

    g : ℕ → InstRow → InstRow
    g = unreplaced_row vs

    h : ℕ → UnitRow → UnitRow
    h = without_replaced m.rows vs

    fresh : List InstRow
    fresh = new_rows d (length m.units) 0 v.offers vs

    rows : List InstRow
    rows = numbered g 0 m.rows ++ fresh

    units : List UnitRow
    units = numbered h 0 m.units ++ new_unit t v vs ∷ []

    old_row : (i : ℕ) (r : InstRow) → slice_get m.rows i ≡ Some r → slice_get rows i ≡ Some (g i r)
    old_row i r e = front_some (numbered g 0 m.rows) fresh i (g i r) (numbered_some g m.rows i r e)

    old_unit : (u : ℕ) (x : UnitRow) → slice_get m.units u ≡ Some x → slice_get units u ≡ Some (h u x)
    old_unit u x e = front_some (numbered h 0 m.units) (new_unit t v vs ∷ []) u (h u x) (numbered_some h m.units u x e)

    searched : (i : ℕ) → searched_at m.rows i ≡ true → searched_at rows i ≡ true
    searched i e = let p = test_parts (λ (r : InstRow). not (is_unsearched r.phase)) m.rows i e in test_from (λ (r : InstRow). not (is_unsearched r.phase)) rows i (g i p.0) (old_row i p.0 p.1) p.2

    old_fits : (i : ℕ) (r : InstRow) → slice_get m.rows i ≡ Some r → RowFits units (g i r)
    old_fits i r e = record { here = λ p. let x = (s.rows_fit i r e).here (and_parts r.present (not (is_replaced vs i)) p).0 in (h r.unit.0 x.0, old_unit r.unit.0 x.0 x.1, x.2); gone = λ n. gone (and_cases r.present (not (is_replaced vs i)) n) }
      where
        gone : (r.present ≡ false) ⊎ (not (is_replaced vs i) ≡ false) → is_underway r.phase ≡ false
        gone (inl n) = (s.rows_fit i r e).gone n
        gone (inr n) = unsearched_settled r.phase (sym (test_is (λ (y : InstRow). is_unsearched y.phase) m.rows i r e) ∙ replaced_unsearched m.rows d v.offers i (not-false (is_replaced vs i) n))

    new_fits : (r : InstRow) → IsNew (length m.units) r → RowFits units r
    new_fits r p = record {
      here = λ e. (
        new_unit t v vs,
        ap (slice_get units) (p.unit ∙ sym (numbered_length h 0 m.units)) ∙ pushed_last (numbered h 0 m.units) (new_unit t v vs),
        subst (λ q. fits q r.phase ≡ true) (sym (row_is (new_unit t v vs) stage.Unclaimed refl refl)) (ap is_unsearched p.phase_is),
      );
      gone = λ n. absurd (both_ways r.present n p.present);
    }

    rows_fit : (i : ℕ) (r : InstRow) → slice_get rows i ≡ Some r → RowFits units r
    rows_fit i r e = split (appended_cases (numbered g 0 m.rows) fresh i r e)
      where
        split : (slice_get (numbered g 0 m.rows) i ≡ Some r) ⊎ ((k : ℕ) × (i ≡ length (numbered g 0 m.rows) + k) × (slice_get fresh k ≡ Some r)) → RowFits units r
        split (inl a) = let p = numbered_parts g m.rows i r a in subst (RowFits units) (sym p.2) (old_fits i p.0 p.1)
        split (inr b) = new_fits r (new_rows_new d (length m.units) 0 v.offers vs b.0 r b.2)

    deps : (i j : ℕ) → Contains (deps_at rows i) j → sure_at rows j ≡ true
    deps i j c = found (deps_parts rows i j c)
      where
        stays : sure_at m.rows j ≡ true → sure_at rows j ≡ true
        stays e = let p = test_parts is_sure m.rows j e in test_from is_sure rows j (g j p.0) (old_row j p.0 p.1) p.2

        found : (r : InstRow) × (slice_get rows i ≡ Some r) × Contains (phase_deps r.phase) j → sure_at rows j ≡ true
        found p = split (appended_cases (numbered g 0 m.rows) fresh i p.0 p.1)
          where
            split : (slice_get (numbered g 0 m.rows) i ≡ Some p.0) ⊎ ((k : ℕ) × (i ≡ length (numbered g 0 m.rows) + k) × (slice_get fresh k ≡ Some p.0)) → sure_at rows j ≡ true
            split (inl a) = let q = numbered_parts g m.rows i p.0 a in stays (s.deps i j (deps_from m.rows i j q.0 q.1 (subst (λ (y : InstRow). Contains (phase_deps y.phase) j) q.2 p.2)))
            split (inr b) = absurd (no_dep j (subst (λ f. Contains (phase_deps f) j) (new_rows_new d (length m.units) 0 v.offers vs b.0 p.0 b.2).phase_is p.2))

    old_unit_fits : (u : ℕ) (x : UnitRow) → slice_get m.units u ≡ Some x → UnitFits m.queries u (h u x)
    old_unit_fits u x e = record { seat = (s.units_fit u x e).seat; waits = λ w. let l = (s.units_fit u x e).waits w in record { number = l.number; query = l.query; its = l.its; there = l.there; links = l.links; level = l.level }; early = (s.units_fit u x e).early }

    units_fit : (u : ℕ) (y : UnitRow) → slice_get units u ≡ Some y → UnitFits m.queries u y
    units_fit u y e = split (pushed_cases (numbered h 0 m.units) (new_unit t v vs) u y e)
      where
        split : (slice_get (numbered h 0 m.units) u ≡ Some y) ⊎ ((u ≡ length (numbered h 0 m.units)) × (y ≡ new_unit t v vs)) → UnitFits m.queries u y
        split (inl a) = let p = numbered_parts h m.units u y a in subst (UnitFits m.queries u) (sym p.2) (old_unit_fits u p.0 p.1)
        split (inr b) = subst (UnitFits m.queries u) (sym b.1) (record { seat = λ n. refl; waits = λ w. absurd (cc); early = λ e. refl })

    jobs_due : (u : ℕ) (o : Option UnitRow) → slice_get m.units u ≡ o → its_jobs u m.jobs ≡ due u units
    jobs_due u (Some x) e = s.jobs_due u ∙ (due_some u m.units x e ∙ sym (due_some u units (h u x) (old_unit u x e)))
    jobs_due u None e = s.jobs_due u ∙ (due_none u m.units e ∙ sym (none (slice_get units u) refl))
      where
        none : (o : Option UnitRow) → slice_get units u ≡ o → due u units ≡ []
        none None f = due_none u units f
        none (Some y) f = due_some u units y f ∙ split (pushed_cases (numbered h 0 m.units) (new_unit t v vs) u y f)
          where
            split : (slice_get (numbered h 0 m.units) u ≡ Some y) ⊎ ((u ≡ length (numbered h 0 m.units)) × (y ≡ new_unit t v vs)) → due_at u y.phase ≡ []
            split (inl a) = let p = numbered_parts h m.units u y a in none_there (slice_get m.units u) p.0 e p.1
            split (inr b) = ap (λ (z : UnitRow). due_at u z.phase) b.1

-- Lodging a query

pub sound_lodged : (rows : List InstRow) (units : List UnitRow) (queries : List Query) (jobs : List Job) (q : Query) → Sound rows units queries jobs → AllMatched (λ i. searched_at rows i ≡ true) q.matched → Sound rows units (queries ++ q ∷ []) jobs
sound_lodged rows units queries jobs q s a = record {
  rows_fit = s.rows_fit;
  deps = s.deps;
  jobs_due = s.jobs_due;
  units_fit = λ u x e. record { seat = (s.units_fit u x e).seat; waits = λ w. let l = (s.units_fit u x e).waits w in record { number = l.number; query = l.query; its = l.its; there = front_some queries (q ∷ []) l.number l.query l.there; links = l.links; level = l.level }; early = (s.units_fit u x e).early };
  searched = λ k p e. split k p (pushed_cases queries q k p e);
}
  where
    split : (k : ℕ) (p : Query) → (slice_get queries k ≡ Some p) ⊎ ((k ≡ length queries) × (p ≡ q)) → AllMatched (λ i. searched_at rows i ≡ true) p.matched
    split k p (inl e) = s.searched k p e
    split k p (inr e) = subst (λ (r : Query). AllMatched (λ i. searched_at rows i ≡ true) r.matched) (sym e.1) a

-- Moving

pub sound_moved : (rows : List InstRow) (units : List UnitRow) (queries : List Query) (jobs : List Job) (f : UnitRow → ℕ) → Sound rows units queries jobs →
    Sound rows (map (λ (x : UnitRow). record x { tracker = f x }) units) queries jobs
sound_moved rows units queries jobs f s = record {
  deps = s.deps;
  searched = s.searched;
  rows_fit = λ i r e. record { here = λ p. let x = (s.rows_fit i r e).here p in (h x.0, mapped_some h units r.unit.0 x.0 x.1, x.2); gone = (s.rows_fit i r e).gone };
  units_fit = λ u y e. let p = mapped_parts h units u y e in subst (UnitFits queries u) (sym p.2) (unit_at u p.0 p.1);
  jobs_due = λ u. s.jobs_due u ∙ (same u (slice_get units u) ∙ ap (λ o. option_map_or (λ (y : UnitRow). due_at u y.phase) o []) (sym (mapped_at h units u)));
}
  where
    h : UnitRow → UnitRow
    h x = record x { tracker = f x }

    unit_at : (u : ℕ) (x : UnitRow) → slice_get units u ≡ Some x → UnitFits queries u (h x)
    unit_at u x e = record { seat = (s.units_fit u x e).seat; waits = λ w. let l = (s.units_fit u x e).waits w in record { number = l.number; query = l.query; its = l.its; there = l.there; links = l.links; level = l.level }; early = (s.units_fit u x e).early }

    same : (u : ℕ) (o : Option UnitRow) → option_map_or (λ (y : UnitRow). due_at u y.phase) o [] ≡ option_map_or (λ (y : UnitRow). due_at u y.phase) (option_map h o) []
    same u None = refl
    same u (Some x) = refl

-- Claiming

-- the instance is there, and present
abbrev pub IsHere : List InstRow → ℕ → Type 0
IsHere rows i = present_at rows i ≡ true

claimed_here : (u : ℕ) (m : Plain) (i : ℕ) → IsHere m.rows i → IsHere (claimed u m).rows i
claimed_here u m i e = let p = test_parts (λ (r : InstRow). r.present) m.rows i e in
    test_from (λ (r : InstRow). r.present) (claimed u m).rows i (claimed_row u p.0) (mapped_some (claimed_row u) m.rows i p.0 p.1) p.2

-- what each claim of the unit of a present unsearched instance keeps
pub claim_keeps : (P : Plain → Type 0) → ((i : ℕ) (r : InstRow) (m : Plain) → P m → slice_get m.rows i ≡ Some r → r.present ≡ true → is_unsearched r.phase ≡ true → P (claimed r.unit.0 m)) →
    (i : InstId) (m : Plain) → IsHere m.rows i.0 → P m → P (claimed_for i m)
claim_keeps P step i m here p = split (slice_get m.rows i.0) refl
  where
    split : (o : Option InstRow) → slice_get m.rows i.0 ≡ o → P (option_map_or (λ (r : InstRow). if is_unsearched r.phase then claimed r.unit.0 m else m) o m)
    split None e = p
    split (Some r) e = chosen P (is_unsearched r.phase) (claimed r.unit.0 m) m (λ b. step i.0 r m p e (sym (test_is (λ (y : InstRow). y.present) m.rows i.0 r e) ∙ here) b) (λ b. p)

pub claims_keep : (P : Plain → Type 0) → ((i : ℕ) (r : InstRow) (m : Plain) → P m → slice_get m.rows i ≡ Some r → r.present ≡ true → is_unsearched r.phase ≡ true → P (claimed r.unit.0 m)) →
    (os : List (Option InstId)) (m : Plain) → AllMatched (IsHere m.rows) os → P m → P (all_claimed os m)
claims_keep P step [] m a p = p
claims_keep P step (None ∷ os) m a p = claims_keep P step os m a p
claims_keep P step (Some i ∷ os) m a p = claims_keep P step os (claimed_for i m)
    (claim_keeps (λ n. AllMatched (IsHere n.rows) os) (λ k r n h e present unsearched. matched_more (IsHere n.rows) (IsHere (claimed r.unit.0 n).rows) (claimed_here r.unit.0 n) os h) i m a.0 a.1)
    (claim_keeps P step i m a.0 p)

pub claim_sound : (i : ℕ) (r : InstRow) (m : Plain) → IsSound m → slice_get m.rows i ≡ Some r → r.present ≡ true → is_unsearched r.phase ≡ true → IsSound (claimed r.unit.0 m)
claim_sound i r m s e present unsearched = let x = (s.rows_fit i r e).here present in
    sound_claimed m.rows m.units m.queries m.jobs r.unit.0 x.0 s x.1 (unclaimed_row x.0 (unsearched_unclaimed (row_stage x.0) r.phase x.2 unsearched))

-- what was searched stays so
claim_searched : (u : ℕ) (m : Plain) (i : ℕ) → searched_at m.rows i ≡ true → searched_at (claimed u m).rows i ≡ true
claim_searched u m i e = let p = test_parts (λ (r : InstRow). not (is_unsearched r.phase)) m.rows i e in
    test_from (λ (r : InstRow). not (is_unsearched r.phase)) (claimed u m).rows i (claimed_row u p.0) (mapped_some (claimed_row u) m.rows i p.0 p.1)
    (chosen (λ f. not (is_unsearched f) ≡ true) (is_owned u p.0 && is_unsearched p.0.phase) phase.Claimed p.0.phase (λ b. refl) (λ b. p.2))

-- an instance that is claimed for was searched
claimed_searched : (i : InstId) (m : Plain) → IsHere m.rows i.0 → searched_at (claimed_for i m).rows i.0 ≡ true
claimed_searched i m here = split (slice_get m.rows i.0) refl
  where
    split : (o : Option InstRow) → slice_get m.rows i.0 ≡ o → searched_at (option_map_or (λ (r : InstRow). if is_unsearched r.phase then claimed r.unit.0 m else m) o m).rows i.0 ≡ true
    split None e = absurd (both_ways false refl (ap (λ o. option_map_or (λ (r : InstRow). r.present) o false) (sym e) ∙ here))
    split (Some r) e = chosen (λ n. searched_at n.rows i.0 ≡ true) (is_unsearched r.phase) (claimed r.unit.0 m) m
        (λ b. test_from (λ (y : InstRow). not (is_unsearched y.phase)) (claimed r.unit.0 m).rows i.0 (claimed_row r.unit.0 r) (mapped_some (claimed_row r.unit.0) m.rows i.0 r e)
        (chosen (λ f. not (is_unsearched f) ≡ true) (is_owned r.unit.0 r && is_unsearched r.phase) phase.Claimed r.phase (λ c. refl)
        (λ c. absurd (both_ways (is_owned r.unit.0 r && is_unsearched r.phase) c (and_from (is_owned r.unit.0 r) (is_unsearched r.phase) (owned_from r.unit.0 r (sym (test_is (λ (y : InstRow). y.present) m.rows i.0 r e) ∙ here) refl) b)))))
        (λ b. test_from (λ (y : InstRow). not (is_unsearched y.phase)) m.rows i.0 r e (not_from_false (is_unsearched r.phase) b))

pub all_searched : (os : List (Option InstId)) (m : Plain) → AllMatched (IsHere m.rows) os → AllMatched (λ i. searched_at (all_claimed os m).rows i ≡ true) os
all_searched [] m a = tt
all_searched (None ∷ os) m a = all_searched os m a
all_searched (Some i ∷ os) m a = (
  claims_keep (λ n. searched_at n.rows i.0 ≡ true) (λ k r n h e present unsearched. claim_searched r.unit.0 n i.0 h) os (claimed_for i m) later (claimed_searched i m a.0),
  all_searched os (claimed_for i m) later,
)
  where
    later : AllMatched (IsHere (claimed_for i m).rows) os
    later = claim_keeps (λ n. AllMatched (IsHere n.rows) os) (λ k r n h e present unsearched. matched_more (IsHere n.rows) (IsHere (claimed r.unit.0 n).rows) (claimed_here r.unit.0 n) os h) i m a.0 a.1

-- Settling

-- a unit that waits
pub waiting_parts : (m : Plain) (u k : ℕ) → waits_for m u k ≡ true → (x : UnitRow) × (slice_get m.units u ≡ Some x) × (x.phase ≡ stage.Waiting) × (x.query ≡ Some k)
waiting_parts m u k = split (slice_get m.units u) refl
  where
    is_waiting : UnitPhase → Bool
    is_waiting stage.Waiting = true
    is_waiting _ = false

    waiting : (p : UnitPhase) → is_waiting p ≡ true → p ≡ stage.Waiting
    waiting stage.Waiting e = refl
    waiting _ e = absurd (both_ways false refl e)

    its : (o : Option ℕ) → option_map_or (nat_eq k) o false ≡ true → o ≡ Some k
    its None e = absurd (both_ways false refl e)
    its (Some n) e = ap Some (sym (eqb-true k n e))

    split : (o : Option UnitRow) → slice_get m.units u ≡ o → option_map_or (λ (x : UnitRow). option_map_or (nat_eq k) x.query false && is_waiting x.phase) o false ≡ true → (x : UnitRow) × (slice_get m.units u ≡ Some x) × (x.phase ≡ stage.Waiting) × (x.query ≡ Some k)
    split None e h = absurd (both_ways false refl h)
    split (Some x) e h = let p = and_parts (option_map_or (nat_eq k) x.query false) (is_waiting x.phase) h in (x, e, waiting x.phase p.1, its x.query p.0)

pub sound_settled : (m : Plain) → IsSound m → IsSound (settled m)
sound_settled m s = settling_keeps IsSound (λ u k q n p w b e. let x = waiting_parts n u k w in sound_linked n.rows n.units n.queries n.jobs u x.0 p x.1 x.2) 0 m.queries m s
