-- Units between two jobs: one that waits, or is linked, was so before, but for the call that makes it so.
use Rattle.std.proofs.Common.{Bool}
use Rattle.session_model.specs.declared.rows.UnitPhase.{UnitPhase}
use Rattle.session_laws.proofs.Settling.{settling_keeps}
use Rattle.session_model.specs.Change.{new_unit, linked, listed_unit, started_unit, finishing_unit, placed_unit, resolved_unit, resolved_row, waiting_unit, done_unit, failed_unit, removed_unit, moved_unit, moved_generator, gone_tracker, let_go_unit, linked_unit}
use Rattle.session_model.specs.Plain.{is_alias}
use Rattle.session_model.specs.declared.rows.Verdict.{Verdict}
use Rattle.std.proofs.Common.{◌≡◌, ℕ, true, false, ◌==◌, map, List, [], ◌∷◌, length, slice_get, ◌⊎◌, inl, inr, sym, refl, ap, ◌∙◌, Option, Some, None}
use Rattle.std.specs.Bool.{if◌then◌else◌}
use Rattle.std.specs.Option.{option_map_or}
use Rattle.std.proofs.lemmas.Bool.{both_ways}
use Rattle.orc_ids.specs.declared.ids.InstId.{InstId}
use Rattle.session_model.specs.Lists.{changed_at, numbered}
use Rattle.session_model.specs.Plain.{Plain, UnitRow, GenRow, is_unsearched}
use Rattle.session_model.specs.declared.rows.InstRow.{InstRow}
use Rattle.session_model.specs.declared.rows.UnitPhase.TheVariants as stage
use Rattle.session_model.specs.Change.{settled, finish_listed, claimed}
use Rattle.session_laws.proofs.Elements.{changed_cases, numbered_parts, mapped_parts}
use Rattle.session_laws.proofs.Settling.{chosen}
use Rattle.session_model.specs.Meaning.{Meaning}
use Rattle.session_model.specs.Change.{without_replaced, defined, all_claimed, claimed_for}
use Rattle.session_laws.proofs.Elements.{pushed_cases}
use Rattle.session_model.specs.Change.{changed}
use Rattle.session_model.specs.declared.change.Change.{Change}
use Rattle.session_model.specs.declared.change.Change.TheVariants.{Nothing, MakeDylib, MakeTracker, SetOrder, Attach, Define, Generate, Spend, Ask, Start, Finish, Place, Resolve, Link, Emit, Fail, Move, Remove, LetGo}
use Rattle.session_model.specs.Change.{removed, spent}

-- the phases between two jobs, at which nobody holds the unit
abbrev pub is_rest : UnitPhase → Bool
is_rest stage.Waiting = true
is_rest stage.Linked = true
is_rest _ = false

-- it was at the phase before, with the same query
pub record WasSo (ph : UnitPhase) (units : List UnitRow) (u : ℕ) (y : UnitRow) : Type 0 where
  pub unit : UnitRow
  pub there : slice_get units u ≡ Some unit
  pub phase_is : unit.phase ≡ ph
  pub query : unit.query ≡ y.query
  pub meaning : unit.meaning ≡ y.meaning

-- each unit at the phase was so before
abbrev pub StaysBefore : UnitPhase → List UnitRow → List UnitRow → Type 0
StaysBefore ph units new = (u : ℕ) (y : UnitRow) → slice_get new u ≡ Some y → y.phase ≡ ph → WasSo ph units u y

-- the change of a unit leaves it at the phase only where it was
abbrev pub LeavesAt : UnitPhase → UnitRow → UnitRow → Type 0
LeavesAt ph x y = y.phase ≡ ph → (x.phase ≡ ph) × (x.query ≡ y.query) × (x.meaning ≡ y.meaning)

pub before_same : (ph : UnitPhase) (units : List UnitRow) → StaysBefore ph units units
before_same ph units u y t e = record { unit = y; there = t; phase_is = e; query = refl; meaning = refl }

pub before_again : (ph : UnitPhase) (units new newer : List UnitRow) → StaysBefore ph units new → StaysBefore ph new newer → StaysBefore ph units newer
before_again ph units new newer f g u y t e = let p = g u y t e in let q = f u p.unit p.there p.phase_is in
    record { unit = q.unit; there = q.there; phase_is = q.phase_is; query = q.query ∙ p.query; meaning = q.meaning ∙ p.meaning }

pub before_changed : (ph : UnitPhase) (units : List UnitRow) (v : ℕ) (f : UnitRow → UnitRow) → ((x : UnitRow) → LeavesAt ph x (f x)) → StaysBefore ph units (changed_at v f units)
before_changed ph units v f same u y t e = split (changed_cases v f units u y t)
  where
    split : ((u ≡ v) × ((x : UnitRow) × (slice_get units u ≡ Some x) × (y ≡ f x))) ⊎ ((u ≡ v → ⊥) × (slice_get units u ≡ Some y)) → WasSo ph units u y
    split (inl p) = let q = same p.1.0 (ap (λ (z : UnitRow). z.phase) (sym p.1.2) ∙ e) in
        record { unit = p.1.0; there = p.1.1; phase_is = q.0; query = q.1 ∙ ap (λ (z : UnitRow). z.query) (sym p.1.2); meaning = q.2 ∙ ap (λ (z : UnitRow). z.meaning) (sym p.1.2) }
    split (inr p) = before_same ph units u y p.1 e

-- a change to a phase of work, or to an end
pub before_at : (ph : UnitPhase) → is_rest ph ≡ true → (units : List UnitRow) (v : ℕ) (f : UnitRow → UnitRow) (to : UnitPhase) → is_rest to ≡ false → ((x : UnitRow) → (f x).phase ≡ to) → StaysBefore ph units (changed_at v f units)
before_at ph rest units v f to busy is = before_changed ph units v f (λ x e. absurd (both_ways (is_rest to) busy (ap is_rest (sym (is x) ∙ e) ∙ rest)))

-- where each unit is changed by itself
before_kept : (ph : UnitPhase) (units new : List UnitRow) (f : ℕ → UnitRow → UnitRow) → ((u : ℕ) (y : UnitRow) → slice_get new u ≡ Some y → y.phase ≡ ph → (x : UnitRow) × (slice_get units u ≡ Some x) × (y ≡ f u x)) →
    ((u : ℕ) (x : UnitRow) → LeavesAt ph x (f u x)) → StaysBefore ph units new
before_kept ph units new f from same u y t e = let p = from u y t e in let q = same u p.0 (ap (λ (z : UnitRow). z.phase) (sym p.2) ∙ e) in
    record { unit = p.0; there = p.1; phase_is = q.0; query = q.1 ∙ ap (λ (z : UnitRow). z.query) (sym p.2); meaning = q.2 ∙ ap (λ (z : UnitRow). z.meaning) (sym p.2) }

defined_before : (ph : UnitPhase) → is_rest ph ≡ true → (m : Plain) (d t : ℕ) (v : Meaning) (vs : List Verdict) → StaysBefore ph m.units (defined d t v vs m).units
defined_before ph rest m d t v vs = before_kept ph m.units (defined d t v vs m).units (without_replaced m.rows vs) from (λ u x e. (e, refl, refl))
  where
    from : (u : ℕ) (y : UnitRow) → slice_get (defined d t v vs m).units u ≡ Some y → y.phase ≡ ph → (x : UnitRow) × (slice_get m.units u ≡ Some x) × (y ≡ without_replaced m.rows vs u x)
    from u y k e = split (pushed_cases (numbered (without_replaced m.rows vs) 0 m.units) (new_unit t v vs) u y k)
      where
        split : (slice_get (numbered (without_replaced m.rows vs) 0 m.units) u ≡ Some y) ⊎ ((u ≡ length (numbered (without_replaced m.rows vs) 0 m.units)) × (y ≡ new_unit t v vs)) → (x : UnitRow) × (slice_get m.units u ≡ Some x) × (y ≡ without_replaced m.rows vs u x)
        split (inl a) = numbered_parts (without_replaced m.rows vs) m.units u y a
        split (inr a) = absurd (both_ways (is_rest stage.Unclaimed) refl (ap is_rest (ap (λ (z : UnitRow). z.phase) (sym a.1) ∙ e) ∙ rest))

claim_before : (ph : UnitPhase) → is_rest ph ≡ true → (i : InstId) (m : Plain) → StaysBefore ph m.units (claimed_for i m).units
claim_before ph rest i m = split (slice_get m.rows i.0)
  where
    split : (o : Option InstRow) → StaysBefore ph m.units (option_map_or (λ (r : InstRow). if is_unsearched r.phase then claimed r.unit.0 m else m) o m).units
    split None = before_same ph m.units
    split (Some r) = chosen (λ n. StaysBefore ph m.units n.units) (is_unsearched r.phase) (claimed r.unit.0 m) m (λ b. before_at ph rest m.units r.unit.0 listed_unit stage.Listed refl (λ x. refl)) (λ b. before_same ph m.units)

pub claims_before : (ph : UnitPhase) → is_rest ph ≡ true → (os : List (Option InstId)) (m : Plain) → StaysBefore ph m.units (all_claimed os m).units
claims_before ph rest [] m = before_same ph m.units
claims_before ph rest (None ∷ os) m = claims_before ph rest os m
claims_before ph rest (Some i ∷ os) m = before_again ph m.units (claimed_for i m).units (all_claimed os (claimed_for i m)).units (claim_before ph rest i m) (claims_before ph rest os (claimed_for i m))

abbrev pub is_link : Change Meaning → Bool
is_link (Link u found) = true
is_link _ = false

-- only a link makes a unit wait, and no change makes one linked
pub change_before : (ph : UnitPhase) → is_rest ph ≡ true → (c : Change Meaning) → (is_link c ≡ false) ⊎ (stage.Waiting ≡ ph → ⊥) → (m : Plain) → StaysBefore ph m.units (changed c m).units
change_before ph rest Nothing l m = before_same ph m.units
change_before ph rest (MakeDylib name) l m = before_same ph m.units
change_before ph rest (MakeTracker d) l m = before_same ph m.units
change_before ph rest (SetOrder d order) l m = before_same ph m.units
change_before ph rest (Attach d t u) l m = before_same ph m.units
change_before ph rest (Define d t u found) l m = defined_before ph rest m d.0 t.0 u found
change_before ph rest (Generate k found) l m = split (slice_get m.generators k.0)
  where
    split : (o : Option GenRow) → StaysBefore ph m.units (option_map_or (λ x. spent k.0 (defined x.dylib x.tracker x.meaning found m)) o m).units
    split None = before_same ph m.units
    split (Some x) = defined_before ph rest m x.dylib x.tracker x.meaning found
change_before ph rest (Spend k) l m = before_same ph m.units
change_before ph rest (Ask found lev w) l m = claims_before ph rest found m
change_before ph rest (Start t u) l m = before_at ph rest m.units u.0 (started_unit t.0) stage.Started refl (λ x. refl)
change_before ph rest (Finish t u how) l m = before_at ph rest m.units u.0 (finishing_unit t.0 how) stage.Finishing refl (λ x. refl)
change_before ph rest (Place u base) l m = before_at ph rest m.units u.0 (placed_unit base) stage.Placed refl (λ x. refl)
change_before ph rest (Resolve u) l m = split (slice_get m.units u.0)
  where
    split : (o : Option UnitRow) → StaysBefore ph m.units (option_map_or (λ (x : UnitRow). record m { rows = map (resolved_row u.0 (resolved_unit x)) m.rows; units = changed_at u.0 resolved_unit m.units }) o m).units
    split None = before_same ph m.units
    split (Some x) = before_changed ph m.units u.0 resolved_unit (λ y. chosen (λ q. q ≡ ph → (y.phase ≡ ph) × (y.query ≡ y.query) × (y.meaning ≡ y.meaning)) (is_alias y) y.phase stage.Linking (λ b e. (e, refl, refl)) (λ b e. absurd (both_ways (is_rest stage.Linking) refl (ap is_rest e ∙ rest))))
change_before ph rest (Link u found) (inl n) m = absurd (both_ways true n refl)
change_before ph rest (Link u found) (inr n) m = before_again ph m.units (all_claimed found m).units (linked u.0 found m).units (claims_before ph rest found m)
    (before_changed ph (all_claimed found m).units u.0 (waiting_unit (length m.queries)) (λ y e. absurd (n e)))
change_before ph rest (Emit u groups) l m = before_at ph rest m.units u.0 done_unit stage.Done refl (λ x. refl)
change_before ph rest (Fail u) l m = before_at ph rest m.units u.0 failed_unit stage.Failed refl (λ x. refl)
change_before ph rest (Move t to) l m = chosen (λ k. StaysBefore ph m.units k.units) (t.0 == to.0) m (record m { units = map (moved_unit t.0 to.0) m.units; generators = map (moved_generator t.0 to.0) m.generators; trackers = changed_at t.0 gone_tracker m.trackers })
    (λ b. before_same ph m.units)
    (λ b. before_kept ph m.units (map (moved_unit t.0 to.0) m.units) (λ u x. moved_unit t.0 to.0 x)
    (λ u y k e. mapped_parts (moved_unit t.0 to.0) m.units u y k) (λ u x e. (e, refl, refl)))
change_before ph rest (Remove t) l m = before_kept ph m.units (removed t.0 m).units (λ u x. removed_unit t.0 x)
    (λ u y k e. mapped_parts (removed_unit t.0) m.units u y k)
    (λ u x. chosen (λ q. q ≡ ph → (x.phase ≡ ph) × (x.query ≡ x.query) × (x.meaning ≡ x.meaning)) (x.tracker == t.0) stage.Defunct x.phase (λ b e. absurd (both_ways (is_rest stage.Defunct) refl (ap is_rest e ∙ rest))) (λ b e. (e, refl, refl)))
change_before ph rest (LetGo t u) l m = before_changed ph m.units u.0 (let_go_unit t.0) (λ y e. (e, refl, refl))

-- settling makes no unit wait
pub settled_waits_before : (m : Plain) → StaysBefore stage.Waiting m.units (settled m).units
settled_waits_before m = settling_keeps (λ n. StaysBefore stage.Waiting m.units n.units)
    (λ u k q n p w b e. before_again stage.Waiting m.units n.units (finish_listed u n).units p (before_changed stage.Waiting n.units u linked_unit (λ y f. absurd (cc)))) 0 m.queries m (before_same stage.Waiting m.units)
