-- How far the instances of a unit have come, at each of its phases.
use Rattle.std.proofs.Common.{not}
use Rattle.std.proofs.Common.{◌≡◌, ℕ, Bool, true, false, ◌&&◌, ◌||◌, subst, sym, refl, ap, ◌∙◌, Option, Some, None, is_some, ◌⊎◌, inl, inr}
use Rattle.std.specs.Prelude.{is_none}
use Rattle.std.specs.Bool.{if◌then◌else◌}
use Rattle.std.proofs.lemmas.Bool.{both_ways, and_parts, or_cases}
use Rattle.session_model.proofs.Phases.{started_stage, linking_stage}
use Rattle.session_model.specs.Answer.{is_stage, can_resolve, can_link, can_emit}
use Rattle.session_model.specs.Change.{resolved_unit, waiting_unit, target_address}
use Rattle.session_model.specs.Plain.{UnitRow, is_alias, unit_shape}
use Rattle.session_model.specs.declared.rows.Phase.{Phase}
use Rattle.session_model.specs.declared.rows.Phase.TheVariants as phase
use Rattle.session_model.specs.declared.rows.UnitPhase.{UnitPhase}
use Rattle.session_model.specs.declared.rows.UnitPhase.TheVariants as stage
use Rattle.session_laws.specs.Sound.{until_based, is_unbased, row_stage, is_early, is_held_phase, fits}

-- Phases that a test names

pub placed_stage : (p : UnitPhase) → is_stage stage.Placed p ≡ true → p ≡ stage.Placed
placed_stage stage.Placed e = refl
placed_stage _ e = absurd (both_ways false refl e)

pub finishing_stage : (p : UnitPhase) → is_stage stage.Finishing p ≡ true → p ≡ stage.Finishing
finishing_stage stage.Finishing e = refl
finishing_stage _ e = absurd (both_ways false refl e)

-- Row stages

abbrev pub stage_of : Bool → UnitPhase → UnitPhase
stage_of b p = if b then until_based p else p

-- at a phase where an address makes no difference
pub row_is : (x : UnitRow) (p : UnitPhase) → x.phase ≡ p → until_based p ≡ p → row_stage x ≡ p
row_is x p e same = ap (stage_of (is_unbased x)) e ∙ split (is_unbased x)
  where
    split : (b : Bool) → stage_of b p ≡ p
    split true = same
    split false = refl

-- from one such phase to another
pub row_moves : (x y : UnitRow) (s t : UnitPhase) → x.phase ≡ s → y.phase ≡ t → until_based s ≡ s → until_based t ≡ t → ((p : Phase) → fits s p ≡ true → fits t p ≡ true) → (p : Phase) → fits (row_stage x) p ≡ true → fits (row_stage y) p ≡ true
row_moves x y s t e f a b h p g = subst (λ q. fits q p ≡ true) (sym (row_is y t f b)) (h p (subst (λ q. fits q p ≡ true) (row_is x s e a) g))

-- where only the phase changes
pub row_follows : (b : Bool) (q s t : UnitPhase) → q ≡ s → until_based s ≡ until_based t → ((p : Phase) → fits s p ≡ true → fits t p ≡ true) → (p : Phase) → fits (stage_of b q) p ≡ true → fits (stage_of b t) p ≡ true
row_follows true q s t e same h p f = subst (λ r. fits r p ≡ true) (ap until_based e ∙ same) f
row_follows false q s t e same h p f = h p (subst (λ r. fits r p ≡ true) e f)

-- work goes on at a held phase, with an address or not
pub held_row : (x : UnitRow) → is_held_phase x.phase ≡ true → is_held_phase (row_stage x) ≡ true
held_row x h = split (is_unbased x) x.phase h
  where
    split : (b : Bool) (p : UnitPhase) → is_held_phase p ≡ true → is_held_phase (stage_of b p) ≡ true
    split false p h = h
    split true stage.Started h = refl
    split true stage.Placed h = refl
    split true stage.Linking h = refl
    split true stage.Finishing h = refl
    split true stage.Waiting h = refl
    split true stage.Linked h = refl
    split true stage.Unclaimed h = h
    split true stage.Listed h = h
    split true stage.Done h = h
    split true stage.Failed h = h
    split true stage.Defunct h = h

pub unclaimed_row : (x : UnitRow) → row_stage x ≡ stage.Unclaimed → x.phase ≡ stage.Unclaimed
unclaimed_row x h = split (is_unbased x) x.phase h
  where
    split : (b : Bool) (p : UnitPhase) → stage_of b p ≡ stage.Unclaimed → p ≡ stage.Unclaimed
    split false p h = h
    split true stage.Unclaimed h = refl
    split true stage.Listed h = h
    split true stage.Started h = h
    split true stage.Placed h = h
    split true stage.Linking h = h
    split true stage.Waiting h = absurd (cc)
    split true stage.Linked h = absurd (cc)
    split true stage.Finishing h = absurd (cc)
    split true stage.Done h = h
    split true stage.Failed h = h
    split true stage.Defunct h = h

-- Resolving

pub resolvable : (x : UnitRow) → can_resolve x ≡ true → ((is_alias x ≡ true) × (x.phase ≡ stage.Finishing)) ⊎ ((is_alias x ≡ false) × ((x.phase ≡ stage.Placed) ⊎ (x.phase ≡ stage.Started)))
resolvable x c = split (is_alias x) refl c
  where
    placed : (is_stage stage.Placed x.phase ≡ true) ⊎ (is_stage stage.Started x.phase && is_none (unit_shape x) ≡ true) → (x.phase ≡ stage.Placed) ⊎ (x.phase ≡ stage.Started)
    placed (inl e) = inl (placed_stage x.phase e)
    placed (inr e) = inr (started_stage x.phase (and_parts (is_stage stage.Started x.phase) (is_none (unit_shape x)) e).0)

    split : (b : Bool) → is_alias x ≡ b → (if b then is_stage stage.Finishing x.phase && is_some x.bound && is_none x.base else is_stage stage.Placed x.phase || is_stage stage.Started x.phase && is_none (unit_shape x)) ≡ true → ((is_alias x ≡ true) × (x.phase ≡ stage.Finishing)) ⊎ ((is_alias x ≡ false) × ((x.phase ≡ stage.Placed) ⊎ (x.phase ≡ stage.Started)))
    split true e c = inl (e, finishing_stage x.phase (and_parts (is_stage stage.Finishing x.phase) (is_some x.bound) (and_parts (is_stage stage.Finishing x.phase && is_some x.bound) (is_none x.base) c).0).0)
    split false e c = inr (e, placed (or_cases (is_stage stage.Placed x.phase) (is_stage stage.Started x.phase && is_none (unit_shape x)) c))

pub resolvable_held : (x : UnitRow) → can_resolve x ≡ true → is_held_phase x.phase ≡ true
resolvable_held x c = split (resolvable x c)
  where
    split : ((is_alias x ≡ true) × (x.phase ≡ stage.Finishing)) ⊎ ((is_alias x ≡ false) × ((x.phase ≡ stage.Placed) ⊎ (x.phase ≡ stage.Started))) → is_held_phase x.phase ≡ true
    split (inl p) = ap is_held_phase p.1
    split (inr (a, inl e)) = ap is_held_phase e
    split (inr (a, inr e)) = ap is_held_phase e

pub resolved_phase : (x : UnitRow) → can_resolve x ≡ true → ((resolved_unit x).phase ≡ stage.Finishing) ⊎ ((resolved_unit x).phase ≡ stage.Linking)
resolved_phase x c = split (resolvable x c)
  where
    split : ((is_alias x ≡ true) × (x.phase ≡ stage.Finishing)) ⊎ ((is_alias x ≡ false) × ((x.phase ≡ stage.Placed) ⊎ (x.phase ≡ stage.Started))) → ((resolved_unit x).phase ≡ stage.Finishing) ⊎ ((resolved_unit x).phase ≡ stage.Linking)
    split (inl p) = inl (ap (λ b. if b then x.phase else stage.Linking) p.0 ∙ p.1)
    split (inr p) = inr (ap (λ b. if b then x.phase else stage.Linking) p.0)

pub resolved_fits : (x : UnitRow) → can_resolve x ≡ true → (a : ℕ) → fits (row_stage (resolved_unit x)) (phase.Resolved a) ≡ true
resolved_fits x c a = split (is_alias x) (λ e. alias (resolvable x c) e) refl
  where
    alias : ((is_alias x ≡ true) × (x.phase ≡ stage.Finishing)) ⊎ ((is_alias x ≡ false) × ((x.phase ≡ stage.Placed) ⊎ (x.phase ≡ stage.Started))) → is_alias x ≡ true → x.phase ≡ stage.Finishing
    alias (inl p) e = p.1
    alias (inr p) e = absurd (both_ways (is_alias x) p.0 e)

    split : (b : Bool) → (is_alias x ≡ true → x.phase ≡ stage.Finishing) → is_alias x ≡ b →
        fits (stage_of (b && is_none (if b then Some (target_address x) else x.base)) (if b then x.phase else stage.Linking)) (phase.Resolved a) ≡ true
    split true f e = ap (λ p. fits p (phase.Resolved a)) (f e)
    split false f e = refl

-- Linking

pub linkable : (x : UnitRow) → can_link x ≡ true → ((is_alias x ≡ true) × (x.phase ≡ stage.Started)) ⊎ ((is_alias x ≡ false) × (x.phase ≡ stage.Linking))
linkable x c = split (is_alias x) refl c
  where
    split : (b : Bool) → is_alias x ≡ b → is_stage (if b then stage.Started else stage.Linking) x.phase ≡ true → ((is_alias x ≡ true) × (x.phase ≡ stage.Started)) ⊎ ((is_alias x ≡ false) × (x.phase ≡ stage.Linking))
    split true e c = inl (e, started_stage x.phase c)
    split false e c = inr (e, linking_stage x.phase c)

pub linkable_held : (x : UnitRow) → can_link x ≡ true → is_held_phase x.phase ≡ true
linkable_held x c = split (linkable x c)
  where
    split : ((is_alias x ≡ true) × (x.phase ≡ stage.Started)) ⊎ ((is_alias x ≡ false) × (x.phase ≡ stage.Linking)) → is_held_phase x.phase ≡ true
    split (inl p) = ap is_held_phase p.1
    split (inr p) = ap is_held_phase p.1

pub waiting_fits : (x : UnitRow) (k : ℕ) → can_link x ≡ true → (is_early x.phase ≡ true → x.base ≡ None) → (p : Phase) → fits (row_stage x) p ≡ true → fits (row_stage (waiting_unit k x)) p ≡ true
waiting_fits x k c early p f = split (linkable x c)
  where
    -- an alias has no address yet
    unbased : (o : Option ℕ) → o ≡ None → (b : Bool) → b ≡ true → fits (stage_of (b && is_none o) stage.Waiting) p ≡ fits stage.Started p
    unbased None e true b = refl
    unbased (Some n) e b c = absurd (cc)
    unbased None e false b = absurd (both_ways false refl b)

    plain : (b c : Bool) → b ≡ false → fits (stage_of (b && c) stage.Waiting) p ≡ fits stage.Waiting p
    plain false c e = refl
    plain true c e = absurd (both_ways true e refl)

    split : ((is_alias x ≡ true) × (x.phase ≡ stage.Started)) ⊎ ((is_alias x ≡ false) × (x.phase ≡ stage.Linking)) → fits (row_stage (waiting_unit k x)) p ≡ true
    split (inl q) = unbased x.base (early (ap is_early q.1)) (is_alias x) q.0 ∙ (ap (λ r. fits r p) (sym (row_is x stage.Started q.1 refl)) ∙ f)
    split (inr q) = plain (is_alias x) (is_none x.base) q.0 ∙ (ap (λ r. fits r p) (sym (row_is x stage.Linking q.1 refl)) ∙ f)

-- Emitting

pub emittable : (x : UnitRow) → can_emit x ≡ true → x.phase ≡ stage.Finishing
emittable x c = finishing_stage x.phase (and_parts (is_stage stage.Finishing x.phase) (is_some x.bound) (and_parts (is_stage stage.Finishing x.phase && is_some x.bound) _ c).0).0

-- what is emitted has an address
pub emitting_stage : (x : UnitRow) → can_emit x ≡ true → row_stage x ≡ stage.Finishing
emitting_stage x c = split (is_alias x) (is_none x.base) x.base refl (and_parts (is_stage stage.Finishing x.phase && is_some x.bound) (not (is_alias x) || is_some x.base) c).1
  where
    split : (a b : Bool) (o : Option ℕ) → is_none o ≡ b → (not a || is_some o) ≡ true → stage_of (a && b) x.phase ≡ stage.Finishing
    split true true None e d = absurd (both_ways false refl d)
    split true true (Some n) e d = absurd (both_ways false refl e)
    split true false o e d = emittable x c
    split false b o e d = emittable x c
