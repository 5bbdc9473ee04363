-- A link that is written or taken away closes no circle.
use Rattle.std.proofs.Common.{◌≡◌, ◌≢◌, ℕ, true, false, Option, Some, None, cond, ◌⊎◌, inl, inr, ⊎_elim, ◌==◌, if◌then◌else◌, ap, sym, subst, ◌∙◌, refl}
use Rattle.std.proofs.lemmas.Option.{same_Some, none-some}
use Rattle.std.proofs.lemmas.Bool.{cases_eq}
use Rattle.std.proofs.lemmas.Bool.Decides.{eqb_tells}
use Rattle.dep_groups.specs.Links.{linked_of, step, Ends, stop, go, Comes, here, later}

in_or_out : (o : Option ℕ) (p : ℕ) → (o ≡ Some p) ⊎ (o ≡ Some p → ⊥)
in_or_out None p = inr (λ e. none-some p e)
in_or_out (Some g) p = ⊎_elim (λ (e : g ≡ p). inl (ap Some e)) (λ (e : g ≡ p → ⊥). inr (λ f. e (same_Some g p f))) (cases_eq g p)

-- a way along which the steps stay the same stays
pub moved : (next new : ℕ → Option ℕ) (keep kept : ℕ → Type 0) → ((i : ℕ) → keep i → new i ≡ next i) → ((i : ℕ) → keep i → kept i) → (i : ℕ) → Ends next keep i → Ends new kept i
moved next new keep kept same weaker i (stop k e) = stop (weaker i k) (same i k ∙ e)
moved next new keep kept same weaker i (go {j = j} k e r) = go (weaker i k) (same i k ∙ e) (moved next new keep kept same weaker j r)

-- where a step is left out, the way ends there
pub ends_sooner : (next new : ℕ → Option ℕ) → ((i : ℕ) → (new i ≡ next i) ⊎ (new i ≡ None)) → (i : ℕ) → Ends next (λ k. Unit {0}) i → Ends new (λ k. Unit {0}) i
ends_sooner next new says i (stop k e) = ⊎_elim (λ (same : new i ≡ next i). stop k (same ∙ e)) (λ (none : new i ≡ None). stop k none) (says i)
ends_sooner next new says i (go {j = j} k e r) = ⊎_elim (λ (same : new i ≡ next i). go k (same ∙ e) (ends_sooner next new says j r)) (λ (none : new i ≡ None). stop k none) (says i)

-- a place is written
module _ (was new : ℕ → Option ℕ) (p : ℕ) (content : Option ℕ) (says : (n : ℕ) → new n ≡ (if p == n then content else was n)) where
  pub written_here : new p ≡ content
  written_here = says p ∙ ⊎_elim (λ (e : ((p == p) ≡ true) × (p ≡ p)). ap (λ b. cond b content (was p)) e.0) (λ (e : ((p == p) ≡ false) × (p ≢ p)). absurd (e.1 refl)) (eqb_tells p p)

  pub written_other : (n : ℕ) → (p ≡ n → ⊥) → new n ≡ was n
  written_other n apart = says n ∙ ⊎_elim (λ (e : ((p == n) ≡ true) × (p ≡ n)). absurd (apart e.1)) (λ (e : ((p == n) ≡ false) × (p ≢ n)). ap (λ b. cond b content (was n)) e.0) (eqb_tells p n)

  module _ (home : ℕ → Option ℕ) where
    step_same : (i : ℕ) → (home i ≡ Some p → ⊥) → step home new i ≡ step home was i
    step_same i out = sort (home i) out
      where
        sort : (o : Option ℕ) → (o ≡ Some p → ⊥) → linked_of new o ≡ linked_of was o
        sort None f = refl
        sort (Some g) f = written_other g (λ e. f (ap Some (sym e)))

    step_here : (i : ℕ) → home i ≡ Some p → step home new i ≡ content
    step_here i is = ap (linked_of new) is ∙ written_here

    -- where the new target's way does not come to the group, all ways end
    pub all_end : (to : ℕ) → content ≡ Some to → Ends (step home was) (λ i. home i ≡ Some p → ⊥) to → (i : ℕ) → Ends (step home was) (λ k. Unit {0}) i → Ends (step home new) (λ k. Unit {0}) i
    all_end to is target i (stop k e) = ⊎_elim
        (λ (at : home i ≡ Some p). go tt (step_here i at ∙ is) (moved (step home was) (step home new) (λ x. home x ≡ Some p → ⊥) (λ x. Unit {0}) step_same (λ x f. tt) to target))
        (λ (out : home i ≡ Some p → ⊥). stop tt (step_same i out ∙ e)) (in_or_out (home i) p)
    all_end to is target i (go {j = j} k e r) = ⊎_elim
        (λ (at : home i ≡ Some p). go tt (step_here i at ∙ is) (moved (step home was) (step home new) (λ x. home x ≡ Some p → ⊥) (λ x. Unit {0}) step_same (λ x f. tt) to target))
        (λ (out : home i ≡ Some p → ⊥). go tt (step_same i out ∙ e) (all_end to is target j r)) (in_or_out (home i) p)

    pub all_sooner : content ≡ None → (i : ℕ) → Ends (step home was) (λ k. Unit {0}) i → Ends (step home new) (λ k. Unit {0}) i
    all_sooner none i e = ends_sooner (step home was) (step home new) (λ k. ⊎_elim (λ (at : home k ≡ Some p). inr (step_here k at ∙ none)) (λ (out : home k ≡ Some p → ⊥). inl (step_same k out)) (in_or_out (home k) p)) i e

-- what is not linked to is on nobody's way
pub away_alone : (home link : ℕ → Option ℕ) (o : ℕ) → ((g d : ℕ) → link g ≡ Some d → home d ≡ Some o → ⊥) → (i : ℕ) → (home i ≡ Some o → ⊥) → Ends (step home link) (λ k. Unit {0}) i → Ends (step home link) (λ k. home k ≡ Some o → ⊥) i
away_alone home link o never i out (stop k e) = stop out e
away_alone home link o never i out (go {j = j} k e r) = go out e (away_alone home link o never j (from (home i) e) r)
  where
    from : (h : Option ℕ) → linked_of link h ≡ Some j → home j ≡ Some o → ⊥
    from None f is = none-some j f
    from (Some g) f is = never g j f is

-- all that a way comes to has its property
pub kept_at : (next : ℕ → Option ℕ) (keep : ℕ → Type 0) (i j : ℕ) → Ends next keep i → Comes next i j → keep j
kept_at next keep i j (stop k e) (here same) = subst keep same k
kept_at next keep i j (go k e r) (here same) = subst keep same k
kept_at next keep i j (stop k e) (later {k = n} f c) = absurd (none-some n (sym e ∙ f))
kept_at next keep i j (go {j = m} k e r) (later {k = n} f c) = kept_at next keep m j r (subst (λ x. Comes next x j) (same_Some n m (sym f ∙ e)) c)

-- and stays on it, where the steps stay
pub comes_moved : (next new : ℕ → Option ℕ) (keep : ℕ → Type 0) → ((i : ℕ) → keep i → new i ≡ next i) → (i j : ℕ) → Ends next keep i → Comes next i j → Comes new i j
comes_moved next new keep same i j e (here is) = here is
comes_moved next new keep same i j (stop k e) (later {k = n} f c) = absurd (none-some n (sym e ∙ f))
comes_moved next new keep same i j (go {j = m} k e r) (later {k = n} f c) =
    later (same i k ∙ e) (comes_moved next new keep same m j r (subst (λ x. Comes next x j) (same_Some n m (sym f ∙ e)) c))

first_step : (next : ℕ → Option ℕ) (i j : ℕ) → Comes next i j → (i ≡ j) ⊎ ((k : ℕ) × (next i ≡ Some k) × Comes next k j)
first_step next i j (here same) = inl same
first_step next i j (later {k = k} e c) = inr (k, e, c)

comes_then : (next : ℕ → Option ℕ) (i j k : ℕ) → Comes next i j → next j ≡ Some k → Comes next i k
comes_then next i j k (here same) f = later (subst (λ x. next x ≡ Some k) (sym same) f) (here refl)
comes_then next i j k (later {k = n} e c) f = later e (comes_then next n j k c f)

-- a way that ends doesn't come back
pub no_circle : (next : ℕ → Option ℕ) (keep : ℕ → Type 0) (i j : ℕ) → Ends next keep i → next i ≡ Some j → Comes next j i → ⊥
no_circle next keep i j (stop k e) f c = none-some j (sym e ∙ f)
no_circle next keep i j (go {j = m} k e r) f c = turn (λ n g d. no_circle next keep m n r g d) (same_Some j m (sym f ∙ e))
  where
    turn : ((n : ℕ) → next m ≡ Some n → Comes next n m → ⊥) → j ≡ m → ⊥
    turn never same = ⊎_elim
        (λ (at : j ≡ i). never m (subst (λ x. next x ≡ Some m) (sym at ∙ same) e) (here refl))
        (λ (s : (n : ℕ) × (next j ≡ Some n) × Comes next n i). never s.0 (subst (λ x. next x ≡ Some s.0) same s.1) (comes_then next s.0 i m s.2 e))
        (first_step next j i c)

pub way_on : (next : ℕ → Option ℕ) (keep : ℕ → Type 0) (i j : ℕ) → Ends next keep i → next i ≡ Some j → Ends next keep j
way_on next keep i j (stop k e) f = absurd (none-some j (sym e ∙ f))
way_on next keep i j (go {j = m} k e r) f = subst (λ n. Ends next keep n) (same_Some m j (sym e ∙ f)) r

pub avoids : (next : ℕ → Option ℕ) (keep : ℕ → Type 0) (j i : ℕ) → Ends next keep i → (Comes next i j → ⊥) → Ends next (λ k. keep k × (j ≡ k → ⊥)) i
avoids next keep j i (stop k e) never = stop (k, λ same. never (here (sym same))) e
avoids next keep j i (go {j = m} k e r) never = go (k, λ same. never (here (sym same))) e (avoids next keep j m r (λ c. never (later e c)))

pub next_step : (next : ℕ → Option ℕ) (i j : ℕ) → Comes next i j → (i ≡ j → ⊥) → (k : ℕ) × (next i ≡ Some k) × Comes next k j
next_step next i j c apart = ⊎_elim (λ (same : i ≡ j). absurd (apart same)) (λ (s : (k : ℕ) × (next i ≡ Some k) × Comes next k j). s) (first_step next i j c)
