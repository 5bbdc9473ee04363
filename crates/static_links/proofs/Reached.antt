-- What is reached over a list of steps, decided step by step: with one step more, it is what was reached before, and what
-- is reached from that step's end where its start is reached.
use Rattle.std.proofs.Common.{◌≡◌, ℕ, zero, suc, Bool, true, ◌&&◌, ◌||◌, ◌==◌, List, [], ◌∷◌, All, Contains, ◌⊎◌, inl, inr, refl, sym, ap, ap₂, subst, arith}
use Rattle.std.proofs.lemmas.Bool.{and_parts, and_from, or_cases, or_left, or_right, eqb-true, eq-eqb}
use Rattle.std.proofs.lemmas.List.Elements.{All-head, All-tail}
use Rattle.static_links.specs.Links.{Member, Spots, Leads, Way, Here, On}

-- a block, by its member and its number there
abbrev pub Name : Type 0
Name = ℕ × ℕ

is_same : Name → Name → Bool
is_same x y = x.0 == y.0 && x.1 == y.1

pub is_reached : List (Name × Name) → Name → Name → Bool
is_reached [] x y = is_same x y
is_reached (s ∷ ss) x y = is_reached ss x y || is_reached ss x s.0 && is_reached ss s.1 y

same_itself : (x : Name) → is_same x x ≡ true
unfolding is_same
same_itself x = and_from (x.0 == x.0) (x.1 == x.1) (eq-eqb x.0 x.0 refl) (eq-eqb x.1 x.1 refl)

same_is : (x y : Name) → is_same x y ≡ true → x ≡ y
unfolding is_same
same_is x y e =
    let parts = and_parts (x.0 == y.0) (x.1 == y.1) e in
    ap₂ (λ (a b : ℕ). (a, b)) (eqb-true x.0 y.0 parts.0) (eqb-true x.1 y.1 parts.1)

-- what is reached was reached, or by the step
by_step : (s : Name × Name) (ss : List (Name × Name)) (x y : Name) → is_reached (s ∷ ss) x y ≡ true → (is_reached ss x y ≡ true) ⊎ ((is_reached ss x s.0 ≡ true) × (is_reached ss s.1 y ≡ true))
unfolding is_reached
by_step s ss x y e = elim (or_cases (is_reached ss x y) (is_reached ss x s.0 && is_reached ss s.1 y) e) [
  | inl before ↦ inl before
  | inr step ↦ inr (and_parts (is_reached ss x s.0) (is_reached ss s.1 y) step)
]

before_step : (s : Name × Name) (ss : List (Name × Name)) (x y : Name) → is_reached ss x y ≡ true → is_reached (s ∷ ss) x y ≡ true
unfolding is_reached
before_step s ss x y e = or_left (is_reached ss x y) (is_reached ss x s.0 && is_reached ss s.1 y) e

over_step : (s : Name × Name) (ss : List (Name × Name)) (x y : Name) → is_reached ss x s.0 ≡ true → is_reached ss s.1 y ≡ true → is_reached (s ∷ ss) x y ≡ true
unfolding is_reached
over_step s ss x y p q = or_right (is_reached ss x y) (is_reached ss x s.0 && is_reached ss s.1 y) (and_from (is_reached ss x s.0) (is_reached ss s.1 y) p q)

reaches_itself : (ss : List (Name × Name)) (x : Name) → is_reached ss x x ≡ true
unfolding is_reached
reaches_itself [] x = same_itself x
reaches_itself (s ∷ ss) x = before_step s ss x x (reaches_itself ss x)

reaches_on : (ss : List (Name × Name)) (x y z : Name) → is_reached ss x y ≡ true → is_reached ss y z ≡ true → is_reached ss x z ≡ true
unfolding is_reached
reaches_on [] x y z p q = subst (λ (w : Name). is_same w z ≡ true) (sym (same_is x y p)) q
reaches_on (s ∷ ss) x y z p q = from_cases (by_step s ss x y p) (by_step s ss y z q) (reaches_on ss)
  where
    from_cases : (is_reached ss x y ≡ true) ⊎ ((is_reached ss x s.0 ≡ true) × (is_reached ss s.1 y ≡ true)) → (is_reached ss y z ≡ true) ⊎ ((is_reached ss y s.0 ≡ true) × (is_reached ss s.1 z ≡ true)) → ((a b c : Name) → is_reached ss a b ≡ true → is_reached ss b c ≡ true → is_reached ss a c ≡ true) → is_reached (s ∷ ss) x z ≡ true
    from_cases (inl a) (inl b) on = before_step s ss x z (on x y z a b)
    from_cases (inl a) (inr b) on = over_step s ss x z (on x y s.0 a b.0) b.1
    from_cases (inr a) (inl b) on = over_step s ss x z a.0 (on s.1 y z a.1 b)
    from_cases (inr a) (inr b) on = over_step s ss x z a.0 b.1

reaches_next : (ss : List (Name × Name)) (x y : Name) → Contains ss (x, y) → is_reached ss x y ≡ true
reaches_next [] x y here = absurd (omega (arith, here.1))
reaches_next (s ∷ ss) x y (zero, lt, is) =
    let start : s.0 ≡ x = ap (λ (t : Name × Name). t.0) is in
    let end : s.1 ≡ y = ap (λ (t : Name × Name). t.1) is in
    over_step s ss x y
    (subst (λ (w : Name). is_reached ss w s.0 ≡ true) start (reaches_itself ss s.0))
    (subst (λ (w : Name). is_reached ss s.1 w ≡ true) end (reaches_itself ss s.1))
reaches_next (s ∷ ss) x y (suc k, lt, is) = before_step s ss x y (reaches_next ss x y (k, omega (arith, lt), is))

-- ---- ways

way_joined : (members : List Member) (spots : Spots) (x y z : Name) → Way members spots x y → Way members spots y z → Way members spots x z
way_joined members spots x y z (Here b) way = way
way_joined members spots x y z (On from next to lead rest) way = On from next z lead (way_joined members spots next to z rest way)

-- each step leads on
abbrev pub AreSteps : List Member → Spots → List (Name × Name) → Type 0
AreSteps members spots ss = All (λ (s : Name × Name). Leads members spots s.0 s.1) ss

pub way_of_reached : (members : List Member) (spots : Spots) (ss : List (Name × Name)) (x y : Name) → AreSteps members spots ss → is_reached ss x y ≡ true → Way members spots x y
unfolding is_reached
way_of_reached members spots [] x y steps e = subst (λ (w : Name). Way members spots x w) (same_is x y e) (Here x)
way_of_reached members spots (s ∷ ss) x y steps e = from_cases (by_step s ss x y e) (λ a b. way_of_reached members spots ss a b (All-tail (λ (t : Name × Name). Leads members spots t.0 t.1) s ss steps))
  where
    from_cases : (is_reached ss x y ≡ true) ⊎ ((is_reached ss x s.0 ≡ true) × (is_reached ss s.1 y ≡ true)) → ((a b : Name) → is_reached ss a b ≡ true → Way members spots a b) → Way members spots x y
    from_cases (inl before) way = way x y before
    from_cases (inr step) way =
        let lead = All-head (λ (t : Name × Name). Leads members spots t.0 t.1) s ss steps in
        way_joined members spots x s.0 y (way x s.0 step.0) (On s.0 s.1 y lead (way s.1 y step.1))

pub reached_of_way : (members : List Member) (spots : Spots) (ss : List (Name × Name)) (x y : Name) → ((a b : Name) → Leads members spots a b → Contains ss (a, b)) → Way members spots x y → is_reached ss x y ≡ true
reached_of_way members spots ss x y steps (Here b) = reaches_itself ss b
reached_of_way members spots ss x y steps (On from next to lead rest) =
    reaches_on ss from next to (reaches_next ss from next (steps from next lead)) (reached_of_way members spots ss next to steps rest)
