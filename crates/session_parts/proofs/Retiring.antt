-- Units that are removed one after the other, with their ranges, and generators that are spent.
use Rattle.std.proofs.Common.{◌≡◌, ◌⊎◌, inl, inr, ℕ, zero, suc, ◌<◌, Bool, true, false, ◌||◌, ◌==◌, List, [], ◌∷◌, length, slice_get, Option, Some, None, option_map, is_some, refl, ap, sym, subst, ◌∙◌, arith}
use Rattle.std.specs.Bool.{if◌then◌else◌}
use Rattle.std.specs.Prelude.{All, IsSome}
use Rattle.std.proofs.lemmas.Bool.{cases_eq, eq-eqb, ne_eqb, both_ways}
use Rattle.std.proofs.lemmas.Option.{none-some}
use Rattle.orc_ids.specs.declared.ids.GenId.{GenId}
use Rattle.orc_ids.specs.declared.ids.UnitId.{UnitId}
use Rattle.session_model.specs.Lists.{changed_at}
use Rattle.session_model.specs.Meaning.{Meaning}
use Rattle.session_laws.proofs.Declared.{changed_there, changed_elsewhere}
use Rattle.code_memory.specs.Places.{placement_of, without}
use Rattle.code_memory.specs.declared.placement.Placement.{Placement}
use Rattle.code_memory.proofs.Placed.{without_other, without_own}
use Rattle.generators.specs.declared.generator.Generator.{Generator}
use Rattle.generators.specs.Rows.{spent_row}
use Rattle.mat_unit.specs.declared.unit.Unit.{Unit as OneUnit}
use Rattle.mat_unit.specs.Changes as one
use Rattle.session_parts.specs.Parts.{is_ranged, IsDoneTo}
use Rattle.session_parts.specs.Removed.{goes, goes_too, AreRanged, AreRemoved, AreFreed, AreSpent}

-- Elements that are marked one after the other

-- those that pass are marked, and the others as before
abbrev AreMarked : {X : Type 0} → (X → X) → (ℕ → Bool) → List X → List X → Type 0
AreMarked {X} f test old new = (k : ℕ) → slice_get new k ≡ option_map (λ (x : X). if test k then f x else x) (slice_get old k)

marked_more : {X : Type 0} (f : X → X) (h : ℕ) (test : ℕ → Bool) (old mid new : List X) → ((x : X) → f (f x) ≡ f x) → mid ≡ changed_at h f old → AreMarked f test mid new → AreMarked f (λ k. h == k || test k) old new
marked_more {X} f h test old mid new twice changed marked k = marked k ∙ split (cases_eq k h)
  where
    again : (b : Bool) (o : Option X) → option_map (λ (x : X). if b then f x else x) (option_map f o) ≡ option_map f o
    again b None = refl
    again true (Some x) = ap Some (twice x)
    again false (Some x) = refl

    split : (k ≡ h) ⊎ (k ≡ h → ⊥) → option_map (λ (x : X). if test k then f x else x) (slice_get mid k) ≡ option_map (λ (x : X). if h == k || test k then f x else x) (slice_get old k)
    split (inl e) = ap (option_map (λ (x : X). if test k then f x else x)) (ap (λ xs. slice_get xs k) changed ∙ (ap (slice_get (changed_at h f old)) e ∙ (changed_there h f old ∙ ap (λ n. option_map f (slice_get old n)) (sym e))))
        ∙ (again (test k) (slice_get old k) ∙ ap (λ b. option_map (λ (x : X). if b || test k then f x else x) (slice_get old k)) (sym (eq-eqb h k (sym e))))
    split (inr n) = ap (option_map (λ (x : X). if test k then f x else x)) (ap (λ xs. slice_get xs k) changed ∙ changed_elsewhere h f old k n)
        ∙ ap (λ b. option_map (λ (x : X). if b || test k then f x else x) (slice_get old k)) (sym (ne_eqb h k (λ e. n (sym e))))

none_marked : {X : Type 0} (f : X → X) (xs : List X) → AreMarked f (λ k. false) xs xs
none_marked {X} f xs k = one (slice_get xs k)
  where
    one : (o : Option X) → o ≡ option_map (λ (x : X). if false then f x else x) o
    one None = refl
    one (Some x) = refl

-- Generators

-- what is spent in the end, where these are left to go
abbrev pub Spending : {U : Type 0} → List GenId → List (Generator U) → List GenId → List (Generator U) → Type 0
Spending {U} all old rest now = (new : List (Generator U)) → AreSpent rest now new → AreSpent all old new

pub one_spent : {U : Type 0} (all : List GenId) (old : List (Generator U)) (rest : List GenId) (g : GenId) (gs : List GenId) (now next : List (Generator U)) → rest ≡ g ∷ gs → next ≡ changed_at g.0 spent_row now → Spending all old rest now → Spending all old gs next
one_spent all old rest g gs now next steps made spending new spent = subst (λ hs. Spending all old hs now) steps spending new (marked_more spent_row g.0 (goes_too gs) now next new (λ x. refl) made spent)

pub all_spent : {U : Type 0} (all : List GenId) (old : List (Generator U)) (rest : List GenId) (now : List (Generator U)) → rest ≡ [] → Spending all old rest now → AreSpent all old now
all_spent all old rest now none spending = subst (λ hs. Spending all old hs now) none spending now (none_marked spent_row now)

-- Units

abbrev pub Removing : {U : Type 0} → List UnitId → List (OneUnit U) → List UnitId → List (OneUnit U) → Type 0
Removing {U} all old rest now = (new : List (OneUnit U)) → AreRemoved rest now new → AreRemoved all old new

pub one_removed : {U : Type 0} (all : List UnitId) (old : List (OneUnit U)) (rest : List UnitId) (u : UnitId) (us : List UnitId) (now next : List (OneUnit U)) → rest ≡ u ∷ us → next ≡ changed_at u.0 one.removed now → Removing all old rest now → Removing all old us next
one_removed all old rest u us now next steps made removing new removed = subst (λ vs. Removing all old vs now) steps removing new (marked_more one.removed u.0 (goes us) now next new (λ x. refl) made removed)

pub all_gone : {U : Type 0} (all : List UnitId) (old : List (OneUnit U)) (rest : List UnitId) (now : List (OneUnit U)) → rest ≡ [] → Removing all old rest now → AreRemoved all old now
all_gone all old rest now none removing = subst (λ vs. Removing all old vs now) none removing now (none_marked one.removed now)

-- Ranges

abbrev pub Freeing : List UnitId → List Placement → List UnitId → List Placement → Type 0
Freeing all old rest now = (new : List Placement) → AreFreed rest now new → AreFreed all old new

pub one_freed : (all : List UnitId) (old : List Placement) (rest : List UnitId) (u : UnitId) (us : List UnitId) (now next : List Placement) → rest ≡ u ∷ us → AreFreed (u ∷ []) now next → Freeing all old rest now → Freeing all old us next
one_freed all old rest u us now next steps made freeing new freed = subst (λ vs. Freeing all old vs now) steps freeing new (λ v. freed v ∙ (ap (λ o. if goes us v then None else o) (made v) ∙ either (u.0 == v) (goes us v) (placement_of now (record { 0 = v }))))
  where
    either : (a b : Bool) (o : Option Placement) → (if b then None else (if a || false then None else o)) ≡ (if a || b then None else o)
    either true true o = refl
    either true false o = refl
    either false true o = refl
    either false false o = refl

pub all_freed : (all : List UnitId) (old : List Placement) (rest : List UnitId) (now : List Placement) → rest ≡ [] → Freeing all old rest now → AreFreed all old now
all_freed all old rest now none freeing = subst (λ vs. Freeing all old vs now) none freeing now (λ v. refl)

-- a unit with a range has one in code memory
pub ranged_placed : {U : Type 0} (means : U → Meaning) (units : List (OneUnit U)) (space : List Placement) (u : UnitId) (x : OneUnit U) → AreRanged means units space → slice_get units u.0 ≡ Some x → is_ranged means x ≡ true → IsSome (placement_of space u)
ranged_placed means units space u x ranged e r = ranged u.0 x e ∙ r

-- the unit's range is free
pub range_freed : {U : Type 0} (means : U → Meaning) (units : List (OneUnit U)) (old new : List Placement) (u : UnitId) → u.0 < length units → AreRanged means units old → IsDoneTo means units u old (without old u) new → AreFreed (u ∷ []) old new
range_freed {U} means units old new u there ranged done v = let x = element_there units u.0 there in split (is_ranged means x.0) (done x.0 x.1) (ranged u.0 x.0 x.1) (cases_eq u.0 v)
  where
    element_there : {X : Type 0} (xs : List X) (i : ℕ) → i < length xs → (x : X) × (slice_get xs i ≡ Some x)
    element_there [] i b = absurd (omega (arith, b))
    element_there (x ∷ xs) zero b = (x, refl)
    element_there (x ∷ xs) (suc i) b = element_there xs i (omega (arith, b))

    none_is : (o : Option Placement) → is_some o ≡ false → o ≡ None
    none_is None h = refl
    none_is (Some p) h = absurd (both_ways true h refl)

    here : u.0 ≡ v → None ≡ (if u.0 == v || false then None else placement_of old (record { 0 = v }))
    here s = ap (λ b. if b || false then None else placement_of old (record { 0 = v })) (sym (eq-eqb u.0 v s))

    elsewhere : (u.0 ≡ v → ⊥) → placement_of old (record { 0 = v }) ≡ (if u.0 == v || false then None else placement_of old (record { 0 = v }))
    elsewhere n = ap (λ b. if b || false then None else placement_of old (record { 0 = v })) (sym (ne_eqb u.0 v n))

    split : (b : Bool) → new ≡ (if b then without old u else old) → is_some (placement_of old u) ≡ b → (u.0 ≡ v) ⊎ (u.0 ≡ v → ⊥) → placement_of new (record { 0 = v }) ≡ (if u.0 == v || false then None else placement_of old (record { 0 = v }))
    split true s r (inl i) = ap (λ ps. placement_of ps (record { 0 = v })) s ∙ (ap (λ n. placement_of (without old u) (record { 0 = n })) (sym i) ∙ (without_own old u ∙ here i))
    split true s r (inr n) = ap (λ ps. placement_of ps (record { 0 = v })) s ∙ (without_other old u (record { 0 = v }) (ne_eqb u.0 v n) ∙ elsewhere n)
    split false s r (inl i) = ap (λ ps. placement_of ps (record { 0 = v })) s ∙ (ap (λ n. placement_of old (record { 0 = n })) (sym i) ∙ (none_is (placement_of old u) r ∙ here i))
    split false s r (inr n) = ap (λ ps. placement_of ps (record { 0 = v })) s ∙ elsewhere n

-- those that still have a range are those that code memory has one of
pub still_ranged : {U : Type 0} (means : U → Meaning) (units : List (OneUnit U)) (old new : List Placement) (u : UnitId) → AreRanged means units old → AreFreed (u ∷ []) old new → AreRanged means (changed_at u.0 one.removed units) new
still_ranged {U} means units old new u ranged freed v y e = split (cases_eq v u.0)
  where
    split : (v ≡ u.0) ⊎ (v ≡ u.0 → ⊥) → is_some (placement_of new (record { 0 = v })) ≡ is_ranged means y
    split (inl s) = ap is_some (freed v ∙ ap (λ b. if b || false then None else placement_of old (record { 0 = v })) (eq-eqb u.0 v (sym s))) ∙ gone (slice_get units u.0) (sym (changed_there u.0 one.removed units) ∙ (ap (slice_get (changed_at u.0 one.removed units)) (sym s) ∙ e))
      where
        gone : (o : Option (OneUnit U)) → option_map one.removed o ≡ Some y → false ≡ is_ranged means y
        gone None h = absurd (none-some y h)
        gone (Some x) h = ap (is_ranged means) (Rattle.std.proofs.lemmas.Option.same_Some (one.removed x) y h)
    split (inr n) = ap is_some (freed v ∙ ap (λ b. if b || false then None else placement_of old (record { 0 = v })) (ne_eqb u.0 v (λ s. n (sym s)))) ∙ ranged v y (sym (changed_elsewhere u.0 one.removed units v n) ∙ e)

-- the next unit is there
pub head_there : (n : ℕ) (rest : List UnitId) (u : UnitId) (us : List UnitId) → rest ≡ u ∷ us → All (λ (v : UnitId). v.0 < n) rest → u.0 < n
head_there n rest u us steps there = subst (λ vs. All (λ (v : UnitId). v.0 < n) vs) steps there 0 u (omega (arith))
