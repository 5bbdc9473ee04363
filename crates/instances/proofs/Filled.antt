-- The table of the dependencies of a unit's instances.
use Rattle.std.proofs.Common.{◌≡◌, ℕ, suc, ◌+◌, ◌<◌, ◌≤◌, Bool, true, false, ◌||◌, ◌==◌, List, [], ◌∷◌, drop, length, slice_get, Option, Some, None, option_map, refl, ap, sym, ◌∙◌}
use Rattle.std.specs.List.{list_any}
use Rattle.std.proofs.lemmas.Option.{none-some}
use Rattle.session_model.proofs.Choices.{or_else_assoc, or_else_none}
use Rattle.list_laws.proofs.Lists.{drop_some}
use Rattle.orc_ids.specs.declared.ids.InstId.{InstId}
use Rattle.orc_ids.specs.declared.groups.Group.{Group}
use Rattle.session_model.specs.Lists.{only_if, or_else, first_some}
use Rattle.instances.specs.Groups.{group_deps, IsFilled, HasDeps}
use Rattle.instances.proofs.Lists.{drop_past}

-- Filling a table

-- what the rest gives comes after what was given so far
abbrev pub Filling : {X : Type 0} → (X → ℕ → Option (List InstId)) → List X → ℕ → List (Option (List InstId)) → List (Option (List InstId)) → Type 0
Filling F xs k start now = (j : ℕ) → option_map (λ o. or_else o (first_some (λ x. F x j) (drop k xs))) (slice_get now j) ≡ option_map (λ o. or_else o (first_some (λ x. F x j) xs)) (slice_get start j)

twice : {D : Type 0} (q : Option (Option D)) (a b : Option D) → option_map (λ o. or_else o b) (option_map (λ o. or_else o a) q) ≡ option_map (λ o. or_else o (or_else a b)) q
twice None a b = refl
twice (Some o) a b = ap Some (or_else_assoc o a b)

once : {D : Type 0} (q : Option (Option D)) → option_map (λ o. or_else o None) q ≡ q
once None = refl
once (Some o) = ap Some (or_else_none o)

pub filled_more : {X : Type 0} (F : X → ℕ → Option (List InstId)) (xs : List X) (k : ℕ) (x : X) (start now new : List (Option (List InstId))) → slice_get xs k ≡ Some x → Filling F xs k start now → IsFilled (F x) now new → Filling F xs (k + 1) start new
filled_more F xs k x start now new t so_far step j =
    ap (option_map (λ o. or_else o (first_some (λ y. F y j) (drop (k + 1) xs)))) (step j)
    ∙ twice (slice_get now j) (F x j) (first_some (λ y. F y j) (drop (k + 1) xs))
    ∙ ap (λ l. option_map (λ o. or_else o (first_some (λ y. F y j) l)) (slice_get now j)) (sym (drop_some xs k x t))
    ∙ so_far j

pub filled_all : {X : Type 0} (F : X → ℕ → Option (List InstId)) (xs : List X) (k : ℕ) (start now : List (Option (List InstId))) → length xs ≤ k → Filling F xs k start now → IsFilled (λ j. first_some (λ x. F x j) xs) start now
filled_all F xs k start now past so_far j =
    sym (once (slice_get now j)) ∙ ap (λ l. option_map (λ o. or_else o (first_some (λ x. F x j) l)) (slice_get now j)) (sym (drop_past k xs past)) ∙ so_far j

pub filled_same : (f g : ℕ → Option (List InstId)) (old new : List (Option (List InstId))) → ((j : ℕ) → f j ≡ g j) → IsFilled f old new → IsFilled g old new
filled_same f g old new h step j = step j ∙ ap (λ p. option_map (λ o. or_else o p) (slice_get old j)) (h j)

pub filled_length : (f : ℕ → Option (List InstId)) (old new : List (Option (List InstId))) → IsFilled f old new → length new ≡ length old
filled_length f [] [] h = refl
filled_length f [] (y ∷ ys) h = absurd (none-some y (sym (h 0)))
filled_length f (x ∷ xs) [] h = absurd (none-some (or_else x (f 0)) (h 0))
filled_length f (x ∷ xs) (y ∷ ys) h = ap suc (filled_length (λ j. f (suc j)) xs ys (λ j. h (suc j)))

-- a group's dependencies are given by the first of its members that is the instance
pub members_give : (i : ℕ) (deps : List InstId) (members : List InstId) → first_some (λ (m : InstId). only_if (m.0 == i) deps) members ≡ only_if (list_any (λ (m : InstId). m.0 == i) members) deps
members_give i deps [] = refl
members_give i deps (m ∷ ms) = by_test (m.0 == i) (members_give i deps ms)
  where
    by_test : (b : Bool) → first_some (λ (m : InstId). only_if (m.0 == i) deps) ms ≡ only_if (list_any (λ (m : InstId). m.0 == i) ms) deps → or_else (only_if b deps) (first_some (λ (m : InstId). only_if (m.0 == i) deps) ms) ≡ only_if (b || list_any (λ (m : InstId). m.0 == i) ms) deps
    by_test true e = refl
    by_test false e = e

pub has_deps : (groups : List Group) (first count k : ℕ) (start now : List (Option (List InstId))) → length start ≡ count → ((j : ℕ) → j < count → slice_get start j ≡ Some None) → length groups ≤ k → Filling (λ g j. group_deps (first + j) g) groups k start now → HasDeps groups first count now
has_deps groups first count k start now inside none past so_far =
    let filled = filled_all (λ g j. group_deps (first + j) g) groups k start now past so_far in
    record {
      inside = filled_length (λ j. first_some (group_deps (first + j)) groups) start now filled ∙ inside;
      each = λ j b. filled j ∙ ap (option_map (λ o. or_else o (first_some (group_deps (first + j)) groups))) (none j b);
    }
