-- What a walk over a list knows that asks of one element after the other whether P holds of it.
use Rattle.std.proofs.Common.{◌≡◌, ◌↔◌, ℕ, ◌+◌, ◌<◌, ◌≤◌, true, IsTrue, List, length, get_or, take, subst, rules}
use Rattle.std.specs.List.{All}
use Rattle.std.proofs.lemmas.List.{take_all}
use Rattle.std.proofs.lemmas.List.Elements.{All-more}

module _ {X : Type 0} (P : X → Type 0) (xs : List X) (k : ℕ) where
  -- what holds so far, and of the next one, holds one further
  pub more : (x : X) → k < length xs → x ≡ get_or xs k x → All P (take k xs) → P x → All P (take (k + 1) xs)
  more x within is before here = All-more P xs k x within before (subst P is here)

  -- what holds as far as the end holds of all
  pub every : length xs ≤ k → All P (take k xs) → IsTrue true ↔ All P xs
  every end before = (λ _. subst (All P) (take_all k xs end) before, λ _. search rules)
