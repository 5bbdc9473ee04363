-- What notifiers have heard that came back, and which they are.
use Rattle.std.specs.Prelude.{◌≡◌, ℕ, List, All, Option, None, IsSome, slice_get, Some}
use Rattle.orc_ids.specs.declared.lookup.Outcome.{Outcome}
use Rattle.notifiers.specs.declared.notes.Noted.{Noted}
use Rattle.notifiers.specs.declared.notes.Noted.TheVariants.{Fired, Unfired}

module _ {N : Type 0} (heard : N → Option Outcome) where
  -- one that was told has heard how its lookup ended, and any other one nothing
  abbrev pub HasHeard : Noted N → Type 0
  HasHeard (Fired what) = IsSome (heard what)
  HasHeard (Unfired what) = heard what ≡ None

  abbrev pub AllHaveHeard : List (Noted N) → Type 0
  AllHaveHeard notes = All HasHeard notes

-- the notifier that came back
abbrev pub object : {N : Type 0} → Noted N → N
object (Fired what) = what
object (Unfired what) = what

module _ {N : Type 0} (number : N → ℕ) where
  -- each that came back stands in the place of its number
  abbrev pub ArePlaced : List (Option (Noted N)) → Type 0
  ArePlaced places = (k : ℕ) (noted : Noted N) → slice_get places k ≡ Some (Some noted) → number (object noted) ≡ k

  -- each has its place in the list as its number
  abbrev pub AreInOrder : List (Noted N) → Type 0
  AreInOrder notes = (k : ℕ) (noted : Noted N) → slice_get notes k ≡ Some noted → number (object noted) ≡ k
