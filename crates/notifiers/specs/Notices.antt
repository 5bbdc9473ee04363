-- What the objects of a list of notices have heard, and their numbers.
use Rattle.std.specs.Prelude.{◌≡◌, ℕ, List, Option, None, Some, ◌++◌, All, map}
use Rattle.orc_ids.specs.declared.lookup.Outcome.{Outcome}
use Rattle.notifiers.specs.declared.notice.Notice.{Notice}

-- none of them has heard anything
abbrev pub AreUnheard : {N : Type 0} → (N → Option Outcome) → List (Notice N) → Type 0
AreUnheard heard ns = All (λ n. heard n.what ≡ None) ns

-- each has heard its own outcome
abbrev pub AreHeard : {N : Type 0} → (N → Option Outcome) → List (Notice N) → Type 0
AreHeard heard ns = All (λ n. heard n.what ≡ Some n.outcome) ns

-- each has the number that its note says
abbrev pub AreNumbered : {N : Type 0} → (N → ℕ) → List (Notice N) → Type 0
AreNumbered number ns = All (λ n. number n.what ≡ n.note) ns

-- their notes and outcomes
abbrev pub outcomes : {N : Type 0} → List (Notice N) → List (ℕ × Outcome)
outcomes ns = map (λ n. (n.note, n.outcome)) ns

-- the object of a notice has heard its outcome
pub record IsTold {N : Type 0} (heard : N → Option Outcome) (old new : Notice N) : Type 0 where
  pub note : new.note ≡ old.note
  pub outcome : new.outcome ≡ old.outcome
  pub heard_it : heard new.what ≡ Some new.outcome

-- a list has gained those of another one, in order, each having heard its own outcome
pub record Told {N : Type 0} (heard : N → Option Outcome) (fires old new : List (Notice N)) : Type 0 where
  pub told : List (Notice N)
  pub added : new ≡ old ++ told
  pub same : outcomes told ≡ outcomes fires
  pub heard_it : AreHeard heard told
