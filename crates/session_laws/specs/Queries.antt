-- Open and ended queries.
use Rattle.std.specs.Prelude.{◌≡◌, ℕ, ◌<◌, ◌≤◌, true, ◌⊎◌, List, ◌++◌, length, take, slice_get, Some, None}
use Rattle.session_model.specs.Meaning.{Meaning}
use Rattle.session_model.specs.Query.{all_at, first_lost}
use Rattle.session_model.specs.State.{state, SettlesAt, IsOpen, IsEnd}
use Rattle.session_model.specs.History.{IsLegal}
use Rattle.session_model.specs.declared.entry.Entry.{Entry}
use Rattle.session_model.specs.declared.rows.Ending.{Ending}
use Rattle.session_model.specs.declared.rows.Query.{Query}

-- a query settles at most once, and with one end
abbrev pub EndIsUnique : Type 0
EndIsUnique = (h : List (Entry Meaning)) (number n k : ℕ) (a b : Ending) → IsEnd h number n a → IsEnd h number k b → (n ≡ k) × (a ≡ b)

-- an end stays as the history grows
abbrev pub EndStays : Type 0
EndStays = (h more : List (Entry Meaning)) (number n : ℕ) (end : Ending) → IsEnd h number n end → IsEnd (h ++ more) number n end

-- a query is open, or it has an end
abbrev pub OpenOrEnded : Type 0
OpenOrEnded = (h : List (Entry Meaning)) (number : ℕ) (q : Query) → slice_get (state h).queries number ≡ Some q →
    IsOpen h q ⊎ ((n : ℕ) × (end : Ending) × IsEnd h number n end)

-- and not both
abbrev pub OpenHasNoEnd : Type 0
OpenHasNoEnd = (h : List (Entry Meaning)) (number n : ℕ) (q : Query) (end : Ending) → slice_get (state h).queries number ≡ Some q → IsOpen h q → IsEnd h number n end → ⊥

-- a query was asked by an entry of the history
abbrev pub QueryWasAsked : Type 0
QueryWasAsked = (h : List (Entry Meaning)) (number : ℕ) (q : Query) → slice_get (state h).queries number ≡ Some q → (0 < q.asked) × (q.asked ≤ length h)

-- Where a query settles, both ends never come together: not all that it matched is at its level while
-- one of them is lost.
abbrev pub OneEndAtATime : Type 0
OneEndAtATime = (jmax : ℕ) (h : List (Entry Meaning)) (number n : ℕ) (q : Query) → IsLegal jmax h → slice_get (state h).queries number ≡ Some q → SettlesAt h q n →
    all_at (state (take n h)).rows q.level q.matched ≡ true → first_lost (state (take n h)).rows q.matched ≡ None
