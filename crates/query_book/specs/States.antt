-- How ends and notifiers are kept.
use Rattle.std.specs.Prelude.{◌≡◌, ℕ, zero, suc, ◌+◌, ◌≤◌, List, [], ◌∷◌, Option, None, Some, length}
use Rattle.std.specs.Vec.{vec_capacity}
use Rattle.session_model.specs.declared.rows.Query.{Query}
use Rattle.query_book.specs.declared.ends.QueryEnd.{QueryEnd}
use Rattle.query_book.specs.declared.rows.State.{State}
use Rattle.query_book.specs.declared.rows.State.TheVariants.{Open, Ended}

-- how a query ended, if it did
abbrev pub end_of : State → Option QueryEnd
end_of (Open room) = None
end_of (Ended e) = Some e

-- the query is open, and has the room for so many addresses
abbrev pub CanEnd : ℕ → State → Type 0
CanEnd n (Open room) = n ≤ vec_capacity room
CanEnd n (Ended e) = ⊥

-- how many queries are open
abbrev pub open_count : List State → ℕ
open_count [] = 0
open_count (Open room ∷ states) = suc (open_count states)
open_count (Ended e ∷ states) = open_count states

-- each open query has the room for its addresses
abbrev pub HaveRoom : List Query → List State → Type 0
HaveRoom qs [] = Unit {0}
HaveRoom [] (state ∷ states) = Unit {0}
HaveRoom (q ∷ qs) (Open room ∷ states) = (length q.matched ≤ vec_capacity room) × HaveRoom qs states
HaveRoom (q ∷ qs) (Ended e ∷ states) = HaveRoom qs states

-- only open queries have notifiers
abbrev pub OnlyOpen : {X : Type 0} → List State → List (Option X) → Type 0
OnlyOpen [] os = Unit {0}
OnlyOpen (state ∷ states) [] = Unit {0}
OnlyOpen (Open room ∷ states) (o ∷ os) = OnlyOpen states os
OnlyOpen (Ended e ∷ states) (o ∷ os) = (o ≡ None) × OnlyOpen states os

-- none of so many has a notifier
abbrev pub NoneBefore : {X : Type 0} → ℕ → List (Option X) → Type 0
NoneBefore zero os = Unit {0}
NoneBefore (suc k) [] = Unit {0}
NoneBefore (suc k) (o ∷ os) = (o ≡ None) × NoneBefore k os

-- what the rows keep
pub record IsSound {X : Type 0} (queries : List Query) (states : List State) (armed : List (Option X)) (unarmed due room : ℕ) : Type 0 where
  pub states_of : length states ≡ length queries
  pub armed_of : length armed ≡ length queries
  pub rooms : HaveRoom queries states
  pub units : due + open_count states ≤ room
  pub only_open : OnlyOpen states armed
  pub below : NoneBefore unarmed armed
  pub within : unarmed ≤ length armed
