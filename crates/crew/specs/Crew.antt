-- Seats that were given out, worked, and were taken in.
use Rattle.std.specs.Prelude.{◌≡◌, ◌+◌, ◌<◌, ◌≤◌, ℕ, List, length, slice_get, All, Some}
use Rattle.atomic_table.specs.Seated.{TableId}
use Rattle.turn_lock.specs.Handles.{view, IsReady}
use Rattle.turn_lock.specs.Lists.{StartsWith, entries_of}
use Rattle.turn_lock.specs.declared.seat.Seat.{Seat}
use Rattle.turn_lock.specs.declared.view.View.{View}
use Rattle.crew.specs.declared.seating.Member.{Member}

-- a seat that has seen this much, and has made nothing
pub record IsNew {E : Type 0} (number : ℕ) (seen : List E) (v : View E) : Type 0 where
  pub number_is : v.number ≡ number
  pub seen_is : v.seen ≡ seen

module _ {E : Type 0} (seat_of : E → ℕ) where
  -- what a history is to a seat, but for what it has seen of its own entries
  pub record Says (log : List E) (v : View E) : Type 0 where
    pub later : StartsWith log v.seen
    pub told : All (StartsWith log) v.told
    pub ended : All (λ p. entries_of seat_of p.0 log ≡ p.1) v.ended
    pub mine : entries_of seat_of v.number log ≡ v.mine
    pub below : All (λ e. seat_of e < v.seats) log

  -- the history has what a seat has seen, and no entry of it beyond that
  pub record IsKept (log : List E) (w : View E) : Type 0 where
    pub later : StartsWith log w.seen
    pub own : entries_of seat_of w.number log ≡ entries_of seat_of w.number w.seen

  module _ {D : Type 0} (does : D → D → View E → View E → Type 0) where
    -- a duty that was done by a new seat of this number, which knew this at the end
    pub record WasDone (number : ℕ) (seen : List E) (old new : D) (after : View E) : Type 0 where
      pub before : View E
      pub begins : IsNew number seen before
      pub same : after.number ≡ number
      pub did : does old new before after

    -- A seat that knew v, and knows w now, gave each duty a seat, and took it in when it was done. The last duty has the first
    -- number. A history that is as w says keeps what each seat knew.
    pub record HaveWorked (v w : View E) (old new : List D) : Type 0 where
      pub views : List (View E)
      pub count : length new ≡ length old
      pub seats : length views ≡ length old
      pub each : (k number : ℕ) (d e : D) (after : View E) → slice_get old k ≡ Some d → slice_get new k ≡ Some e → slice_get views k ≡ Some after → number + k + 1 ≡ v.spare_from + length old → WasDone number v.seen d e after
      pub kept : (log : List E) → Says log w → Says log v × All (IsKept log) views

module _ {E D : Type 0} (may : D → View E → Type 0) where
  -- each duty may begin by any new seat of these numbers
  abbrev pub MayBegin : View E → List D → Type 0
  MayBegin v = All (λ d. (number : ℕ) (w : View E) → v.spare_from ≤ number → number < v.spare_to → IsNew number v.seen w → may d w)

module _ {T E : Type 0} (turn : TableId) where
  -- new seats of the turn, in the order of their numbers
  abbrev pub AreSeats : ℕ → List E → List (Seat T E) → Type 0
  AreSeats from seen seats = (k : ℕ) (s : Seat T E) → slice_get seats k ≡ Some s → IsReady turn s × IsNew (from + k) seen (view s)

  -- members whose seats are new, the last one with the lowest number
  abbrev pub AreSeated : {D : Type 0} → ℕ → List E → List (Member (Seat T E) D) → Type 0
  AreSeated {D} end seen members = (k number : ℕ) (m : Member (Seat T E) D) → slice_get members k ≡ Some m → number + k + 1 ≡ end → IsReady turn m.seat × IsNew number seen (view m.seat)

-- a member that can begin
abbrev pub IsAble : {T E D : Type 0} → (D → View E → Type 0) → TableId → Member (Seat T E) D → Type 0
IsAble may turn m = IsReady turn m.seat × may m.duty (view m.seat)

module _ {T E D : Type 0} (does : D → D → View E → View E → Type 0) (turn : TableId) where
  -- a member that has done its duty, and doesn't have the turn
  pub record HasServed (old new : Member (Seat T E) D) : Type 0 where
    pub ready : IsReady turn new.seat
    pub number : (view new.seat).number ≡ (view old.seat).number
    pub did : does old.duty new.duty (view old.seat) (view new.seat)

  -- each member has
  pub record AllServed (old new : List (Member (Seat T E) D)) : Type 0 where
    pub count : length new ≡ length old
    pub each : (k : ℕ) (m n : Member (Seat T E) D) → slice_get old k ≡ Some m → slice_get new k ≡ Some n → HasServed m n
