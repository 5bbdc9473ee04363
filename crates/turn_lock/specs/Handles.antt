-- A turn and its seats, as clauses see them.
use Rattle.std.specs.Prelude.{◌≡◌, ℕ, true, false}
use Rattle.atomic_table.specs.Seated.{TableId}
use Rattle.turn_lock.specs.declared.seat.Seat.{Seat}
use Rattle.turn_lock.specs.declared.turn.Turn.{Turn}
use Rattle.turn_lock.specs.declared.held.Held.{Held}
use Rattle.turn_lock.specs.declared.view.View.{View}

module _ {T E : Type 0} where
  -- what a seat knows
  abbrev pub view : Seat T E → View E
  view s = s.seat.me.0

  -- which turn a seat is of
  abbrev pub turn_of : Seat T E → TableId
  turn_of s = s.seat.table_id

  -- which turn it is
  abbrev pub turn_id : Turn T E → TableId
  turn_id t = t.table.shared.table_id

  -- how many posts it was opened with
  abbrev pub post_count : Turn T E → ℕ
  post_count t = t.table.shared.key.1

  -- a seat of this turn, which doesn't have the turn
  abbrev pub IsReady : TableId → Seat T E → Type 0
  IsReady turn s = (turn_of s ≡ turn) × ((view s).turn ≡ false)

  -- what the seat with the turn knows
  abbrev pub held_view : Held T E → View E
  held_view h = view h.seat.now

  -- the value, while a seat has the turn
  abbrev pub held_value : Held T E → T
  held_value h = h.value

  -- which turn is held
  abbrev pub held_turn : Held T E → TableId
  held_turn h = turn_id h.turn.now

  -- a seat that has the turn which it is of
  abbrev pub IsHeld : Held T E → Type 0
  IsHeld h = (turn_of h.seat.now ≡ held_turn h) × ((held_view h).turn ≡ true)
