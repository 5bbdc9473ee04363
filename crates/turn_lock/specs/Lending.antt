-- What a seat ends as where its turn was taken, and what is written through the value that is held.
use Rattle.std.specs.Prelude.{◌≡◌, [], Result}
use mir.Syntax.{named}
use Rattle.turn_lock.specs.declared.counted.Counted as counted
use Rattle.std.specs.Borrow.{Fml, RattleType, MutBor, Lends, RestsIfErr}
use Rattle.turn_lock.specs.declared.seat.Seat.{Seat}
use Rattle.turn_lock.specs.declared.seat.Busy.{Busy}
use Rattle.turn_lock.specs.declared.held.Held.{Held}
use Rattle.turn_lock.specs.contracts.seat.Seat.{the_row}
use Rattle.turn_lock.specs.contracts.held.Held as held
use Rattle.turn_lock.specs.Handles.{view, turn_of}
use Rattle.turn_lock.specs.Views.{finds_taken}

-- after Busy the seat has found the turn taken once more, and is as before in all else
abbrev pub seat_rests : (T E : RattleType) → MutBor (Seat T.Denot E.Denot) → Result (Held T.Denot E.Denot) Busy → Fml
seat_rests T E s r = RestsIfErr (the_row T E) s (λ held. held.seat.ghost_name) r (λ last. (turn_of last ≡ turn_of s.now) × (view last ≡ finds_taken (view s.now)))

-- the value that is held becomes what is left behind the reference, and all else stays
abbrev pub lends_value : (T E : RattleType) → counted.Ghosts T.Denot E.Denot → MutBor (Held T.Denot E.Denot) → MutBor T.Denot → Fml
lends_value T E g h r = Lends (held.the_row (record { mir = named 1; lft = [] }) T E g) T h r (λ x. record h.now { value = x })
