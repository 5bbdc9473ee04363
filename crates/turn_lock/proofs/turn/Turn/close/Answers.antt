use Rattle.std.proofs.Common.{rules, sym, ◌∙◌}
use mathlib.Core.Option.{some-injective}
use Rattle.turn_lock.proofs.Seats.{nothing_home}
use Rattle.turn_lock.proofs.turn.Turn.close.Goals as goal

pub unreachable-requires : goal.unreachable-requires
unreachable-requires g c =
    let nothing = nothing_home g.T.Counted.history g.T.Counted.seat_of g.T.Counted.lawful g.T.Counted.posted _ _ _ _ _ c.close_with-closed.ensures.values.2 (search rules) in
    let home = c.take-home.ensures.value in c.in_default.not-None (some-injective _ _ (sym home ∙ nothing))
