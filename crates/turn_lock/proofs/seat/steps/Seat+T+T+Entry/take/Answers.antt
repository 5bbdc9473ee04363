use Rattle.std.proofs.Common.{rules, ap, sym, ◌∙◌, ◌∷◌, Some}
use Rattle.atomic_table.specs.Table.{rest}
use Rattle.turn_lock.proofs.Steps.{takes_it}
use Rattle.turn_lock.proofs.seat.steps.Seat+T+T+Entry.take.Goals as goal

pub compare_exchange-requires : goal.compare_exchange-requires
compare_exchange-requires g c = (search rules, search rules, takes_it g.T.Counted.history g.T.Counted.seat_of g.T.Counted.lawful g.T.Counted.posted _ _ _ _ (search rules) (search rules))

pub exchange-requires : goal.exchange-requires
exchange-requires g c =
    let told = c.compare_exchange.ensures.2.0 c.if-compare_exchange-ne0.false in
    let out = ap (λ m. m.1) told.1 in (search rules, (Some told.0, out ∙ ap (λ l. (0, Some told.0) ∷ rest l) (sym out)))
