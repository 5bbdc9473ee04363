use Rattle.turn_lock.proofs.seat.steps.Seat+T+T+Entry.add_new.Given as goal

abbrev pub ghosts-add : goal.ghosts-add
ghosts-add g a = record { written = g.T.Counted.history a.value.now }
