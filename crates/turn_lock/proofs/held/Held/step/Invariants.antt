use Rattle.turn_lock.proofs.held.Held.step.Given as goal

abbrev pub ghosts-add : goal.ghosts-add
ghosts-add g a = record { written = g.T.Counted.history a.value.now }
