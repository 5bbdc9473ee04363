use Rattle.std.proofs.Common.{◌≡◌, ◌≤◌, ◌+◌, ◌*◌, ◌++◌, drop}
use Rattle.link_model.specs.Layout.{in_turn}
use Rattle.got_stubs.proofs.turns.place_in_turn.Given as goal

abbrev pub invariant-loop-symbol : goal.invariant-loop-symbol
invariant-loop-symbol l =
    (l.at ≤ l.from + 16 * l.symbol-index) × (l.placed.items ++ in_turn l.at l.size (drop l.symbol-index l.symbols) ≡ in_turn l.from l.size l.symbols)
