use Rattle.std.proofs.Common.{◌≡◌, ◌≤◌, ◌++◌, drop}
use Rattle.link_model.specs.Graph.{own_symbols}
use Rattle.got_stubs.proofs.owners.owners_of.Given as goal

abbrev pub invariant-loop-s : goal.invariant-loop-s
invariant-loop-s l = (l.offer ≤ l.s-index) × (l.own.items ++ own_symbols (drop l.s-index l.symbols) (drop l.offer l.live) ≡ own_symbols l.symbols l.live)
