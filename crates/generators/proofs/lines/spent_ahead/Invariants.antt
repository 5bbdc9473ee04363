use Rattle.std.proofs.Common.{◌≡◌, ◌+◌, ◌-◌}
use Rattle.generators.specs.Lines.{from_unspent, waiting_from}
use Rattle.generators.specs.Rows.{spent_at}
use Rattle.generators.proofs.lines.spent_ahead.Given as goal

abbrev pub invariant-loop-k : goal.invariant-loop-k
invariant-loop-k g l =
    from_unspent (spent_at l.rows) (waiting_from l.turns.entries l.d.0 l.name.0 (l.line.first + l.k) (l.line.waiting - l.k))
    ≡ from_unspent (spent_at l.rows) (waiting_from l.turns.entries l.d.0 l.name.0 l.line.first l.line.waiting)
