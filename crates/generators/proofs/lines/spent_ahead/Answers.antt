-- One more at the head is spent.
use Rattle.std.proofs.Common.{◌≡◌, ◌+◌, true, arith, ◌∙◌}
use Rattle.generators.specs.Lines.{turn_at}
use Rattle.generators.specs.Rows.{spent_at}
use Rattle.generators.proofs.Queues.{spent_head}
use Rattle.generators.proofs.lines.spent_ahead.Goals as goal

pub loop-k-preserved : goal.loop-k-preserved
loop-k-preserved g c =
    let who = turn_at c.args.turns.now.entries c.args.d.0 c.args.name.0 in
    let spent : spent_at c.args.rows.now (who (c.args.line.first + c.loop-k.k)) ≡ true = grind (arith, c.is_spent.ensures, c.turn_of.ensures, c.if-not-is_spent.false) in
    spent_head (spent_at c.args.rows.now) who c.args.line.first c.loop-k.k c.args.line.waiting c.loop-k-test.true spent ∙ c.loop-k.invariant
