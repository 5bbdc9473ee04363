use Rattle.std.proofs.Common.{◌&&◌, ◌==◌, nat_eq, ap, sym, ◌∙◌}
use Rattle.std.specs.Bool.{if◌then◌else◌}
use Rattle.orc_ids.specs.declared.lookup.Scope.TheVariants.{All}
use Rattle.generators.specs.Lines.{without_spent, queue_at}
use Rattle.generators.specs.Rows.{spent_at}
use Rattle.generators.proofs.Names.{names_more, and_true}
use Rattle.generators.proofs.offers.pass_names.Goals as goal

pub loop-k-preserved : goal.loop-k-preserved
loop-k-preserved g c = λ e n.
    let offers = (g.U.UnitKind.meaning c.args.unit.now).offers in
    let passed = without_spent (spent_at c.args.rows.now) in
    names_more passed offers c.loop-k.k c.offer.result All (nat_eq c.args.d.0 e) n (queue_at c.args.lines.now e n) (queue_at c.loop-k.lines e n) (queue_at c.pass.new.self e n)
    c.known.ensures.differ c.offer.ensures (c.loop-k.invariant e n)
    (c.pass.ensures e n ∙ sym (ap (λ b. if nat_eq c.args.d.0 e && b then passed (queue_at c.loop-k.lines e n) else queue_at c.loop-k.lines e n) (and_true (c.offer.result.0.0 == n))))
