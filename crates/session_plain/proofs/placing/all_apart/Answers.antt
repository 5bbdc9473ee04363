use Rattle.std.proofs.Common.{rules}
use Rattle.std.proofs.lemmas.List.Elements.{All-more}
use Rattle.session_model.specs.Answer.{Apart}
use Rattle.session_model.specs.declared.rows.Range.{Range}
use Rattle.session_plain.proofs.placing.all_apart.Goals as goal

pub loop-r-preserved : goal.loop-r-preserved
loop-r-preserved c = All-more (λ (r : Range). Apart r c.args.base c.args.need) c.args.ranges.now c.loop-r.r-index (record { base = 0; need = 0 }) c.loop-r-test.true c.loop-r.invariant
    (let e = rw c.if-not-is_apart.false at c.is_apart.ensures in e.0 (search rules))
