use Rattle.std.proofs.Common.{ap, sym, ◌∙◌}
use Rattle.tracker.specs.Holders.{up_of}
use Rattle.tracker.proofs.Trees.{climbed_none, climbed_next}
use Rattle.tracker.proofs.holders.climb.Goals as goal

pub loop-step-init : goal.loop-step-init
loop-step-init c = climbed_none c.args.nodes.now c.args.start

pub loop-step-preserved : goal.loop-step-preserved
loop-step-preserved c = c.up-n.ensures ∙ (ap (up_of c.args.nodes.now) c.loop-step.invariant ∙ sym (climbed_next c.loop-step.step c.args.nodes.now c.args.start))
