use Rattle.std.proofs.Common.{◌∙◌, ap, sym}
use Rattle.rv_hart.specs.Step.{passed}
use Rattle.rv_hart.proofs.step.write.Goals as goal

pub returns-clause-turn : goal.returns-clause-turn
returns-clause-turn c =
    ap passed (sym (c.set_register.ensures.register c.args.pc.now)) ∙ c.pass.ensures.turn c.set_register.new.x
