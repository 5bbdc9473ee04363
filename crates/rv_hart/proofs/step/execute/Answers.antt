use Rattle.std.proofs.Common.{◌∙◌, ap, refl}
use Rattle.rv_hart.specs.Effects.{done}
use Rattle.rv_hart.specs.Parts.{hart_of}
use Rattle.rv_hart.specs.Step.{over}
use Rattle.rv_hart.proofs.step.execute.Goals as goal

pub returns-in-Passes-clause-row : goal.returns-in-Passes-clause-row
returns-in-Passes-clause-row g c =
    let hart = hart_of c.args.pc.now c.args.x.now in
    let map = g.M.Memory.bytes c.args.memory.now in
    c.of_insn.ensures hart map refl c.requires.first c.requires.second
    ∙ ap (λ e. done e c.args.insn.rd hart map) c.in-Passes.is
    ∙ ap (over map) (c.pass.ensures.turn c.args.x.now)
