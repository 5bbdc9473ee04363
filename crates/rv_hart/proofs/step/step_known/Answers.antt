use Rattle.std.proofs.Common.{◌≡◌, ◌∙◌, sym}
use Rattle.rv_insn.specs.Flat.{insn_of}
use Rattle.rv_hart.specs.Step.{fits}
use Rattle.rv_hart.proofs.step.step_known.Goals as goal

pub execute-requires-clause-registers : goal.execute-requires-clause-registers
execute-requires-clause-registers g c = c.requires.known.registers

pub returns-clause-step : goal.returns-clause-step
returns-clause-step g c =
    let known = c.requires.known in
    fits c.requires.aligned known.word known.there (insn_of c.args.insn) known.fits (sym c.execute.ensures.row)

pub returns-clause-zero : goal.returns-clause-zero
returns-clause-zero g c = c.execute.ensures.zero ∙ c.requires.zero
