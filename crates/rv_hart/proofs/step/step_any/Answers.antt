use Rattle.std.proofs.Common.{◌∙◌, ap, sym, refl}
use Rattle.rv_insn.specs.Flat.{insn_of}
use Rattle.rv_hart.specs.Parts.{hart_of}
use Rattle.rv_hart.specs.Step.{Stepped, fits, illegal, unmapped, row_of}
use Rattle.rv_hart.specs.declared.step.Cause.TheVariants.{Illegal}
use Rattle.rv_hart.specs.declared.step.Step.TheVariants.{Trap}
use Rattle.rv_hart.proofs.step.step_any.Goals as goal

pub returns-in-Known-clause-step : goal.returns-in-Known-clause-step
returns-in-Known-clause-step g c =
    let known = c.in-Known.ensures.fetched in
    let insn = insn_of c.in-Known.insn in
    fits c.requires known.word known.there insn known.fits
    (sym {b = record { hart = hart_of c.execute.new.pc c.execute.new.x; map = g.M.Memory.bytes c.execute.new.memory; answer = c.execute.result }} c.execute.ensures.row ∙ ap (row_of insn (hart_of c.args.pc.now c.args.x.now)) c.instruction.ensures.same)

pub returns-in-Illegal-clause-step : goal.returns-in-Illegal-clause-step
returns-in-Illegal-clause-step g c =
    let bad = c.in-Illegal.ensures.fetched in
    illegal c.requires c.in-Illegal.word bad.there bad.none
    (ap (λ m. record { hart = hart_of c.args.pc.now c.args.x.now; map = m; answer = Trap c.args.pc.now (Illegal c.in-Illegal.word) }) c.instruction.ensures.same)
