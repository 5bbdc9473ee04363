use Rattle.rv_hart.proofs.hart.Hart.set_register.Goals as goal

pub returns : goal.returns
returns c = c.set_register.ensures.register c.args.self.now.pc
