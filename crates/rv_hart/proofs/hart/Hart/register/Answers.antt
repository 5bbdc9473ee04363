use Rattle.rv_hart.proofs.hart.Hart.register.Goals as goal

pub returns : goal.returns
returns c = c.register.ensures c.args.self.now.pc
