use Rattle.rv_hart.proofs.Registers.{plain}
use Rattle.rv_hart.proofs.hart.read_register.Goals as goal

pub returns : goal.returns
returns c = λ pc. plain c.args.x.now pc c.args.r c.requires.zero
