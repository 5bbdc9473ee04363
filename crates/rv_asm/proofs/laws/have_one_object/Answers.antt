use Rattle.rv_asm.proofs.OneObject.{one_object}
use Rattle.rv_asm.proofs.laws.have_one_object.Goals as goal

pub returns : goal.returns
returns c = one_object
