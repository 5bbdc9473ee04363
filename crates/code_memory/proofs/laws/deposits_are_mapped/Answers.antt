-- The range is among the deposits.
use Rattle.orc_ids.specs.declared.limits.TheConstants.{CODE_START, CODE_END}
use Rattle.code_memory.proofs.Deposited.{mapped_at}
use Rattle.code_memory.proofs.laws.deposits_are_mapped.Goals as goal

pub returns : goal.returns
returns c = λ ps u p bytes k laid found full less. mapped_at CODE_START ps CODE_END u p bytes k laid.apart laid.whole found full less
