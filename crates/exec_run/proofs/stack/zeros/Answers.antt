-- The first of eight zero bytes.
use Rattle.std.proofs.Common.{refl}
use Rattle.exec_run.proofs.Filled.{taken_zeros}
use Rattle.exec_run.proofs.stack.zeros.Goals as goal

pub returns-clause-zero : goal.returns-clause-zero
returns-clause-zero c = record { long = refl; zero_at = λ k less. taken_zeros c.min.result 8 k less }
