-- The alignment is a power of two.
use Rattle.std.proofs.Common.{refl}
use Rattle.machine_tests.proofs.exec_run_tests.image_of.Goals as goal

pub place-requires-clause-align : goal.place-requires-clause-align
place-requires-clause-align c = (4, refl)
