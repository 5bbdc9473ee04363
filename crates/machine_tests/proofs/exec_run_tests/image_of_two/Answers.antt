-- The alignments are powers of two.
use Rattle.std.proofs.Common.{refl}
use Rattle.machine_tests.proofs.exec_run_tests.image_of_two.Goals as goal

pub place-requires-clause-align : goal.place-requires-clause-align
place-requires-clause-align c = (4, refl)

pub place-requires-2-clause-align : goal.place-requires-2-clause-align
place-requires-2-clause-align c = (4, refl)
