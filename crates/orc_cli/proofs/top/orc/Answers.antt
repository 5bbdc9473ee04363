-- Its journal has as many places as one can have.
use Rattle.std.proofs.Common.{refl}
use Rattle.orc_cli.proofs.top.orc.Goals as goal

pub returns-clause-never_full : goal.returns-clause-never_full
returns-clause-never_full g c = c.orc_sized.ensures.never_full refl
