use Rattle.std.proofs.Common.{arith}
use Rattle.unit_fixups.proofs.place.lone_value.Goals as goal

pub overflow_add-base : goal.overflow_add-base
overflow_add-base c =
    omega (arith, c.requires.lies.inside c.args.e.now.block c.requires.fits.block, c.edge_offset.ensures, c.requires.fits.inside, c.requires.lies.room)
