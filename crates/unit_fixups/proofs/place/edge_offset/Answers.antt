use Rattle.std.proofs.Common.{arith}
use Rattle.unit_fixups.proofs.place.edge_offset.Goals as goal

pub overflow_add-result : goal.overflow_add-result
overflow_add-result c =
    omega (arith, c.requires.lies.inside c.args.e.now.block c.requires.fits.block, c.block_offset.ensures, c.requires.fits.inside, c.requires.lies.room)
