use Rattle.std.proofs.Common.{arith}
use Rattle.unit_fixups.proofs.place.place_address.Goals as goal

pub overflow_add-result : goal.overflow_add-result
overflow_add-result c =
    let fits = rw c.in-In.is at c.requires.fits in
    omega (arith, fits, c.requires.lies.inside c.in-In.block fits.0, c.block_offset.ensures, c.requires.lies.room)

pub overflow_add-result-in-In : goal.overflow_add-result-in-In
overflow_add-result-in-In c =
    let fits = rw c.in-In.is at c.requires.fits in
    omega (arith, fits, c.requires.lies.inside c.in-In.block fits.0, c.block_offset.ensures, c.requires.lies.room)
