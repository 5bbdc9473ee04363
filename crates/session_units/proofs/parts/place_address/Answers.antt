use Rattle.session_units.proofs.Looked.{block_there, address_in}
use Rattle.session_units.proofs.parts.place_address.Goals as goal

pub bounds-block_offsets-block : goal.bounds-block_offsets-block
bounds-block_offsets-block c = block_there c.args.g.now c.args.place c.in-In.block c.in-In.offset c.block_offsets.result.now c.in-In.is c.requires.fits c.block_offsets.ensures

pub returns-in-In : goal.returns-in-In
returns-in-In c = address_in c.args.g.now c.args.place c.args.base c.in-In.block c.in-In.offset c.block_offsets.result.now c.in-In.is c.block_offsets.ensures
