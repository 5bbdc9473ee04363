use Rattle.unit_fixups.proofs.Pieces.{pasted_bytes}
use Rattle.unit_fixups.proofs.raw.copy_to.Goals as goal

pub returns : goal.returns
returns c = pasted_bytes c.args.image.now c.args.bytes.now c.copy_from_slice.new.self c.args.at c.requires.inside c.copy_from_slice.ensures.after
