use Rattle.std.proofs.Common.{◌≡◌}
use Rattle.std.specs.Prelude.{slice_index}
use Rattle.link_model.specs.Image.{raw_byte}
use Rattle.unit_fixups.proofs.Pieces.{from}
use Rattle.unit_fixups.proofs.raw.copy_blocks.Given as goal

abbrev pub invariant-loop-k : goal.invariant-loop-k
invariant-loop-k l = slice_index l.image ≡ raw_byte (from l.g l.l l.k)
