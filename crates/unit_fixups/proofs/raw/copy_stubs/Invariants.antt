use Rattle.std.proofs.Common.{◌≡◌, drop}
use Rattle.std.specs.Prelude.{slice_index}
use Rattle.link_model.specs.Image.{raw_byte}
use Rattle.unit_fixups.specs.Tables.{stub_pieces}
use Rattle.unit_fixups.proofs.raw.copy_stubs.Given as goal

abbrev pub invariant-loop-k : goal.invariant-loop-k
invariant-loop-k l = slice_index l.image ≡ raw_byte (stub_pieces (drop l.k l.stubs))
