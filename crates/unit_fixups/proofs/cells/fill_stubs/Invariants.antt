use Rattle.std.proofs.Common.{◌≡◌, drop, map}
use Rattle.std.specs.Prelude.{slice_index}
use Rattle.link_model.specs.Image.{stub_write, all_written}
use Rattle.unit_fixups.proofs.cells.fill_stubs.Given as goal

abbrev pub invariant-loop-stub : goal.invariant-loop-stub
invariant-loop-stub l = all_written (map (stub_write l.l) (drop l.stub-index l.l.stubs)) (slice_index l.image) ≡ all_written (map (stub_write l.l) l.l.stubs) (slice_index l.initial.image)
