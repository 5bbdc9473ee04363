use Rattle.std.proofs.Common.{◌-◌, refl, arith, sym, length, ◌∙◌}
use Rattle.unit_fixups.proofs.Filled.{stub_words}
use Rattle.unit_fixups.proofs.Pieces.{no_stubs_yet, stub_copied}
use Rattle.unit_fixups.proofs.raw.copy_stubs.Goals as goal

pub loop-k-init : goal.loop-k-init
loop-k-init c = no_stubs_yet c.as_slice-stubs.result.now (length c.as_slice-stubs.result.now) _ refl c.requires.zeros

pub loop-k-preserved : goal.loop-k-preserved
loop-k-preserved c =
    stub_copied c.as_slice-stubs.result.now (c.loop-k.k - 1) c.loop-k.k _ _ _ _ (omega arith) (omega arith) (c.as_slice.ensures ∙ sym stub_words) c.copy_to.ensures c.loop-k.invariant
