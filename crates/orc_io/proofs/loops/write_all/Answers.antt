use Rattle.std.proofs.Common.{take-add, arith, ◌∙◌}
use Rattle.std.proofs.lemmas.Grind.{common_steps}
use Rattle.std.proofs.lemmas.List.{take_rest}
use Rattle.std.proofs.KnownBytes.{Appends-trans}
use Rattle.orc_io.proofs.loops.write_all.Goals as goal

pub loop-done-preserved : goal.loop-done-preserved
loop-done-preserved g c = record {
  within = grind (arith, common_steps);
  written = let more = simp take_rest at (Appends-trans _ _ _ _ _ c.loop-done.invariant.written c.in_ok-done.ensures.bytes) in
      rw take-add more;
  passed = c.in_ok-done.ensures.passed ∙ c.loop-done.invariant.passed;
}
