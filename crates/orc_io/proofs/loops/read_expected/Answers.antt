use Rattle.std.proofs.Common.{arith, take-add, ◌∙◌}
use Rattle.std.proofs.lemmas.Grind.{common_steps}
use Rattle.std.proofs.KnownBytes.{Consumes-trans}
use Rattle.orc_io.proofs.loops.read_expected.Goals as goal

pub loop-filled-preserved : goal.loop-filled-preserved
loop-filled-preserved g c = record {
  some = grind (arith, common_steps);
  longest = grind (arith, common_steps);
  within = grind (arith, common_steps);
  taken = rw (take-add, c.in_ok-taken.ensures.front) (Consumes-trans _ _ _ _ _ c.loop-filled.invariant.taken c.in_ok-taken.ensures.taken);
  passed = c.in_ok-taken.ensures.passed (λ e. cc) ∙ c.loop-filled.invariant.passed;
}
