use Rattle.std.proofs.Common.{◌∙◌, Bool, List, ap, arith}
use Rattle.dep_groups.specs.Places.{is_set}
use Rattle.dep_groups.proofs.Adds.{flag_grown}
use Rattle.dep_groups.proofs.add.grow_flags.Goals as goal

pub loop-flags-preserved : goal.loop-flags-preserved
loop-flags-preserved c = record {
  same = λ k. ap (λ (xs : List Bool). is_set xs k) c.push_reserved.ensures.items ∙ flag_grown c.loop-flags.flags.items k ∙ c.loop-flags.invariant.same k;
  few = omega (arith, c.push_reserved.ensures.len, c.len.ensures, c.loop-flags-test.true);
  room = omega (arith, c.push_reserved.ensures.capacity, c.loop-flags.invariant.room);
}
