use Rattle.std.proofs.Common.{◌≡◌, ◌+◌, ◌∙◌, Bool, List, [], ◌∷◌, false, length, ap, arith, length-append}
use Rattle.list_laws.proofs.Lists.{pushed_read}
use Rattle.instances.specs.Sets.{is_set, unset}
use Rattle.instances.proofs.Sets.{unset_grown}
use Rattle.instances.proofs.inst_set.grow.Goals as goal

pub loop-flags-preserved : goal.loop-flags-preserved
loop-flags-preserved c =
    let pushed = c.push_reserved.ensures.items in
    let long : length c.push_reserved.new.self.items ≡ length c.loop-flags.flags.items + 1 = ap length pushed ∙ length-append c.loop-flags.flags.items (false ∷ []) in
    let seen = ap length c.as_slice.ensures.value in
    record {
      same = λ k. ap (λ (xs : List Bool). is_set xs k) pushed ∙ pushed_read c.loop-flags.flags.items false k ∙ c.loop-flags.invariant.same k;
      more = omega (arith, ap unset pushed, unset_grown c.loop-flags.flags.items, c.loop-flags.invariant.more, long);
      longer = omega (arith, long, c.loop-flags.invariant.longer);
      most = λ n a b. omega (arith, long, seen, c.loop-flags-test.true, b);
      room = omega (arith, c.push_reserved.ensures.capacity, c.loop-flags.invariant.room);
    }
