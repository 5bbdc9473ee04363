use Rattle.std.proofs.Common.{◌≡◌, List, ◌+◌, Bool, length, ap, sym, subst, ◌∙◌, vec_capacity, arith}
use Rattle.orc_ids.specs.declared.ids.InstId.{InstId}
use Rattle.instances.specs.Sets.{is_set, unset, AreFlagged}
use Rattle.instances.proofs.Sets.{grown}
use Rattle.instances.proofs.inst_set.InstSet.room.Goals as goal

pub invariant_of-self-2 : goal.invariant_of-self-2
invariant_of-self-2 c =
    subst (λ (xs : List InstId). AreFlagged xs c.grow.new.flags.items (vec_capacity c.reserve.new.self)) (sym c.in_ok-reserve.ensures.items)
    (grown c.self.inside.list.items c.self.inside.flags.items c.grow.new.flags.items (vec_capacity c.self.inside.list) (vec_capacity c.reserve.new.self) c.self.invariant
    (λ k. c.grow.ensures.same k ∙ ap (λ (xs : List Bool). is_set xs k) c.in_ok-reserve-2.ensures.items)
    (subst (λ (xs : List Bool). unset c.grow.new.flags.items + length xs ≡ unset xs + length c.grow.new.flags.items) c.in_ok-reserve-2.ensures.items c.grow.ensures.unset)
    (c.grow.ensures.most (vec_capacity c.reserve.new.self) (omega (arith, ap length c.in_ok-reserve-2.ensures.items, c.self.invariant.fits, c.in_ok-reserve.ensures.capacity)) (omega (arith, c.in_ok-reserve.ensures.ok))))
