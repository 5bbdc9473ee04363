use Rattle.std.proofs.Common.{◌&&◌, not, List, [], vec_capacity, sym, ap, subst, ◌∙◌}
use Rattle.orc_ids.specs.declared.ids.InstId.{InstId}
use Rattle.instances.specs.Table.{is_among}
use Rattle.instances.specs.Sets.{is_set, AreFlagged}
use Rattle.instances.proofs.Sets.{none_flagged}
use Rattle.instances.proofs.inst_set.InstSet.clear.Goals as goal

pub invariant_of-self : goal.invariant_of-self
invariant_of-self c =
    let items : List InstId = c.self.inside.list.items in
    subst (λ (xs : List InstId). AreFlagged xs c.lower_all.new.flags.items (vec_capacity c.clear.new.self)) (sym c.clear.ensures.items)
    (subst (λ n. AreFlagged [] c.lower_all.new.flags.items n) (sym c.clear.ensures.capacity)
    (none_flagged c.self.inside.flags.items c.lower_all.new.flags.items items (vec_capacity c.self.inside.list) c.self.invariant c.lower_all.ensures.length
    (λ k. c.lower_all.ensures.flags k ∙ ap (λ (xs : List InstId). is_set c.self.inside.flags.items k && not (is_among xs k)) c.as_slice.ensures.value)))
