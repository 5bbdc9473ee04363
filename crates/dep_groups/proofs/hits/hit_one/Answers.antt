-- The instance is flagged and noted.
use Rattle.std.proofs.Common.{◌≡◌, ◌∙◌, Bool, false, List, subst, sym, ap, arith}
use Rattle.std.proofs.lemmas.List.{with_items_is}
use Rattle.orc_ids.specs.declared.ids.InstId.{InstId}
use Rattle.dep_groups.specs.Places.{is_set, unset}
use Rattle.dep_groups.specs.Marks.{Tells}
use Rattle.dep_groups.proofs.Told.{tells_one}
use Rattle.dep_groups.proofs.Spreads.{noted_marked}
use Rattle.dep_groups.proofs.hits.hit_one.Goals as goal

pub returns-then-not-is_set-clause-noted : goal.returns-then-not-is_set-clause-noted
returns-then-not-is_set-clause-noted c =
    let hits = c.args.hits.now in
    let flags = c.deref_mut.result.now in
    let low : is_set flags c.args.instance.0 ≡ false = ap (λ (xs : List Bool). is_set xs c.args.instance.0) (c.deref_mut.ensures.value ∙ sym c.deref.ensures.value) ∙ sym c.if-not-is_set.ensures in
    let same : unset flags ≡ unset hits.flags.items = ap unset c.deref_mut.ensures.value in
    noted_marked hits _ flags c.raise.new.flags c.deref_mut.ensures.value (with_items_is hits.flags c.raise.new.flags (c.raise.auto.flags ∙ c.deref_mut.ensures.len)) c.requires.noted
    (subst (λ (t : List InstId). Tells flags c.raise.new.flags hits.order.items t) (sym c.push_reserved.ensures.items) (tells_one flags c.raise.new.flags hits.order.items c.args.instance low c.raise.ensures.set))
    (omega (arith, c.push_reserved.ensures.len, c.push_reserved.ensures.capacity, c.requires.noted.room, c.raise.ensures.count low, same))
