-- The instance is marked and told, or was marked.
use Rattle.std.proofs.Common.{List, subst, sym, arith}
use Rattle.orc_ids.specs.declared.ids.InstId.{InstId}
use Rattle.dep_groups.specs.Marks.{Tells}
use Rattle.dep_groups.proofs.Tables.{place_within}
use Rattle.dep_groups.proofs.Told.{tells_none, tells_one}
use Rattle.dep_groups.proofs.marks.mark_member.Goals as goal

pub raise-requires : goal.raise-requires
raise-requires c = omega (arith, c.requires.sizes, place_within c.args.homes.now c.args.member.0 c.args.group (c.is_open.ensures.open c.if-is_open.true).0)

pub returns-then-is_open-clause-tells : goal.returns-then-is_open-clause-tells
returns-then-is_open-clause-tells c =
    subst (λ (t : List InstId). Tells c.args.marks.now c.raise.new.flags c.args.told.now.items t) (sym c.push_reserved.ensures.items)
    (tells_one c.args.marks.now c.raise.new.flags c.args.told.now.items c.args.member (c.is_open.ensures.open c.if-is_open.true).1 c.raise.ensures.set)

pub returns-else-is_open-clause-tells : goal.returns-else-is_open-clause-tells
returns-else-is_open-clause-tells c = tells_none c.args.marks.now c.args.told.now.items
