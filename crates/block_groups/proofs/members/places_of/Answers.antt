use Rattle.std.proofs.Common.{arith}
use Rattle.std.proofs.lemmas.List.{get_or_default}
use Rattle.block_groups.proofs.Instances.{places_next}
use Rattle.block_groups.proofs.members.places_of.Goals as goal

pub loop-s-preserved : goal.loop-s-preserved
loop-s-preserved c =
    places_next c.args.symbols.now c.args.symbols.now c.args.owners.now c.loop-s.s _ _ c.loop-s.places.items c.add_place.new.places.items
    c.loop-s-test.true (omega (arith, c.loop-s-test.true, c.requires))
    (get_or_default c.args.symbols.now c.loop-s.s _ _ c.loop-s-test.true)
    (get_or_default c.args.owners.now c.loop-s.s _ _ (omega (arith, c.loop-s-test.true, c.requires)))
    c.in_ok-add_place.ensures c.loop-s.invariant
