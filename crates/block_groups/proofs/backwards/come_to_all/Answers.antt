use Rattle.std.proofs.Common.{ℕ, List, [], ◌∷◌, get_or, take, sym, subst, arith}
use Rattle.std.proofs.lemmas.List.{take_more}
use Rattle.std.proofs.lemmas.List.Elements.{Contains-get_or}
use Rattle.block_groups.specs.Backwards.{IsMore}
use Rattle.block_groups.proofs.Searches.{more_then}
use Rattle.block_groups.proofs.backwards.come_to_all.Goals as goal

pub come_to-requires-clause-within : goal.come_to-requires-clause-within
come_to-requires-clause-within c =
    omega (arith, c.requires.within (get_or c.args.blocks.now c.loop-block.block-index 0) (Contains-get_or c.args.blocks.now c.loop-block.block-index 0 c.loop-block-test.true), c.loop-block.invariant.more.whole)

pub loop-block-preserved : goal.loop-block-preserved
loop-block-preserved c = record {
  noted = c.in_ok-come_to.ensures.noted;
  more = subst (λ (bs : List ℕ). IsMore c.args.search.now bs c.come_to.new.search) (sym (take_more c.args.blocks.now c.loop-block.block-index 0 c.loop-block-test.true))
      (more_then c.args.search.now c.loop-block.search c.come_to.new.search (take c.loop-block.block-index c.args.blocks.now) (get_or c.args.blocks.now c.loop-block.block-index 0 ∷ []) c.loop-block.invariant.more c.in_ok-come_to.ensures.more);
}
