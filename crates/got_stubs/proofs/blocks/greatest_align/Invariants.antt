use Rattle.std.proofs.Common.{◌≡◌, drop, max}
use Rattle.std.specs.Prelude.{fold}
use Rattle.link_model.specs.Layout.{unit_align}
use Rattle.link_model.specs.declared.graph.Block.{Block}
use Rattle.got_stubs.proofs.blocks.greatest_align.Given as goal

abbrev pub invariant-loop-block : goal.invariant-loop-block
invariant-loop-block l = fold (λ align (b : Block). max align b.align) l.align (drop l.block-index l.g.blocks) ≡ unit_align l.g
