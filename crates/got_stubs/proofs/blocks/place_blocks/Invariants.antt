use Rattle.std.proofs.Common.{◌≡◌, ◌≤◌, ◌+◌, ◌*◌, ◌++◌, take, drop}
use Rattle.std.specs.Prelude.{sum_by}
use Rattle.link_model.specs.Layout.{block_offsets, blocks_end}
use Rattle.link_model.specs.declared.graph.Block.{Block}
use Rattle.got_stubs.proofs.blocks.place_blocks.Given as goal

abbrev pub invariant-loop-block : goal.invariant-loop-block
invariant-loop-block l =
    (l.end ≤ sum_by (λ (b : Block). b.size) (take l.block-index l.g.blocks) + 4095 * l.block-index)
    × (l.offsets.items ++ block_offsets l.end (drop l.block-index l.g.blocks) ≡ block_offsets 0 l.g.blocks)
    × (blocks_end l.end (drop l.block-index l.g.blocks) ≡ blocks_end 0 l.g.blocks)
