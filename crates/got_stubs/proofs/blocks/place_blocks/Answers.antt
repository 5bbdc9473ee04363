use Rattle.std.proofs.Common.{arith}
use Rattle.got_stubs.proofs.Bounds.{block_room}
use Rattle.got_stubs.proofs.Steps.{offsets_step, end_step}
use Rattle.got_stubs.proofs.blocks.place_blocks.Goals as goal

pub align_up-at-requires-clause-positive : goal.align_up-at-requires-clause-positive
align_up-at-requires-clause-positive c = (block_room c.args.g.now c.as_slice-block-items.result.now c.loop-block.block-index c.block-item.result c.requires c.as_slice-block-items.ensures c.loop-block-test.true c.block-item.is).positive

pub align_up-at-requires-clause-low : goal.align_up-at-requires-clause-low
align_up-at-requires-clause-low c =
    let room = block_room c.args.g.now c.as_slice-block-items.result.now c.loop-block.block-index c.block-item.result c.requires c.as_slice-block-items.ensures c.loop-block-test.true c.block-item.is in
    omega (arith, room.small, room.below, room.few)

pub overflow_add-end : goal.overflow_add-end
overflow_add-end c =
    let room = block_room c.args.g.now c.as_slice-block-items.result.now c.loop-block.block-index c.block-item.result c.requires c.as_slice-block-items.ensures c.loop-block-test.true c.block-item.is in
    omega (arith, room.small, room.below, room.few)

pub loop-block-preserved : goal.loop-block-preserved
loop-block-preserved c =
    let room = block_room c.args.g.now c.as_slice-block-items.result.now c.loop-block.block-index c.block-item.result c.requires c.as_slice-block-items.ensures c.loop-block-test.true c.block-item.is in (
      omega (arith, room.next, room.small, c.loop-block.invariant.0, c.align_up-at.ensures.near),
      offsets_step c.as_slice-block-items.result.now c.args.g.now.blocks c.loop-block.block-index c.loop-block.end c.align_up-at.result c.block-item.result c.loop-block.offsets.items c.push.new.self.items c.as_slice-block-items.ensures c.loop-block-test.true c.block-item.is c.align_up-at.ensures.exact c.in_ok-push.ensures.items c.loop-block.invariant.1,
      end_step c.as_slice-block-items.result.now c.args.g.now.blocks c.loop-block.block-index c.loop-block.end c.align_up-at.result c.block-item.result c.as_slice-block-items.ensures c.loop-block-test.true c.block-item.is c.align_up-at.ensures.exact c.loop-block.invariant.2,
    )
