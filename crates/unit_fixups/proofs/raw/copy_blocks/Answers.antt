use Rattle.std.proofs.Common.{◌-◌, ◌∙◌, arith}
use Rattle.unit_fixups.proofs.Pieces.{from_end, from_step, from_start}
use Rattle.unit_fixups.proofs.raw.copy_blocks.Goals as goal

pub loop-k-init : goal.loop-k-init
loop-k-init c = from_end c.args.g.now c.args.l.now c.len-k.result _ c.len-k.ensures c.requires.stubs

pub loop-k-preserved : goal.loop-k-preserved
loop-k-preserved c =
    from_step c.args.g.now c.args.l.now (c.loop-k.k - 1) c.loop-k.k _ _ c.requires.lies.count (omega arith) (omega arith) c.copy_block.ensures c.loop-k.invariant

pub returns : goal.returns
returns c = c.loop-k.invariant ∙ from_start c.args.g.now c.args.l.now c.loop-k.k (omega arith)
