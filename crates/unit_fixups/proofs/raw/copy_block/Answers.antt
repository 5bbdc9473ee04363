use Rattle.std.proofs.Common.{sym, ap, ◌∙◌, arith}
use Rattle.unit_fixups.proofs.Pieces.{block_fits, block_copied}
use Rattle.link_model.specs.declared.graph.Block.{Block}
use Rattle.unit_fixups.proofs.raw.copy_block.Goals as goal

pub copy_to-requires-clause-low : goal.copy_to-requires-clause-low
copy_to-requires-clause-low c =
    let fits = block_fits c.args.g.now c.args.l.now c.args.base c.args.k c.index-as_slice-k.result c.as_slice.result.now c.as_slice-2.result.now c.as_slice-bytes.result.now
    c.requires.lies c.requires.there c.as_slice-2.ensures c.as_slice.ensures c.index-as_slice-k.is (c.as_slice-bytes.ensures ∙ sym (ap (λ (b : Block). b.bytes) c.index-as_slice-k.is)) in
    omega (arith, fits, c.requires.lies.room)

pub copy_to-requires-clause-inside : goal.copy_to-requires-clause-inside
copy_to-requires-clause-inside c =
    let fits = block_fits c.args.g.now c.args.l.now c.args.base c.args.k c.index-as_slice-k.result c.as_slice.result.now c.as_slice-2.result.now c.as_slice-bytes.result.now
    c.requires.lies c.requires.there c.as_slice-2.ensures c.as_slice.ensures c.index-as_slice-k.is (c.as_slice-bytes.ensures ∙ sym (ap (λ (b : Block). b.bytes) c.index-as_slice-k.is)) in
    omega (arith, fits, c.requires.whole)

pub returns : goal.returns
returns c =
    block_copied c.args.g.now c.args.l.now c.args.k c.index-as_slice-k.result c.as_slice.result.now c.as_slice-2.result.now c.as_slice-bytes.result.now _ _
    c.requires.there c.as_slice-2.ensures c.as_slice.ensures c.index-as_slice-k.is (c.as_slice-bytes.ensures ∙ sym (ap (λ (b : Block). b.bytes) c.index-as_slice-k.is)) c.copy_to.ensures
