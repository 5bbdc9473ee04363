use Rattle.std.proofs.Common.{List, ◌++◌, map, sym, ap, ◌∙◌}
use Rattle.link_model.specs.declared.graph.Block.{Block}
use Rattle.link_graph.specs.Object.{section_block}
use Rattle.link_graph.specs.Padding.{all_cuts, trimmed_section}
use Rattle.link_graph.proofs.TrimmedFacts.{same_common_blocks}
use Rattle.link_graph.proofs.blocks.all_blocks.Goals as goal

pub returns : goal.returns
returns c =
    c.in_ok-add_commons.ensures
    ∙ rw (c.in_ok-blocks.ensures, c.as_slice.ensures, c.as_slice-2.ensures)
    (ap (λ (bs : List Block). map section_block (map trimmed_section c.args.o.now.sections) ++ bs) (sym (same_common_blocks (all_cuts c.args.o.now.sections) c.args.o.now.symbols)))
