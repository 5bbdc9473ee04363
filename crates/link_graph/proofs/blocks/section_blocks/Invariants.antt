use Rattle.std.proofs.Common.{◌≡◌, ◌++◌, drop, map}
use Rattle.link_graph.specs.Object.{section_block}
use Rattle.link_graph.specs.Padding.{trimmed_section}
use Rattle.link_graph.proofs.blocks.section_blocks.Given as goal

abbrev pub invariant-loop-k : goal.invariant-loop-k
invariant-loop-k l = l.blocks.items ++ map section_block (map trimmed_section (drop l.k l.sections)) ≡ map section_block (map trimmed_section l.sections)
