use Rattle.std.proofs.Common.{◌≡◌, ◌++◌, drop, map}
use Rattle.std.specs.Prelude.{filter, not}
use Rattle.elf_read.specs.declared.object.Reloc.{Reloc}
use Rattle.link_graph.specs.Object.{is_mark, edge_of}
use Rattle.link_graph.specs.Padding.{trimmed_reloc}
use Rattle.link_graph.proofs.edges.add_edges.Given as goal

abbrev pub invariant-loop-r : goal.invariant-loop-r
invariant-loop-r l =
    l.edges.items ++ map (edge_of l.block) (filter (λ (r : Reloc). not (is_mark r)) (map (trimmed_reloc l.cuts) (drop l.r-index l.section.relocs)))
    ≡ l.initial.edges.items ++ map (edge_of l.block) (filter (λ (r : Reloc). not (is_mark r)) (map (trimmed_reloc l.cuts) l.section.relocs))
