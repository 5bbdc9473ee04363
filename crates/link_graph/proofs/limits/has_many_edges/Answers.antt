use Rattle.std.proofs.Common.{sym, ap, ◌∙◌, arith, lt-ltb, ℕ, length}
use Rattle.std.specs.Prelude.{filter, not}
use Rattle.std.proofs.lemmas.List.Sums.{sum_by-drop_more}
use Rattle.elf_read.specs.declared.object.Reloc.{Reloc}
use Rattle.elf_read.specs.declared.object.Section.{Section}
use Rattle.link_graph.specs.Object.{is_mark}
use Rattle.link_graph.specs.Checks.{edge_count}
use Rattle.link_model.specs.Sound.{MAX_EDGES}
use Rattle.link_graph.proofs.limits.has_many_edges.Goals as goal

abbrev edges_in : Section → ℕ
edges_in s = length (filter (λ (r : Reloc). not (is_mark r)) s.relocs)

pub returns-then-count-left : goal.returns-then-count-left
returns-then-count-left c =
    let more = sum_by-drop_more edges_in c.args.sections.now c.loop-section.section-index c.section-item.result c.loop-section-test.true in
    let here = c.section_edge_count-count.ensures ∙ ap edges_in c.section-item.is in
    let so_far = c.loop-section.invariant in
    sym (lt-ltb MAX_EDGES (edge_count c.args.sections.now) (omega (arith, more, here, so_far)))

pub loop-section-preserved : goal.loop-section-preserved
loop-section-preserved c =
    let more = sum_by-drop_more edges_in c.args.sections.now c.loop-section.section-index c.section-item.result c.loop-section-test.true in
    let here = c.section_edge_count-count.ensures ∙ ap edges_in c.section-item.is in
    let so_far = c.loop-section.invariant in
    omega (arith, more, here, so_far)
