use Rattle.std.proofs.Common.{◌≡◌, drop}
use Rattle.link_graph.specs.Checks.{table_error}
use Rattle.link_graph.proofs.relocs.section_refused.Given as goal

abbrev pub invariant-loop-r : goal.invariant-loop-r
invariant-loop-r l =
    table_error l.symbols l.block l.section l.cuts l.end (drop l.r-index l.section.relocs) ≡ table_error l.symbols l.block l.section l.cuts 0 l.section.relocs
