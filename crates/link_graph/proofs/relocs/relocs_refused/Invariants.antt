use Rattle.std.proofs.Common.{◌≡◌, drop}
use Rattle.link_graph.specs.Checks.{relocs_error}
use Rattle.link_graph.proofs.relocs.relocs_refused.Given as goal

abbrev pub invariant-loop-block : goal.invariant-loop-block
invariant-loop-block l = relocs_error l.symbols l.block (drop l.block l.sections) ≡ relocs_error l.symbols 0 l.sections
