use Rattle.std.proofs.Common.{◌≡◌, ◌++◌, drop}
use Rattle.link_graph.specs.Padding.{kept_bytes}
use Rattle.link_graph.proofs.blocks.uncut_parts.Given as goal

abbrev pub invariant-loop-cut : goal.invariant-loop-cut
invariant-loop-cut l = l.kept.items ++ kept_bytes l.from (drop l.cut-index l.cut-items) l.bytes ≡ kept_bytes 0 l.cuts l.bytes
