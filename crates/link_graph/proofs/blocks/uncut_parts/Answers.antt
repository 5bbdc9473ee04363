use Rattle.std.proofs.Common.{◌≡◌, arith}
use Rattle.std.proofs.lemmas.Grind.{common_steps}
use Rattle.link_graph.specs.Padding.{kept_bytes}
use Rattle.link_graph.proofs.Deletions.{bytes_kept}
use Rattle.link_graph.proofs.blocks.uncut_parts.Goals as goal

pub returns-clause-kept : goal.returns-clause-kept
returns-clause-kept c =
    let exact : c.from_vec.result ≡ kept_bytes 0 c.args.cuts.now c.args.bytes.now = grind (arith, common_steps) in
    rw exact (bytes_kept c.args.cuts.now c.args.bytes.now c.as_slice-cut-items.ensures.in_turn)
