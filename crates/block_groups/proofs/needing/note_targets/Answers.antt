use Rattle.std.proofs.Common.{length, get_or, pos, refl}
use Rattle.std.proofs.lemmas.List.{get_or_default}
use Rattle.link_model.specs.declared.graph.Edge.{Edge}
use Rattle.block_groups.specs.Keys.{target_of}
use Rattle.block_groups.proofs.Keyed.{keyed_next}
use Rattle.block_groups.proofs.needing.note_targets.Goals as goal

abbrev no_edge : Edge
no_edge = record { block = 0; offset = 0; kind = 0; target = 0; addend = pos 0 }

pub loop-e-preserved : goal.loop-e-preserved
loop-e-preserved c =
    let es = c.args.edges.now in
    let i = c.loop-e.e-index in
    let e : Edge = get_or es i no_edge in
    keyed_next target_of es (length c.args.lists.now) i e.target e c.loop-e.lists c.add.new.self c.loop-e-test.true (get_or_default es i no_edge e c.loop-e-test.true) refl c.in_ok-add.ensures c.loop-e.invariant
