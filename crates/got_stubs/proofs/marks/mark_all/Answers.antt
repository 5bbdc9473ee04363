use Rattle.std.proofs.Common.{refl, get_or, pos, rules}
use Rattle.link_model.specs.declared.graph.Edge.{Edge}
use Rattle.got_stubs.proofs.Noted.{one_more_marked}
use Rattle.got_stubs.proofs.marks.mark_all.Goals as goal

abbrev no_edge : Edge
no_edge = record { block = 0; offset = 0; kind = 0; target = 0; addend = pos 0 }

pub loop-e-preserved : goal.loop-e-preserved
loop-e-preserved c =
    (search rules, one_more_marked c.args.edges.now c.args.edges.now c.loop-e.marks c.note_edge.new.marks c.loop-e.e-index (get_or c.args.edges.now c.loop-e.e-index no_edge) refl c.loop-e-test.true (search rules) (search rules) c.note_edge.ensures c.loop-e.invariant.1)
