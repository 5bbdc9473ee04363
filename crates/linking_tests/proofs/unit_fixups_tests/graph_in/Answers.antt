use Rattle.linking_tests.proofs.unit_fixups_tests.graph_in.Goals as goal

pub graph_of-requires : goal.graph_of-requires
graph_of-requires c = record { bytes = _; read = c.in_ok-object.ensures }
