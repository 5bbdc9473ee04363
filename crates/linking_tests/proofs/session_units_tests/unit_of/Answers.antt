use Rattle.linking_tests.proofs.session_units_tests.unit_of.Goals as goal

pub graph_of-requires : goal.graph_of-requires
graph_of-requires c = record { bytes = _; read = c.in_ok-object.ensures }
