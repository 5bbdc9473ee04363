-- What the unit of a graph is.
use Rattle.std.specs.Prelude.{Bool, List}
use Rattle.std.specs.Arc.{arc_value}
use Rattle.unit_fixups.specs.Sound.{Alone}
use Rattle.link_model.specs.Layout.{layout_of}
use Rattle.link_model.specs.declared.graph.LinkGraph.{LinkGraph}
use Rattle.session_model.specs.Meaning.{Meaning}
use Rattle.session_units.specs.declared.graph_unit.GraphUnit.{GraphUnit}
use Rattle.session_units.specs.Meaning.{graph_meaning}

abbrev pub unit_graph : GraphUnit → LinkGraph
unit_graph unit = arc_value unit.parts

abbrev pub graph_unit_meaning : GraphUnit → Meaning
graph_unit_meaning unit = graph_meaning unit.name (unit_graph unit)

-- the unit needs no other, and has no cell and no stub
abbrev pub GraphAlone : GraphUnit → List Bool → Type 0
GraphAlone unit live = Alone (unit_graph unit) (layout_of (unit_graph unit) live)
