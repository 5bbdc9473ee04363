-- What a unit is, by cases.
use Rattle.std.specs.Prelude.{Bool, List, ⊤}
use Rattle.session_model.specs.Meaning.{Meaning}
use Rattle.session_units.specs.declared.unit.ObjectUnit.{ObjectUnit}
use Rattle.session_units.specs.declared.unit.ObjectUnit.TheVariants.{Graph, Absolutes, Alias}
use Rattle.session_units.specs.AbsoluteUnits.{absolute_unit_meaning}
use Rattle.session_units.specs.AliasUnits.{alias_unit_meaning}
use Rattle.session_units.specs.GraphUnits.{graph_unit_meaning, GraphAlone}

abbrev pub meaning_of : ObjectUnit → Meaning
meaning_of (Graph unit) = graph_unit_meaning unit
meaning_of (Absolutes unit) = absolute_unit_meaning unit
meaning_of (Alias unit) = alias_unit_meaning unit

-- the unit needs no other, and has no cell and no stub
abbrev pub StandsAlone : ObjectUnit → List Bool → Type 0
StandsAlone (Graph unit) live = GraphAlone unit live
StandsAlone (Absolutes unit) live = ⊤
StandsAlone (Alias unit) live = ⊥
