-- What the unit of absolute symbols is.
use Rattle.std.specs.Arc.{arc_value}
use Rattle.session_model.specs.Meaning.{Meaning}
use Rattle.session_units.specs.declared.absolute_unit.AbsoluteUnit.{AbsoluteUnit}
use Rattle.session_units.specs.Others.{absolutes_meaning}

abbrev pub absolute_unit_meaning : AbsoluteUnit → Meaning
absolute_unit_meaning unit = absolutes_meaning unit.name (arc_value unit.list)
