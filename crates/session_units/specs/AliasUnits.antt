-- What the unit of an alias is.
use Rattle.session_model.specs.Meaning.{Meaning}
use Rattle.session_units.specs.declared.alias_unit.AliasUnit.{AliasUnit}
use Rattle.session_units.specs.Others.{alias_meaning}

abbrev pub alias_unit_meaning : AliasUnit → Meaning
alias_unit_meaning unit = alias_meaning unit.name unit.alias unit.source unit.target
