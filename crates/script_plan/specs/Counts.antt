-- How many lines of absolute symbols and how many aliases stand before a line: the names of their units.
use Rattle.std.specs.Prelude.{◌+◌}
use Rattle.session_script.specs.declared.script.SetupLine.{SetupLine}
use Rattle.session_script.specs.declared.script.SetupLine.TheVariants as line
use Rattle.script_plan.specs.declared.unit_counts.UnitCounts.{UnitCounts}

abbrev pub no_units : UnitCounts
no_units = record { absolutes = 0; aliases = 0 }

abbrev pub with_absolutes : UnitCounts → UnitCounts
with_absolutes counts = record counts { absolutes = counts.absolutes + 1 }

abbrev pub with_alias : UnitCounts → UnitCounts
with_alias counts = record counts { aliases = counts.aliases + 1 }

-- behind the line
abbrev pub with_line : SetupLine → UnitCounts → UnitCounts
with_line (line.Absolute d t symbols) counts = with_absolutes counts
with_line (line.Alias alias) counts = with_alias counts
with_line _ counts = counts
