-- The names of those so far are lost.
use Rattle.std.proofs.Common.{◌≡◌, take}
use Rattle.session_parts.specs.Defined.{AreLost}
use Rattle.session_parts.proofs.defining.lose_names.Given as goal

abbrev pub invariant-loop-i : goal.invariant-loop-i
invariant-loop-i g l = record {
  lost : AreLost l.rows (take l.i-index l.replaced) l.initial.units.units l.units.units;
  rest : l.units ≡ record (l.initial.units) { units = l.units.units };
}
