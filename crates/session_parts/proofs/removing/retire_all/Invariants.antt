-- What goes in the end, with those that are left to go.
use Rattle.std.proofs.Common.{◌≡◌, ◌<◌, length}
use Rattle.std.specs.Prelude.{All}
use Rattle.orc_ids.specs.declared.ids.UnitId.{UnitId}
use Rattle.session_parts.specs.Removed.{AreRanged}
use Rattle.session_parts.proofs.Retiring.{Removing, Freeing}
use Rattle.session_parts.proofs.removing.retire_all.Given as goal

abbrev pub invariant-loop-u : goal.invariant-loop-u
invariant-loop-u g l = record {
  units : Removing l.gone l.initial.units.units l.u-iterator l.units.units;
  jobs : l.units.jobs ≡ l.initial.units.jobs;
  space : Freeing l.gone l.initial.space l.u-iterator l.space;
  ranged : AreRanged g.U.UnitKind.meaning l.units.units l.space;
  there : All (λ (u : UnitId). u.0 < length l.units.units) l.u-iterator;
}
