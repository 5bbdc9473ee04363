-- What leaves in the end, with those that are left to go.
use Rattle.std.proofs.Common.{◌<◌}
use Rattle.std.specs.Prelude.{All}
use Rattle.orc_ids.specs.declared.ids.UnitId.{UnitId}
use Rattle.jit_dylib.specs.Shelf.{table_of, ChangesOnlyTable}
use Rattle.session_parts.proofs.Names.{Leaving}
use Rattle.session_parts.proofs.removing.drop_all_names.Given as goal

abbrev pub invariant-loop-u : goal.invariant-loop-u
invariant-loop-u l = record {
  rows : Leaving l.graph.rows l.gone (table_of l.initial.dylibs l.d.0) l.u-iterator (table_of l.dylibs l.d.0);
  there : All (λ (u : UnitId). u.0 < l.graph.units) l.u-iterator;
  rest : ChangesOnlyTable l.d.0 l.initial.dylibs l.dylibs;
}
