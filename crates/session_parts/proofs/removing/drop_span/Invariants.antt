-- Those so far have left.
use Rattle.jit_dylib.specs.Shelf.{table_of, ChangesOnlyTable}
use Rattle.session_parts.specs.Removed.{is_spanned, IsLeftBut}
use Rattle.session_parts.proofs.removing.drop_span.Given as goal

abbrev pub invariant-loop-i : goal.invariant-loop-i
invariant-loop-i l = record {
  rows : IsLeftBut (is_spanned l.fn.span.first l.i l.rows) (table_of l.initial.dylibs l.d.0) (table_of l.dylibs l.d.0);
  rest : ChangesOnlyTable l.d.0 l.initial.dylibs l.dylibs;
}
