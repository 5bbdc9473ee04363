use Rattle.std.proofs.Common.{◌+◌, ◌==◌, subst, refl, arith}
use Rattle.jit_dylib.specs.Shelf.{table_of}
use Rattle.session_parts.specs.Removed.{is_spanned, is_named, IsLeftBut}
use Rattle.session_parts.proofs.Names.{left_same, all_in}
use Rattle.session_parts.proofs.removing.drop_names.Goals as goal

pub drop_span-requires : goal.drop_span-requires
drop_span-requires c = record { dylib = c.requires.dylib; few = omega (arith, c.span.ensures.span.inside, c.span.ensures.few) }

pub returns-clause-rows : goal.returns-clause-rows
returns-clause-rows c =
    let first = c.span.result.first in
    let end = first + c.span.result.count in
    let d = c.args.d.0 in
    let rows = c.args.graph.now.rows in
    left_same (is_spanned first end rows) (is_named (λ v. c.args.u.0 == v) rows) (table_of c.args.dylibs.now d) (table_of c.drop_span.new.dylibs d) (all_in rows c.args.u.0 first c.span.result.count end c.span.ensures.span refl)
    (subst (λ rs. IsLeftBut (is_spanned first end rs) (table_of c.args.dylibs.now d) (table_of c.drop_span.new.dylibs d)) c.rows.ensures c.drop_span.ensures.rows)
