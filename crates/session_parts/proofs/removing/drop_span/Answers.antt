use Rattle.std.proofs.Common.{◌≡◌, ◌+◌, ◌<◌, ◌&&◌, ◌||◌, ◌==◌, ap, refl, subst, sym, length, arith}
use Rattle.jit_dylib.specs.Shelf.{table_of}
use Rattle.session_parts.specs.Removed.{has_name, is_spanned, IsLeftBut}
use Rattle.session_parts.proofs.Names.{left_same, left_both, left_all, only_twice, none_in, one_in}
use Rattle.session_parts.proofs.removing.drop_span.Goals as goal

pub loop-i-init : goal.loop-i-init
loop-i-init c = record {
  rows = left_all (is_spanned c.args.span.first c.args.span.first c.args.rows.now) (table_of c.args.dylibs.now c.args.d.0) (none_in c.args.span.first c.args.rows.now);
  rest = record { dylibs = refl; others = λ e n. refl };
}

pub drop_name-requires : goal.drop_name-requires
drop_name-requires c = subst (λ n. c.args.d.0 < n) (sym (ap length c.loop-i.invariant.rest.dylibs)) c.requires.dylib

pub loop-i-preserved : goal.loop-i-preserved
loop-i-preserved c =
    let first = c.args.span.first in
    let i = c.loop-i.i in
    let rows = c.args.rows.now in
    let d = c.args.d.0 in
    record {
      rows = left_same (λ name j. is_spanned first i rows name j || (i == j && has_name rows name j)) (is_spanned first (i + 1) rows) (table_of c.args.dylibs.now d) (table_of c.drop_name.new.dylibs d) (one_in first i rows c.loop-i.auto.i)
          (left_both (is_spanned first i rows) (λ name j. i == j && has_name rows name j) (table_of c.args.dylibs.now d) (table_of c.loop-i.dylibs d) (table_of c.drop_name.new.dylibs d) c.loop-i.invariant.rows c.drop_name.ensures.rows);
      rest = only_twice d c.args.dylibs.now c.loop-i.dylibs c.drop_name.new.dylibs c.loop-i.invariant.rest c.drop_name.ensures.rest;
    }

pub returns-clause-rows : goal.returns-clause-rows
returns-clause-rows c =
    let first = c.args.span.first in
    let last : c.loop-i.i ≡ first + c.args.span.count = omega (arith, c.loop-i-test.false, c.loop-i.auto.i-end) in
    subst (λ n. IsLeftBut (is_spanned first n c.args.rows.now) (table_of c.args.dylibs.now c.args.d.0) (table_of c.loop-i.dylibs c.args.d.0)) last c.loop-i.invariant.rows
