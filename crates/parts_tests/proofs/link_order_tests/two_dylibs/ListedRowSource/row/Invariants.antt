use Rattle.std.proofs.Common.{◌≡◌, drop}
use Rattle.session_model.specs.Match.{first_row}
use Rattle.link_order.specs.Shown.{is_named}
use Rattle.parts_tests.proofs.link_order_tests.two_dylibs.ListedRowSource.row.Given as goal

abbrev pub invariant-loop-k : goal.invariant-loop-k
invariant-loop-k l = first_row (is_named l.d.0 l.name.0) l.k (drop l.k l.row-items) ≡ first_row (is_named l.d.0 l.name.0) 0 l.row-items
