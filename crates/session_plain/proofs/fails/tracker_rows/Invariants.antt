use Rattle.std.proofs.Common.{◌≡◌, ℕ, Bool, ◌++◌, drop, map, true}
use Rattle.std.specs.Prelude.{◌&&◌}
use Rattle.session_model.specs.Lists.{numbered}
use Rattle.session_model.specs.declared.rows.InstRow.{InstRow}
use Rattle.session_plain.specs.Marks.{mark_at}
use Rattle.session_plain.specs.Meant.{unit_row}
use Rattle.session_plain.specs.Rows.{is_tracked_row}
use Rattle.session_plain.proofs.fails.tracker_rows.Given as goal

abbrev pub invariant-loop-k : goal.invariant-loop-k
invariant-loop-k g l =
    let units = map (unit_row g.U.UnitKind.meaning) l.units in
    let f : ℕ → InstRow → Bool = λ i r. is_tracked_row units l.t.0 r && mark_at l.unready true i in
    l.marks.items ++ numbered f l.k (drop l.k l.rows) ≡ numbered f 0 l.rows
