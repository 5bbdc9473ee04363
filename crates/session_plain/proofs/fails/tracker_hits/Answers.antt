use Rattle.std.proofs.Common.{map}
use Rattle.session_plain.specs.Meant.{unit_row}
use Rattle.session_plain.specs.Rows.{is_tracked_row, tracked_roots}
use Rattle.session_plain.proofs.MarkLemmas.{hit_rows, unready_tests}
use Rattle.session_plain.proofs.fails.tracker_hits.Goals as goal

pub returns : goal.returns
returns g c =
    let test = is_tracked_row (map (unit_row g.U.UnitKind.meaning) c.args.units.now) c.args.t.0 in
    hit_rows c.args.rows.now (tracked_roots (map (unit_row g.U.UnitKind.meaning) c.args.units.now) c.args.t.0 c.args.rows.now) c.in_ok-waiting.waiting.items c.in_ok-roots.roots.items c.in_ok-hit.hit.items c.in_ok-waiting.ensures
    (unready_tests c.args.rows.now test c.in_ok-waiting.waiting.items c.in_ok-roots.roots.items c.in_ok-waiting.ensures (rw c.deref.ensures.value at c.in_ok-roots.ensures))
    (λ t a. c.in_ok-hit.ensures t (rw c.deref-2.ensures.value a))

pub reaching_by_deps-requires : goal.reaching_by_deps-requires
reaching_by_deps-requires g c =
    let test = is_tracked_row (map (unit_row g.U.UnitKind.meaning) c.args.units.now) c.args.t.0 in
    rw c.deref-2.ensures.value
    (unready_tests c.args.rows.now test c.in_ok-waiting.waiting.items c.in_ok-roots.roots.items c.in_ok-waiting.ensures (rw c.deref.ensures.value at c.in_ok-roots.ensures)).inside
