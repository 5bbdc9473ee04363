use Rattle.std.proofs.Common.{◌≡◌, ◌++◌, drop, map, filter}
use Rattle.session_plain.specs.Meant.{unit_row}
use Rattle.session_plain.specs.Rows.{stays_listed}
use Rattle.session_plain.proofs.fails.jobs_left.Given as goal

abbrev pub invariant-loop-job : goal.invariant-loop-job
invariant-loop-job g l =
    let test = stays_listed (map (unit_row g.U.UnitKind.meaning) l.units) l.t.0 in
    l.left.items ++ filter test (drop l.job-index l.jobs) ≡ filter test l.jobs
