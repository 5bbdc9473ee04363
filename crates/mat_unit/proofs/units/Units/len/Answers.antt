use Rattle.std.proofs.Common.{◌∙◌, ap, length}
use Rattle.mat_unit.specs.Roster.{Roster}
use Rattle.mat_unit.proofs.units.Units.len.Goals as goal

pub returns : goal.returns
returns g c = ap length c.as_slice.ensures.value ∙ ap (λ (r : Roster g.row.U.Denot). length r.units) c.self.view_is
