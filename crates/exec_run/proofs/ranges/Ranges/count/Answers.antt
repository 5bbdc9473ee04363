-- As many ranges are seen as the image has.
use Rattle.std.proofs.Common.{◌∙◌, length, ap, sym}
use Rattle.exec_run.specs.Regions.{regions}
use Rattle.exec_run.proofs.Copies.{shown_length}
use Rattle.exec_run.proofs.Places.{regions_length}
use Rattle.exec_run.proofs.ranges.Ranges.count.Goals as goal

pub returns-clause-count : goal.returns-clause-count
returns-clause-count c =
    let i = c.self.inside in
    sym (regions_length i.segments.now i.places.items) ∙ sym (shown_length i.pool.items (regions i.segments.now i.places.items)) ∙ ap length c.self.view_is
