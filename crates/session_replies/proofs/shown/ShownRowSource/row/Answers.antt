use Rattle.std.proofs.Common.{ap, ◌∙◌, length, map}
use Rattle.session_model.specs.Match.{row_of}
use Rattle.session_replies.specs.Shown.{seen_row}
use Rattle.session_replies.proofs.Sights.{table_shows}
use Rattle.session_replies.proofs.shown.ShownRowSource.row.Goals as goal

pub returns : goal.returns
returns g c = c.row.ensures ∙ (table_shows c.self.inside.dylibs.now c.self.inside.graph.now.rows c.args.d.0 c.args.name.0 c.self.invariant
    ∙ ap (λ s. row_of (map (seen_row (length s.shelf.dylibs)) s.rows) c.args.d.0 c.args.name.0) c.self.view_is)
