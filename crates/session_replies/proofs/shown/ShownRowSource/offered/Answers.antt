use Rattle.std.proofs.Common.{ap, ◌∙◌, map}
use Rattle.generators.specs.Rows.{gen_row}
use Rattle.session_model.specs.Match.{offered_by}
use Rattle.session_replies.proofs.Sights.{offers_shown}
use Rattle.session_replies.proofs.shown.ShownRowSource.offered.Goals as goal

pub returns : goal.returns
returns g c = c.offered.ensures ∙ (offers_shown g.U.UnitKind.meaning c.self.inside.generators.now.rows c.args.d.0 c.args.name.0 c.args.scope
    ∙ ap (λ s. offered_by (map (gen_row g.U.UnitKind.meaning 0) s.generators) c.args.d.0 c.args.name.0 c.args.scope) c.self.view_is)
