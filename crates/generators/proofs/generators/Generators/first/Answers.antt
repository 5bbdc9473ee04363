-- The line of the name has its generators.
use Rattle.std.proofs.Common.{ap, sym, ◌∙◌, ◌&&◌, not}
use Rattle.std.specs.List.{position_from}
use Rattle.orc_ids.specs.declared.lookup.Scope.{Scope}
use Rattle.orc_ids.specs.declared.lookup.Scope.TheVariants.{All, Exported}
use Rattle.generators.specs.Rows.{offers_in}
use Rattle.generators.proofs.InLine.{first_in_line}
use Rattle.generators.proofs.generators.Generators.first.Goals as goal

pub returns-in-All : goal.returns-in-All
returns-in-All g c =
    let inside = c.self.inside in
    c.first.ensures
    ∙ (first_in_line g.U.UnitKind.meaning All inside.rows.items inside.all c.args.d.0 c.args.name.0 c.self.invariant.in_all
    ∙ (ap (λ rows. position_from (λ x. not x.spent && offers_in g.U.UnitKind.meaning All c.args.d.0 c.args.name.0 x) 0 rows) (ap (λ s. s.rows) c.self.view_is)
    ∙ ap (λ (s : Scope). position_from (λ x. not x.spent && offers_in g.U.UnitKind.meaning s c.args.d.0 c.args.name.0 x) 0 c.args.self.now.rows) (sym c.in-All.is)))

pub returns-in-Exported : goal.returns-in-Exported
returns-in-Exported g c =
    let inside = c.self.inside in
    c.first-in-Exported.ensures
    ∙ (first_in_line g.U.UnitKind.meaning Exported inside.rows.items inside.exported c.args.d.0 c.args.name.0 c.self.invariant.in_exported
    ∙ (ap (λ rows. position_from (λ x. not x.spent && offers_in g.U.UnitKind.meaning Exported c.args.d.0 c.args.name.0 x) 0 rows) (ap (λ s. s.rows) c.self.view_is)
    ∙ ap (λ (s : Scope). position_from (λ x. not x.spent && offers_in g.U.UnitKind.meaning s c.args.d.0 c.args.name.0 x) 0 c.args.self.now.rows) (sym c.in-Exported.is)))
