-- The lines of its names go on to the next that isn't spent.
use Rattle.std.proofs.Common.{subst}
use Rattle.orc_ids.specs.declared.lookup.Scope.TheVariants.{All, Exported}
use Rattle.generators.specs.Kept.{HavePassed}
use Rattle.generators.proofs.InLine.{few_in_line, spent_kept}
use Rattle.generators.proofs.generators.Generators.spend.Goals as goal

pub leave_lines-requires : goal.leave_lines-requires
leave_lines-requires g c = few_in_line g.U.UnitKind.meaning All c.self.inside.rows.items c.self.inside.all c.self.invariant.in_all c.self.invariant.few

pub leave_lines-requires-2 : goal.leave_lines-requires-2
leave_lines-requires-2 g c = few_in_line g.U.UnitKind.meaning Exported c.self.inside.rows.items c.self.inside.exported c.self.invariant.in_exported c.self.invariant.few

pub invariant_of-self : goal.invariant_of-self
invariant_of-self g c =
    let inside = c.self.inside in
    let means = g.U.UnitKind.meaning in
    spent_kept means c.args.g.0 inside.rows.items c.spend_at.new.rows.items inside.all inside.exported c.leave_lines.new.lines c.leave_lines-2.new.lines c.self.invariant c.spend_at.ensures
    (subst (λ rows. HavePassed means rows c.args.g.0 inside.all c.leave_lines.new.lines) c.deref.ensures.value c.leave_lines.ensures)
    (subst (λ rows. HavePassed means rows c.args.g.0 inside.exported c.leave_lines-2.new.lines) c.deref-2.ensures.value c.leave_lines-2.ensures)
