use Rattle.std.proofs.Common.{ap, sym, ◌∙◌, drop}
use Rattle.session_model.specs.Lists.{changed_at}
use Rattle.mat_unit.specs.Changes as one
use Rattle.session_laws.proofs.Declared.{changed_length}
use Rattle.session_parts.specs.Parts.{kept_of}
use Rattle.session_parts.proofs.Steps.{with_units, unit_below}
use Rattle.session_parts.proofs.Ties.{finish_tied}
use Rattle.session_parts.proofs.parts.Parts.finish.Goals as goal

pub returns-clause-parts : goal.returns-clause-parts
returns-clause-parts g c = λ how e.
    with_units g.U.UnitKind.meaning c.args.self.now c.finish.new.self _ g.m _ c.requires.1.1.0 (c.finish.ensures ∙ ap (λ b. record (c.args.self.now.units) { units = changed_at c.args.u.0 (one.finishing c.args.s b) c.args.self.now.units.units; jobs = drop 1 c.args.self.now.units.jobs }) (sym e)) (changed_length c.args.u.0 _ g.m.units)
    (finish_tied g.U.UnitKind.meaning (kept_of c.args.self.now) g.m c.args.s c.args.u.0 how c.requires.1.1.1.0 c.requires.1.1.0.kept c.requires.1.1.1.1 c.requires.1.1.1.2)

pub finish-requires : goal.finish-requires
finish-requires g c = unit_below g.U.UnitKind.meaning c.args.self.now g.m c.args.u.0 c.requires.1.1.1.0 c.requires.1.1.0 c.requires.1.1.1.1
