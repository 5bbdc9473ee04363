use Rattle.session_laws.proofs.Declared.{changed_length}
use Rattle.session_parts.specs.Parts.{kept_of}
use Rattle.session_parts.proofs.Steps.{with_units, unit_below}
use Rattle.session_parts.proofs.Ties.{start_tied}
use Rattle.session_parts.proofs.parts.Parts.start.Goals as goal

pub returns-clause-parts : goal.returns-clause-parts
returns-clause-parts g c =
    with_units g.U.UnitKind.meaning c.args.self.now c.start.new.self _ g.m _ c.requires.1.1.0 c.start.ensures (changed_length c.args.u.0 _ g.m.units)
    (start_tied g.U.UnitKind.meaning (kept_of c.args.self.now) g.m c.args.s c.args.u.0 c.requires.1.1.1.0 c.requires.1.1.0.kept c.requires.1.1.1.1 c.requires.1.1.1.2)

pub start-requires : goal.start-requires
start-requires g c = unit_below g.U.UnitKind.meaning c.args.self.now g.m c.args.u.0 c.requires.1.1.1.0 c.requires.1.1.0 c.requires.1.1.1.1
