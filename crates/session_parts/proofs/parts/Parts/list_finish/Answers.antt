use Rattle.std.proofs.Common.{ap, ◌∙◌, Some}
use Rattle.std.specs.Prelude.{option_map}
use Rattle.session_laws.proofs.Declared.{changed_length}
use Rattle.session_parts.specs.Parts.{kept_of}
use Rattle.session_parts.specs.Units.{is_unlinked}
use Rattle.session_parts.proofs.Steps.{with_units}
use Rattle.session_parts.proofs.Ties.{listed_finish_tied, kept_unit, phase_of_kept}
use Rattle.session_parts.proofs.parts.Parts.list_finish.Goals as goal

pub link-requires : goal.link-requires
link-requires g c = let x = c.requires in let y = kept_unit g.U.UnitKind.meaning (kept_of c.args.self.now) x.0 c.args.u.0 x.1 x.2.kept x.3 in
    ap (option_map (λ z. z.can_finish)) y.1 ∙ ap Some ((x.2.kept.units.readied c.args.u.0 y.0 y.1).finishes (ap is_unlinked (phase_of_kept g.U.UnitKind.meaning (kept_of c.args.self.now) x.0 c.args.u.0 x.1 y.0 x.2.kept x.3 y.1 ∙ x.4)))

pub returns-clause-parts : goal.returns-clause-parts
returns-clause-parts g c = λ m x a e p.
    with_units g.U.UnitKind.meaning c.args.self.now c.link.new.self _ m _ a c.link.ensures (changed_length c.args.u.0 _ m.units)
    (listed_finish_tied g.U.UnitKind.meaning (kept_of c.args.self.now) m c.args.u x a.kept e p)
