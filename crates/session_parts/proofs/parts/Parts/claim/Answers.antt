use Rattle.std.proofs.Common.{ap, ◌∙◌, Some}
use Rattle.std.specs.Prelude.{option_map}
use Rattle.session_laws.proofs.Declared.{changed_length}
use Rattle.session_parts.specs.Parts.{kept_of}
use Rattle.session_parts.proofs.Steps.{with_claim}
use Rattle.session_parts.proofs.Ties.{claim_tied, kept_unit, phase_of_kept}
use Rattle.session_parts.proofs.parts.Parts.claim.Goals as goal

pub list-requires : goal.list-requires
list-requires g c = let x = c.requires in let y = kept_unit g.U.UnitKind.meaning (kept_of c.args.self.now) x.0 c.args.u.0 x.1 x.2.kept x.3 in
    ap (option_map (λ z. z.can_start)) y.1 ∙ ap Some ((x.2.kept.units.readied c.args.u.0 y.0 y.1).starts (phase_of_kept g.U.UnitKind.meaning (kept_of c.args.self.now) x.0 c.args.u.0 x.1 y.0 x.2.kept x.3 y.1 ∙ x.4))

pub returns-clause-parts : goal.returns-clause-parts
returns-clause-parts g c = λ m x a e p.
    with_claim g.U.UnitKind.meaning c.args.self.now c.claim.new.self c.list.new.self _ _ m _ a c.claim.ensures.graph c.list.ensures (changed_length c.args.u.0 _ m.units)
    (claim_tied g.U.UnitKind.meaning (kept_of c.args.self.now) m c.args.u x a.kept e p)
