use Rattle.std.proofs.Common.{sym, subst, ◌∙◌}
use Rattle.session_parts.specs.Parts.{AreParts}
use Rattle.session_parts.proofs.Steps.{claim_of}
use Rattle.session_parts.proofs.parts.Parts.claim_for.Goals as goal

pub claim-requires : goal.claim-requires
claim-requires g c = let x = c.requires in
    let q = claim_of x.0 c.args.self.now.graph.rows c.args.i c.in-Some.u x.1.kept.rows (sym c.unsearched_unit.ensures ∙ c.in-Some.is) x.2 x.3 in
    (x.0, q.unit, x.1, q.there, q.unclaimed)

pub returns-in-Some-clause-parts : goal.returns-in-Some-clause-parts
returns-in-Some-clause-parts g c = λ m a sound here.
    let q = claim_of m c.args.self.now.graph.rows c.args.i c.in-Some.u a.kept.rows (sym c.unsearched_unit.ensures ∙ c.in-Some.is) sound here in
    subst (λ n. AreParts g.U.UnitKind.meaning c.claim.new.self n) (sym q.same) (c.claim.ensures.parts m q.unit a q.there q.unclaimed)
