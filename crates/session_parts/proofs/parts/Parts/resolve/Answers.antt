use Rattle.std.proofs.Common.{sym, subst, rules}
use Rattle.instances.specs.Graph.{NoneEmitted}
use Rattle.session_laws.proofs.Declared.{resolvable_held}
use Rattle.session_parts.proofs.Resolved.{resolved_parts}
use Rattle.session_parts.proofs.Unemitted.{unemitted_held}
use Rattle.session_parts.proofs.parts.Parts.resolve.Goals as goal

pub resolve-requires-clause-unemitted : goal.resolve-requires-clause-unemitted
resolve-requires-clause-unemitted g c = let r = c.requires.1.1 in
    subst (NoneEmitted c.args.u.0) (sym r.0.kept.rows) (unemitted_held g.m c.args.u.0 r.1.1.0.0 r.1.0 r.1.1.0.1 (resolvable_held r.1.1.0.0 r.1.1.0.2))

pub returns-in-Some-clause-parts : goal.returns-in-Some-clause-parts
returns-in-Some-clause-parts g c = let r = c.requires.1.1 in
    resolved_parts g.U.UnitKind.meaning c.args.self.now g.m c.args.u r.1.1.0.0 c.in-Some.unit.now c.alias_target-target.result c.unwrap_or-base.result c.resolve.new.self c.go_on.new.units r.0 r.1.0 r.1.1.0.1 r.1.1.0.2 (search rules) c.alias_target-target.ensures (search rules) c.resolve.ensures.rows c.resolve.ensures.rooms.0 c.go_on.ensures
