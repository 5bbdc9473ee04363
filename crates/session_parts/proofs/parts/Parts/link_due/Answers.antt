use Rattle.std.proofs.Common.{rules, sym, subst}
use Rattle.std.proofs.lemmas.Bool.{both_ways}
use Rattle.mat_unit.specs.Rows.{unit_row}
use Rattle.session_parts.specs.Parts.{kept_of, AreParts}
use Rattle.session_parts.specs.Units.{tracker_at}
use Rattle.session_parts.proofs.Links.{due_waiting}
use Rattle.session_parts.proofs.Ties.{session_unit}
use Rattle.session_parts.proofs.parts.Parts.link_due.Goals.{in-Waiting, in_default-matches}
use Rattle.session_parts.proofs.parts.Parts.link_due.Goals as goal

pub returns-then-matches-clause-parts : goal.returns-then-matches-clause-parts
returns-then-matches-clause-parts g c = λ m a.
    let y = c.in-Some.unit.now in
    let x = session_unit g.U.UnitKind.meaning (kept_of c.args.self.now) m c.args.u.0 y a.kept (search rules) in
    elim c.match-matches.branch [
      | in-Waiting w ↦ subst (AreParts g.U.UnitKind.meaning c.list_finish.new.self) (sym (due_waiting m c.args.u (unit_row g.U.UnitKind.meaning (tracker_at m.units c.args.u.0) y) x (search rules))) (c.list_finish.ensures.parts m (unit_row g.U.UnitKind.meaning (tracker_at m.units c.args.u.0) y) (subst (λ p. AreParts g.U.UnitKind.meaning p m) (sym w.self-is) a) x (search rules))
      | in_default-matches w ↦ absurd (both_ways c.match-matches.matches w.matches-is c.if-matches.true)
    ]
