use Rattle.std.proofs.Common.{◌≡◌, ◌≤◌, [], sym, subst, rules}
use Rattle.std.specs.Vec.{vec_capacity}
use Rattle.session_steps.specs.Rest.{IsAtRest}
use Rattle.execution_session.proofs.Opening.{opens}
use Rattle.execution_session.proofs.session.Session.open.Goals as goal

pub invariant_of-result : goal.invariant_of-result
invariant_of-result g c =
    let room : g.row.JMAX ≤ vec_capacity c.in_ok-journal.journal = search rules in
    let none : c.in_ok-journal.journal.items ≡ [] = search rules in
    subst (λ h. IsAtRest g.U.UnitKind.meaning g.row.JMAX c.new.result h (vec_capacity c.in_ok-journal.journal)) (sym none)
    (opens g.U.UnitKind.meaning g.row.JMAX c.new.result (vec_capacity c.in_ok-journal.journal) (search rules) room c.new.ensures.parts c.new.ensures.book c.new.ensures.changed)
