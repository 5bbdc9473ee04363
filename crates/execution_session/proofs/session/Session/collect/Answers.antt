use Rattle.std.proofs.Common.{◌≡◌, true, slice_get, ap, sym, subst, ◌∙◌, refl, rules}
use Rattle.std.specs.Prelude.{Ok}
use Rattle.execution_session.specs.Collected.{is_open}
use Rattle.session_steps.specs.Performs.{HasOpen, Collects}
use Rattle.execution_session.proofs.Collected.{says_open, open_reply, has_open, has_no_open, collects_open}
use Rattle.execution_session.proofs.session.Session.collect.Goals as goal

pub returns-in_default-clause-performs : goal.returns-in_default-clause-performs
returns-in_default-clause-performs g c =
    let live = c.self.inside.live in
    let seen : c.args.self.now.journal ≡ live.journal.items = search rules in
    (refl, subst (λ h. HasOpen g.U.UnitKind.meaning h c.args.q → ⊥) (sym seen) (has_no_open g.U.UnitKind.meaning live.journal.items c.args.q live.parts.book.ends c.self.invariant.ends c.in_default.ensures.ended))

pub returns-then-is_open-clause-performs : goal.returns-then-is_open-clause-performs
returns-then-is_open-clause-performs g c =
    let live = c.self.inside.live in
    let seen : c.args.self.now.journal ≡ live.journal.items = search rules in
    let opened : is_open c.in-Ok.reply ≡ true = sym c.is_open.ensures ∙ c.if-is_open.true in
    subst (λ h. Collects g.U.UnitKind.meaning g.row.JMAX h h c.args.s c.args.q (Ok c.in-Ok.reply)) (sym seen)
    (collects_open g.U.UnitKind.meaning g.row.JMAX live.journal.items c.args.s c.args.q c.in-Ok.reply (open_reply c.in-Ok.reply opened)
    (has_open g.U.UnitKind.meaning live.journal.items c.args.q live.parts.book.ends c.self.invariant.ends (says_open c.args.q (slice_get live.parts.book.ends c.args.q.0) (ap is_open (sym c.in-Ok.ensures.end) ∙ opened))))
