use Rattle.std.proofs.Common.{subst, sym}
use Rattle.session_plain.specs.Meant.{meant}
use Rattle.session_past.specs.Taking.{IsCollected}
use Rattle.session_past.proofs.TakeLemmas.{collected}
use Rattle.session_past.proofs.taking.reply_collect.Goals as goal

pub returns-clause-right : goal.returns-clause-right
returns-clause-right g c = λ past a. let m = meant g.U.UnitKind.meaning c.args.s.now in
    subst (IsCollected past m c.args.q.0) (sym c.in_ok-reply.ensures) (collected past m c.args.ends.now c.args.q a)
