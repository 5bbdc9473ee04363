use Rattle.session_plain.specs.Meant.{meant}
use Rattle.session_plain.proofs.SettleLemmas.{settle_more}
use Rattle.session_plain.proofs.settling.settle_at.Goals as goal

pub returns-clause-settled : goal.returns-clause-settled
returns-clause-settled g c =
    let means = g.U.UnitKind.meaning in
    settle_more c.args.s.now.queries.items c.args.k (meant means c.args.s.now) (meant means c.settle_one.new.s) c.link_of-linked.result c.requires.within c.link_of-linked.ensures c.in_ok-settle_one.ensures.settled
