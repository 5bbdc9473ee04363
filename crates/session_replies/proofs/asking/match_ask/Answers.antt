use Rattle.std.proofs.Common.{◌≡◌, None, sym, subst}
use Rattle.std.proofs.lemmas.Result.{IfOk-weaker}
use Rattle.link_order.specs.Finds.{order_refusal}
use Rattle.session_model.specs.Change.{matched}
use Rattle.session_replies.specs.Lookups.{IsAsked, IsFound}
use Rattle.session_replies.specs.Shown.{shown}
use Rattle.session_replies.proofs.Replying.{asked_shown, both_ok}
use Rattle.session_replies.proofs.Sights.{IsSightOf, sight_is}
use Rattle.session_replies.proofs.asking.match_ask.Goals as goal

pub returns : goal.returns
returns g c =
    let r = c.requires.1.1 in
    let sight = c.of-shown.result in
    let refusal = order_refusal (shown g.U.UnitKind.meaning sight) c.args.order.now c.args.wanted.now in
    let all = matched (shown g.U.UnitKind.meaning sight) c.args.order.now c.args.wanted.now in
    let is = subst (λ s. IsSightOf g.U.UnitKind.meaning s g.m) (sym c.of-shown.ensures) (sight_is g.U.UnitKind.meaning c.args.parts.now g.m r.0) in
    IfOk-weaker c.of.result (IsFound refusal all) (IsAsked g.m c.args.order.now c.args.wanted.now)
    (asked_shown g.U.UnitKind.meaning sight g.m is c.args.order.now c.args.wanted.now r.1.0 r.1.1)
    (c.of.ensures refusal all (both_ok c.match_all.result (λ found. refusal ≡ None) (λ found. found ≡ all) c.match_all.ensures.allowed c.match_all.ensures.matched) c.match_all.ensures.refused)
