use Rattle.std.proofs.Common.{◌≡◌, None, sym, subst}
use Rattle.std.proofs.lemmas.Result.{IfOk-weaker}
use Rattle.session_model.specs.Answer.{refused_lookup}
use Rattle.session_model.specs.Change.{matched}
use Rattle.session_replies.specs.Lookups.{IsFound}
use Rattle.session_replies.specs.Shown.{shown}
use Rattle.session_replies.proofs.Replying.{found_shown, both_ok}
use Rattle.session_replies.proofs.Sights.{IsSightOf, sight_is}
use Rattle.session_replies.proofs.linking.search.Goals as goal

pub returns : goal.returns
returns g c = λ m a homes.
    let sight = c.of-shown.result in
    let refusal = refused_lookup (shown g.U.UnitKind.meaning sight) c.args.order.now c.args.wanted.now in
    let all = matched (shown g.U.UnitKind.meaning sight) c.args.order.now c.args.wanted.now in
    let is = subst (λ s. IsSightOf g.U.UnitKind.meaning s m) (sym c.of-shown.ensures) (sight_is g.U.UnitKind.meaning c.args.parts.now m a) in
    IfOk-weaker c.of.result (IsFound refusal all) (IsFound (refused_lookup m c.args.order.now c.args.wanted.now) (matched m c.args.order.now c.args.wanted.now))
    (found_shown g.U.UnitKind.meaning sight m is homes c.args.order.now c.args.wanted.now)
    (c.of.ensures refusal all (both_ok c.match_names.result (λ found. refusal ≡ None) (λ found. found ≡ all) c.match_names.ensures.allowed c.match_names.ensures.matched) c.match_names.ensures.refused)
