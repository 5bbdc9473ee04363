use Rattle.std.proofs.Common.{◌≡◌, ◌∙◌, ap, sym, subst, None, option_map, IfOk, IfErr}
use Rattle.session_model.specs.Lists.{or_else}
use Rattle.session_model.specs.Answer.{refused_lookup}
use Rattle.session_model.specs.declared.entry.Reply.TheVariants as reply
use Rattle.link_order.specs.Finds.{IsRefusedBy}
use Rattle.link_order.proofs.Refusals.{unknown_is}
use Rattle.link_order.proofs.matching.match_all.Goals as goal

pub returns-in-Some-clause-refused : goal.returns-in-Some-clause-refused
returns-in-Some-clause-refused g c =
    let m = g.R.RowSource.source c.args.rows.now in
    ap (λ o. or_else o (refused_lookup m c.args.order.now c.args.wanted.now)) (unknown_is m c.args.order.now ∙ ap (option_map reply.NoDylib) (sym c.unknown_dylib.ensures ∙ c.in-Some.is))

pub returns-in-None-clause-allowed : goal.returns-in-None-clause-allowed
returns-in-None-clause-allowed g c =
    let m = g.R.RowSource.source c.args.rows.now in
    subst (λ o. IfOk c.match_names.result (λ found. or_else o (refused_lookup m c.args.order.now c.args.wanted.now) ≡ None)) (sym (unknown_is m c.args.order.now ∙ ap (option_map reply.NoDylib) (sym c.unknown_dylib.ensures ∙ c.in-None.is))) c.match_names.ensures.allowed

pub returns-in-None-clause-refused : goal.returns-in-None-clause-refused
returns-in-None-clause-refused g c =
    let m = g.R.RowSource.source c.args.rows.now in
    subst (λ o. IfErr c.match_names.result (IsRefusedBy (or_else o (refused_lookup m c.args.order.now c.args.wanted.now)))) (sym (unknown_is m c.args.order.now ∙ ap (option_map reply.NoDylib) (sym c.unknown_dylib.ensures ∙ c.in-None.is))) c.match_names.ensures.refused
