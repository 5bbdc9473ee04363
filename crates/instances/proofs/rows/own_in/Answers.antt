use Rattle.std.proofs.Common.{◌++◌, List, Some, drop, ap, sym, ◌∙◌, arith, append-nil}
use Rattle.std.proofs.lemmas.Option.{slice_get-get_or}
use Rattle.orc_ids.specs.declared.ids.InstId.{InstId}
use Rattle.session_model.specs.Plain.{own_rows}
use Rattle.instances.proofs.Owned.{own_from, own_to, own_more}
use Rattle.instances.proofs.rows.own_in.Goals as goal

pub loop-i-init : goal.loop-i-init
loop-i-init c =
    ap (λ (xs : List InstId). xs ++ own_rows c.args.u.0 c.args.span.first (drop c.args.span.first c.args.rows.now)) c.new-own.ensures.items
    ∙ own_from c.args.rows.now c.args.u.0 c.args.span.first c.args.span.count c.requires.span

pub loop-i-preserved : goal.loop-i-preserved
loop-i-preserved c =
    let i = c.loop-i.i in
    let r = c.index-rows-i.result in
    let there = slice_get-get_or c.args.rows.now i r (omega (arith, c.loop-i-test.true, c.requires.span.inside)) ∙ ap Some (sym c.index-rows-i.is) in
    own_more c.args.rows.now c.args.u.0 i r c.loop-i.own.items c.push_own.new.own.items there c.loop-i.invariant c.in_ok-push_own.ensures

pub returns : goal.returns
returns c =
    let own = c.loop-i.own.items in
    c.from_vec.ensures ∙ sym (append-nil own)
    ∙ ap (λ (xs : List InstId). own ++ xs) (sym (own_to c.args.rows.now c.args.u.0 c.args.span.first c.args.span.count c.loop-i.i c.requires.span c.loop-i-test.false))
    ∙ c.loop-i.invariant
