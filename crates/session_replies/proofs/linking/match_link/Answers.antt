use Rattle.std.proofs.Common.{sym, Some, None}
use Rattle.std.proofs.lemmas.Result.{IfOk-weaker}
use Rattle.session_model.specs.Answer.{refused_lookup}
use Rattle.session_model.specs.Change.{matched}
use Rattle.session_replies.specs.Chains.{AreLinked}
use Rattle.session_replies.specs.Lookups.{IsFound, IsLinked}
use Rattle.session_replies.proofs.Externals.{looks_up, source_is, own_linked, alias_linked}
use Rattle.session_replies.proofs.linking.match_link.Goals as goal

pub returns : goal.returns
returns g c = λ x e.
    let r = c.requires.1.1 in
    let y = c.in-Some.unit.now in
    let u = g.U.UnitKind.meaning y.unit in
    let order = c.order.result.now in
    let wanted = c.deref-in-None.result.now in
    IfOk-weaker c.search.result (IsFound (refused_lookup g.m order wanted) (matched g.m order wanted)) (IsLinked g.m c.args.u x)
    (own_linked g.U.UnitKind.meaning c.args.parts.now g.m c.args.u y x order wanted r.0 (sym c.in-Some.ensures) e (source_is u c.source.result None c.source.ensures c.in-None.is) c.order.ensures
    (looks_up u y.live c.as_slice.result.now c.in_ok-wanted.wanted.items wanted c.deref-in-None.ensures.value c.in_ok-wanted.ensures c.as_slice.ensures))
    (c.search.ensures g.m r.0 r.1.1.1.0)

pub returns-in-Some-source : goal.returns-in-Some-source
returns-in-Some-source g c = λ x e.
    let r = c.requires.1.1 in
    let y = c.in-Some.unit.now in
    let u = g.U.UnitKind.meaning y.unit in
    let source = c.in-Some-source.source in
    let wanted = c.deref.result.now in
    let l : AreLinked g.U.UnitKind.meaning c.args.parts.now g.m = record { parts = r.0; queries = r.1.0; bound = r.1.1.0 } in
    alias_linked g.U.UnitKind.meaning c.args.parts.now g.m c.args.u y x source wanted c.search_alias.result r.0 (sym c.in-Some.ensures) e c.known.ensures (source_is u c.source.result (Some source) c.source.ensures c.in-Some-source.is)
    (looks_up u y.live c.as_slice.result.now c.in_ok-wanted.wanted.items wanted c.deref.ensures.value c.in_ok-wanted.ensures c.as_slice.ensures)
    (λ z one its externals. c.search_alias.ensures g.m z l r.1.1.1.0 one its externals)
