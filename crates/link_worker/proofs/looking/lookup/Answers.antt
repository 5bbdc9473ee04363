use Rattle.std.proofs.Common.{arith, ap, refl, sym, subst, Ok, ◌∙◌}
use Rattle.session_model.specs.declared.entry.Reply.TheVariants as reply
use Rattle.turn_lock.specs.Handles.{view}
use Rattle.link_worker.specs.Looks.{HasLooked, lookup_of}
use Rattle.link_worker.proofs.Asking.{AskTurn, UseOf, ask_free, ask_stopped, asks_none, back_is, is_asked, offered_is, settled, use_stopped, used, used_free}
use Rattle.link_worker.proofs.looking.lookup.Goals as goal

pub loop-init : goal.loop-init
loop-init g c = (c.requires.ready, c.requires.free, refl, asks_none g.U.UnitKind.meaning g.N.Notify.heard g.row.JMAX c.args.order.now c.args.wanted.now c.args.level c.args.then (view c.args.pass.now) c.args.fired.now)

pub returns-in-Err-perform-clause-free : goal.returns-in-Err-perform-clause-free
returns-in-Err-perform-clause-free g c =
    let means = g.U.UnitKind.meaning in
    let hears = g.N.Notify.heard in
    let v = view c.args.pass.now in
    let x = view c.loop.pass in
    let y = view c.perform-answer.new.seat in
    let z = view c.perform.new.seat in
    let made = c.perform-answer.result in
    let so = c.loop.invariant.3 in
    let turned = subst (λ th. AskTurn means g.row.JMAX c.args.order.now c.args.wanted.now c.args.level x y th made.answer made.back made.fires) c.loop.invariant.2 c.perform-answer.ensures.turned in
    let is = c.in-Ok.is ∙ ap Ok (offered_is c.in-Ok.reply c.in-Some-offered_in.generator (sym c.offered_in.ensures ∙ c.in-Some-offered_in.is)) in
    let offered = subst (λ a. AskTurn means g.row.JMAX c.args.order.now c.args.wanted.now c.args.level x y c.args.then a made.back made.fires) is turned in
    let free = ask_free means hears g.row.JMAX c.args.order.now c.args.wanted.now c.args.level c.args.then v x y c.args.fired.now c.loop.fired c.fire_all.new.done so (reply.Offer c.in-Some-offered_in.generator) made.back made.fires c.loop.invariant.1 offered in
    (use_stopped means hears g.row.JMAX c.args.order.now c.args.wanted.now c.args.level c.args.then v x y c.args.fired.now c.loop.fired c.fire_all.new.done so c.in-Some-offered_in.generator made.back made.fires offered c.fire_all.ensures z c.in-Err-perform.stop free
    (subst (UseOf means hears g.row.JMAX c.args.order.now c.args.wanted.now c.args.level c.args.then v x y c.args.fired.now c.loop.fired c.fire_all.new.done so c.in-Some-offered_in.generator made.back made.fires offered c.fire_all.ensures z) c.in-Err-perform.is c.perform.ensures.turned)).1

pub returns-in-Err-perform-clause-looked : goal.returns-in-Err-perform-clause-looked
returns-in-Err-perform-clause-looked g c =
    let means = g.U.UnitKind.meaning in
    let hears = g.N.Notify.heard in
    let v = view c.args.pass.now in
    let x = view c.loop.pass in
    let y = view c.perform-answer.new.seat in
    let z = view c.perform.new.seat in
    let made = c.perform-answer.result in
    let so = c.loop.invariant.3 in
    let turned = subst (λ th. AskTurn means g.row.JMAX c.args.order.now c.args.wanted.now c.args.level x y th made.answer made.back made.fires) c.loop.invariant.2 c.perform-answer.ensures.turned in
    let is = c.in-Ok.is ∙ ap Ok (offered_is c.in-Ok.reply c.in-Some-offered_in.generator (sym c.offered_in.ensures ∙ c.in-Some-offered_in.is)) in
    let offered = subst (λ a. AskTurn means g.row.JMAX c.args.order.now c.args.wanted.now c.args.level x y c.args.then a made.back made.fires) is turned in
    let free = ask_free means hears g.row.JMAX c.args.order.now c.args.wanted.now c.args.level c.args.then v x y c.args.fired.now c.loop.fired c.fire_all.new.done so (reply.Offer c.in-Some-offered_in.generator) made.back made.fires c.loop.invariant.1 offered in
    subst (λ e. HasLooked means hears g.row.JMAX v z c.args.fired.now c.fire_all.new.done (lookup_of c.args.order.now c.args.wanted.now c.args.level c.args.then) c.args.then e made.back) (sym c.end_stopped-end.ensures)
    (use_stopped means hears g.row.JMAX c.args.order.now c.args.wanted.now c.args.level c.args.then v x y c.args.fired.now c.loop.fired c.fire_all.new.done so c.in-Some-offered_in.generator made.back made.fires offered c.fire_all.ensures z c.in-Err-perform.stop free
    (subst (UseOf means hears g.row.JMAX c.args.order.now c.args.wanted.now c.args.level c.args.then v x y c.args.fired.now c.loop.fired c.fire_all.new.done so c.in-Some-offered_in.generator made.back made.fires offered c.fire_all.ensures z) c.in-Err-perform.is c.perform.ensures.turned)).0

pub settle-end-requires : goal.settle-end-requires
settle-end-requires g c =
    let means = g.U.UnitKind.meaning in
    let hears = g.N.Notify.heard in
    let v = view c.args.pass.now in
    let x = view c.loop.pass in
    let y = view c.perform-answer.new.seat in
    let made = c.perform-answer.result in
    let so = c.loop.invariant.3 in
    let turned = subst (λ th. AskTurn means g.row.JMAX c.args.order.now c.args.wanted.now c.args.level x y th made.answer made.back made.fires) c.loop.invariant.2 c.perform-answer.ensures.turned in
    let answered = subst (λ a. AskTurn means g.row.JMAX c.args.order.now c.args.wanted.now c.args.level x y c.args.then a made.back made.fires) c.in-Ok.is turned in (
      omega arith,
      (
        c.perform-answer.ensures.ready,
        (
          ask_free means hears g.row.JMAX c.args.order.now c.args.wanted.now c.args.level c.args.then v x y c.args.fired.now c.loop.fired c.fire_all.new.done so c.in-Ok.reply made.back made.fires c.loop.invariant.1 answered,
          is_asked means hears g.row.JMAX c.args.order.now c.args.wanted.now c.args.level c.args.then v x y c.args.fired.now c.loop.fired c.fire_all.new.done so c.in-Ok.reply made.back made.fires (sym c.offered_in.ensures ∙ c.in-None-offered_in.is) answered,
        ),
      ),
    )

pub returns-in-None-offered_in-clause-looked : goal.returns-in-None-offered_in-clause-looked
returns-in-None-offered_in-clause-looked g c =
    let means = g.U.UnitKind.meaning in
    let hears = g.N.Notify.heard in
    let v = view c.args.pass.now in
    let x = view c.loop.pass in
    let y = view c.perform-answer.new.seat in
    let made = c.perform-answer.result in
    let so = c.loop.invariant.3 in
    let turned = subst (λ th. AskTurn means g.row.JMAX c.args.order.now c.args.wanted.now c.args.level x y th made.answer made.back made.fires) c.loop.invariant.2 c.perform-answer.ensures.turned in
    let answered = subst (λ a. AskTurn means g.row.JMAX c.args.order.now c.args.wanted.now c.args.level x y c.args.then a made.back made.fires) c.in-Ok.is turned in
    settled means hears g.row.JMAX c.args.order.now c.args.wanted.now c.args.level c.args.then v x y c.args.fired.now c.loop.fired c.fire_all.new.done so c.in-Ok.reply (view c.settle-end.new.pass) c.settle-end.new.fired c.settle-end.result made.back made.fires
    (sym c.offered_in.ensures ∙ c.in-None-offered_in.is) answered c.fire_all.ensures c.settle-end.ensures.settled

pub loop-preserved : goal.loop-preserved
loop-preserved g c =
    let means = g.U.UnitKind.meaning in
    let hears = g.N.Notify.heard in
    let v = view c.args.pass.now in
    let x = view c.loop.pass in
    let y = view c.perform-answer.new.seat in
    let z = view c.perform.new.seat in
    let made = c.perform-answer.result in
    let so = c.loop.invariant.3 in
    let turned = subst (λ th. AskTurn means g.row.JMAX c.args.order.now c.args.wanted.now c.args.level x y th made.answer made.back made.fires) c.loop.invariant.2 c.perform-answer.ensures.turned in
    let is = c.in-Ok.is ∙ ap Ok (offered_is c.in-Ok.reply c.in-Some-offered_in.generator (sym c.offered_in.ensures ∙ c.in-Some-offered_in.is)) in
    let offered = subst (λ a. AskTurn means g.row.JMAX c.args.order.now c.args.wanted.now c.args.level x y c.args.then a made.back made.fires) is turned in
    let free = ask_free means hears g.row.JMAX c.args.order.now c.args.wanted.now c.args.level c.args.then v x y c.args.fired.now c.loop.fired c.fire_all.new.done so (reply.Offer c.in-Some-offered_in.generator) made.back made.fires c.loop.invariant.1 offered in
    let use_of = subst (UseOf means hears g.row.JMAX c.args.order.now c.args.wanted.now c.args.level c.args.then v x y c.args.fired.now c.loop.fired c.fire_all.new.done so c.in-Some-offered_in.generator made.back made.fires offered c.fire_all.ensures z) c.in_default.is c.perform.ensures.turned in (
      c.perform.ensures.ready,
      used_free means hears g.row.JMAX c.args.order.now c.args.wanted.now c.args.level c.args.then v x y c.args.fired.now c.loop.fired c.fire_all.new.done so c.in-Some-offered_in.generator made.back made.fires offered c.fire_all.ensures z c.in_default.field-0 free use_of,
      back_is means hears g.row.JMAX c.args.order.now c.args.wanted.now c.args.level c.args.then v x y c.args.fired.now c.loop.fired c.fire_all.new.done so c.in-Some-offered_in.generator made.back made.fires offered c.fire_all.ensures,
      used means hears g.row.JMAX c.args.order.now c.args.wanted.now c.args.level c.args.then v x y c.args.fired.now c.loop.fired c.fire_all.new.done so c.in-Some-offered_in.generator made.back made.fires offered c.fire_all.ensures z c.in_default.field-0 use_of,
    )

pub returns-in-Err-clause-free : goal.returns-in-Err-clause-free
returns-in-Err-clause-free g c =
    let means = g.U.UnitKind.meaning in
    let x = view c.loop.pass in
    let y = view c.perform-answer.new.seat in
    let made = c.perform-answer.result in
    let turned = subst (λ th. AskTurn means g.row.JMAX c.args.order.now c.args.wanted.now c.args.level x y th made.answer made.back made.fires) c.loop.invariant.2 c.perform-answer.ensures.turned in
    (ask_stopped means g.N.Notify.heard g.row.JMAX c.args.order.now c.args.wanted.now c.args.level c.args.then (view c.args.pass.now) x y c.args.fired.now c.loop.fired c.fire_all.new.done c.loop.invariant.3 c.in-Err.stop made.back made.fires c.loop.invariant.1
    (subst (λ a. AskTurn means g.row.JMAX c.args.order.now c.args.wanted.now c.args.level x y c.args.then a made.back made.fires) c.in-Err.is turned) c.fire_all.ensures).1

pub returns-in-Err-clause-looked : goal.returns-in-Err-clause-looked
returns-in-Err-clause-looked g c =
    let means = g.U.UnitKind.meaning in
    let hears = g.N.Notify.heard in
    let x = view c.loop.pass in
    let y = view c.perform-answer.new.seat in
    let made = c.perform-answer.result in
    let turned = subst (λ th. AskTurn means g.row.JMAX c.args.order.now c.args.wanted.now c.args.level x y th made.answer made.back made.fires) c.loop.invariant.2 c.perform-answer.ensures.turned in
    subst (λ e. HasLooked means hears g.row.JMAX (view c.args.pass.now) y c.args.fired.now c.fire_all.new.done (lookup_of c.args.order.now c.args.wanted.now c.args.level c.args.then) c.args.then e made.back) (sym c.end_stopped-end-in-Err.ensures)
    (ask_stopped means hears g.row.JMAX c.args.order.now c.args.wanted.now c.args.level c.args.then (view c.args.pass.now) x y c.args.fired.now c.loop.fired c.fire_all.new.done c.loop.invariant.3 c.in-Err.stop made.back made.fires c.loop.invariant.1
    (subst (λ a. AskTurn means g.row.JMAX c.args.order.now c.args.wanted.now c.args.level x y c.args.then a made.back made.fires) c.in-Err.is turned) c.fire_all.ensures).0
