use Rattle.std.proofs.Common.{ℕ, None, ap, sym, subst}
use Rattle.std.specs.Bool.{if◌then◌else◌}
use Rattle.std.proofs.lemmas.Result.{IfOk-weaker}
use Rattle.session_model.specs.Change.{lodged}
use Rattle.session_model.specs.declared.entry.Event.TheVariants as event
use Rattle.session_replies.specs.Lookups.{IsAsked}
use Rattle.session_replies.specs.declared.looked.Looked.TheVariants as looked
use Rattle.session_parts.specs.Lodged.{note_of}
use Rattle.session_steps.specs.Lookups.{Lodges, IsLodgingStep}
use Rattle.session_steps.proofs.Lodging.{ask_here, ask_lodges, ask_refused, ask_unlodged}
use Rattle.session_steps.proofs.live.Live.look_up.Goals as goal

pub match_ask-requires : goal.match_ask-requires
match_ask-requires g c κs within =
    let r = c.requires.1.1 in
    (within.0, (within.1, (r.0.parts, (r.1.1.0, r.1.1.1))))

pub lodge_ask-requires : goal.lodge_ask-requires
lodge_ask-requires g c κs within =
    let r = c.requires.1.1 in
    let looks : IsAsked g.m c.args.order.now c.args.wanted.now (looked.Matched c.in-Matched.found) = subst (IsAsked g.m c.args.order.now c.args.wanted.now) c.in-Matched.is c.in_ok-reply.ensures in
    (within.0, (within.1, (r.0, (r.1.0, ask_here g.m c.args.order.now c.args.wanted.now c.in-Matched.found looks))))

pub returns-in-Refused-clause-step : goal.returns-in-Refused-clause-step
returns-in-Refused-clause-step g c =
    let looks : IsAsked g.m c.args.order.now c.args.wanted.now (looked.Refused c.in-Refused.reply) = subst (IsAsked g.m c.args.order.now c.args.wanted.now) c.in-Refused.is c.in_ok-reply.ensures in
    λ s. ask_refused g.U.UnitKind.meaning g.m c.args.order.now c.args.wanted.now c.args.level c.args.then.now c.in-Refused.reply c.args.self.now.parts c.requires.1.1.0 looks s

pub returns-in-Refused-clause-back : goal.returns-in-Refused-clause-back
returns-in-Refused-clause-back g c =
    let looks : IsAsked g.m c.args.order.now c.args.wanted.now (looked.Refused c.in-Refused.reply) = subst (IsAsked g.m c.args.order.now c.args.wanted.now) c.in-Refused.is c.in_ok-reply.ensures in
    ap (λ b. if b then None else c.args.then.now) (sym (ask_unlodged g.m c.args.order.now c.args.wanted.now c.in-Refused.reply looks))

pub returns-in-Matched-clause-step : goal.returns-in-Matched-clause-step
returns-in-Matched-clause-step g c =
    let r = c.requires.1.1 in
    let old = c.args.self.now.parts in
    let new = c.lodge_ask.new.self.parts in
    let found = c.in-Matched.found in
    let order = c.args.order.now in
    let wanted = c.args.wanted.now in
    let note = note_of c.args.then.now in
    let looks : IsAsked g.m order wanted (looked.Matched found) = subst (IsAsked g.m order wanted) c.in-Matched.is c.in_ok-reply.ensures in
    IfOk-weaker c.lodge_ask.result (λ w. Lodges g.U.UnitKind.meaning g.m (lodged found c.args.level None note g.m) found c.args.level c.args.then.now w old new)
    (λ w. (s : ℕ) → IsLodgingStep g.U.UnitKind.meaning g.m s (event.Ask order wanted c.args.level note) c.args.then.now w old new)
    (λ w l. ask_lodges g.U.UnitKind.meaning g.m order wanted found c.args.level c.args.then.now w old new r.1.1.0 r.1.1.1 looks l)
    c.lodge_ask.ensures.lodges
