use Rattle.std.proofs.Common.{◌≡◌, ◌+◌, ap, ◌∙◌, arith, rules}
use Rattle.session_model.specs.Answer.{lodged_reply}
use Rattle.session_steps.proofs.Lodging.{ask_lodging}
use Rattle.session_steps.proofs.live.Live.lodge_ask.Goals as goal

pub lodged_reply-reply-requires : goal.lodged_reply-reply-requires
lodged_reply-reply-requires g c κs within =
    let at = c.requires.1.1.0 in
    let few = at.few in
    (within.0, (within.1, (at.parts, (at.queries, (omega (arith, few))))))

pub ask-requires : goal.ask-requires
ask-requires g c κs within =
    let r = c.requires.1.1 in
    let at = r.0 in
    let asked : c.entry_count-asked.result + 1 ≡ g.m.entries + 1 = search rules in
    (within.0, (within.1, (at.parts, (at.sound, (at.queries, (at.few, (r.1.1, asked)))))))

pub returns-clause-lodges : goal.returns-clause-lodges
returns-clause-lodges g c =
    let r = c.requires.1.1 in
    let at = r.0 in
    let told = c.in_ok-ask.ensures in
    let asked : c.entry_count-asked.result + 1 ≡ g.m.entries + 1 = search rules in
    let same : c.as_slice-2.result.now ≡ c.args.found = search rules in
    ask_lodging g.U.UnitKind.meaning g.m (c.entry_count-asked.result + 1) c.args.found c.args.level c.args.then.now c.lodged_reply-reply.result c.args.self.now.parts c.ask.new.self asked at.queries r.1.1
    (c.lodged_reply-reply.ensures ∙ ap (lodged_reply g.m c.args.level) same) told.ok told.tells told.book told.current
