use Rattle.std.proofs.Common.{◌≡◌, ◌+◌, ap, ◌∙◌, arith, rules}
use Rattle.session_steps.proofs.Lodging.{may_wait, link_lodging}
use Rattle.session_steps.proofs.live.Live.lodge_link.Goals as goal

pub lodged_reply-reply-requires : goal.lodged_reply-reply-requires
lodged_reply-reply-requires g c κs within =
    let at = c.requires.1.1.0 in
    let few = at.few in
    (within.0, (within.1, (at.parts, (at.queries, (omega (arith, few))))))

pub link-requires : goal.link-requires
link-requires g c κs within =
    let r = c.requires.1.1 in
    let at = r.0 in
    let right = r.1.1.1 in
    let asked : c.entry_count-asked.result + 1 ≡ g.m.entries + 1 = search rules in
    (within.0, (within.1, (at.parts, (at.sound, (at.queries, (at.few, (r.1.1.0, (asked, (right.0, right.1, may_wait right.0 right.2)))))))))

pub returns-clause-lodges : goal.returns-clause-lodges
returns-clause-lodges g c =
    let r = c.requires.1.1 in
    let at = r.0 in
    let told = c.in_ok-link.ensures in
    let asked : c.entry_count-asked.result + 1 ≡ g.m.entries + 1 = search rules in
    let same : c.as_slice-2.result.now ≡ c.args.found = search rules in
    link_lodging g.U.UnitKind.meaning g.m c.args.u (c.entry_count-asked.result + 1) c.args.found c.lodged_reply-reply.result c.args.self.now.parts c.link.new.self asked at.queries r.1.1.0
    (c.lodged_reply-reply.ensures ∙ ap (Rattle.session_model.specs.Answer.lodged_reply g.m Rattle.orc_ids.specs.declared.lookup.Level.TheVariants.Resolved) same) told.ok told.tells told.book told.current
