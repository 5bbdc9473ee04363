use Rattle.std.proofs.Common.{◌≡◌, subst}
use Rattle.std.proofs.lemmas.Result.{IfOk-weaker}
use Rattle.orc_ids.specs.declared.lookup.Level.TheVariants as level
use Rattle.session_model.specs.Answer.{Right, called, can_link}
use Rattle.session_model.specs.Change.{linked}
use Rattle.session_model.specs.Plain.{UnitRow}
use Rattle.session_model.specs.declared.entry.Event.TheVariants as event
use Rattle.session_replies.specs.Lookups.{IsLinked}
use Rattle.session_replies.specs.declared.looked.Looked.TheVariants as looked
use Rattle.session_replies.proofs.Turning.{right_unit}
use Rattle.session_steps.specs.Lookups.{Lodges, IsLodgingStep}
use Rattle.session_steps.proofs.Lodging.{link_here, link_lodges, link_refused}
use Rattle.session_steps.proofs.live.Live.look_up_externals.Goals as goal

pub match_link-requires : goal.match_link-requires
match_link-requires g c κs within =
    let r = c.requires.1.1 in
    let at = r.0 in
    (within.0, (within.1, (at.parts, (at.queries, (at.bound, ((λ i w t. (at.homes.rows i w t).dylib), r.1.1))))))

pub lodge_link-requires : goal.lodge_link-requires
lodge_link-requires g c κs within =
    let r = c.requires.1.1 in
    let x = r.1.1.0 in
    let looks : IsLinked g.m c.args.u x (looked.Matched c.in-Matched.found) = subst (IsLinked g.m c.args.u x) c.in-Matched.is (c.in_ok-reply.ensures x r.1.1.1) in
    (within.0, (within.1, (r.0, (r.1.0, (link_here g.m c.args.u x c.in-Matched.found looks, r.1.1)))))

pub returns-in-Refused-clause-step : goal.returns-in-Refused-clause-step
returns-in-Refused-clause-step g c = λ s x right.
    let unit = right_unit g.m s c.args.u can_link x right in
    link_refused g.U.UnitKind.meaning g.m c.args.u x c.in-Refused.reply c.args.self.now.parts c.requires.1.1.0 (subst (IsLinked g.m c.args.u x) c.in-Refused.is (c.in_ok-reply.ensures x unit.0)) s right

pub returns-in-Matched-clause-step : goal.returns-in-Matched-clause-step
returns-in-Matched-clause-step g c =
    let old = c.args.self.now.parts in
    let new = c.lodge_link.new.self.parts in
    let found = c.in-Matched.found in
    IfOk-weaker c.lodge_link.result (λ r. Lodges g.U.UnitKind.meaning g.m (linked c.args.u.0 found g.m) found level.Resolved Rattle.std.proofs.Common.None r old new)
    (λ r. (s : Rattle.std.proofs.Common.ℕ) (x : UnitRow) → called g.m s c.args.u can_link ≡ Right x → IsLodgingStep g.U.UnitKind.meaning g.m s (event.Link c.args.u) Rattle.std.proofs.Common.None r old new)
    (λ r l s x right. let unit = right_unit g.m s c.args.u can_link x right in
    link_lodges g.U.UnitKind.meaning g.m c.args.u x found r old new unit.0 (subst (IsLinked g.m c.args.u x) c.in-Matched.is (c.in_ok-reply.ensures x unit.0)) l s right)
    c.lodge_link.ensures.lodges
