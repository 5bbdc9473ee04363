use denote.Param.Send.{sendable}
use Rattle.std.proofs.Common.{All, length, subst, sym, ap, ◌∙◌}
use Rattle.std.proofs.Crossing as heap
use Rattle.shared_session.proofs.Crossing.{home_send}
use Rattle.turn_lock.specs.Handles.{view, turn_id, post_count, IsReady}
use Rattle.script_session.specs.Leaving.{HasRoom}
use Rattle.script_session.specs.Members.{CanBegin}
use Rattle.script_session.proofs.Crossing.{member_send}
use Rattle.script_session.proofs.MemberEnds.{may_serve}
use Rattle.script_session.proofs.session.run_members.Goals as goal
use Rattle.script_session.proofs.session.run_members.Goals.{in-None, in-Some}

pub work-done-requires-clause-may : goal.work-done-requires-clause-may
work-done-requires-clause-may g c κs within = may_serve g.U.UnitKind.meaning g.N.Notify.heard g.N.Notify.number g.row.JMAX (post_count c.args.shared.now) (view c.args.first.now) c.args.members c.requires.posts c.requires.first c.requires.can

pub work-done-requires-send-T : goal.work-done-requires-send-T
work-done-requires-send-T g c κs within = let u = c.type_bounds.send-U in let n = c.type_bounds.send-N in search (sendable, heap.crosses, home_send) depth 40

pub work-done-requires-send-D : goal.work-done-requires-send-D
work-done-requires-send-D g c κs within = let u = c.type_bounds.send-U in let n = c.type_bounds.send-N in let s = c.type_bounds.sync-G in search (sendable, heap.crosses, member_send) depth 40

pub skip_all-done-requires-clause-can : goal.skip_all-done-requires-clause-can
skip_all-done-requires-clause-can g c = subst (All (CanBegin g.U.UnitKind.meaning g.N.Notify.heard g.N.Notify.number)) (sym c.into_duties.ensures) c.requires.can

pub take_all-requires : goal.take_all-requires
take_all-requires g c = elim c.match-left.branch [
  | in-None w ↦ subst (λ n. HasRoom n c.args.left.now) (sym (ap (λ d. length d.items) w.done-is ∙ w.work-done.ensures.worked.count)) c.requires.left
  | in-Some w ↦ subst (λ n. HasRoom n c.args.left.now) (sym (ap (λ d. length d.items) w.done-is ∙ (w.skip_all-done.ensures.count ∙ ap length w.into_duties.ensures))) c.requires.left
]

pub returns-clause-ready : goal.returns-clause-ready
returns-clause-ready g c = elim c.match-left.branch [
  | in-None w ↦ subst (IsReady (turn_id c.args.shared.now)) (sym w.first-is) w.work-done.ensures.ready
  | in-Some w ↦ subst (IsReady (turn_id c.args.shared.now)) (sym w.first-is) c.requires.ready
]
