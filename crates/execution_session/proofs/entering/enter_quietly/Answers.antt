use Rattle.std.proofs.Common.{◌≡◌, false, sym, subst}
use Rattle.std.specs.Vec.{vec_capacity}
use Rattle.session_model.specs.State.{plain_event, plain_history}
use Rattle.session_model.specs.Change.{change_of}
use Rattle.closure_laws.specs.Quiet.{stirs}
use Rattle.session_steps.specs.Performs.{state_of}
use Rattle.session_steps.specs.Moved.{CanEnter}
use Rattle.execution_session.proofs.Listless.{listless}
use Rattle.execution_session.proofs.entering.enter_quietly.Goals as goal

pub enter_silently-requires-clause-can : goal.enter_silently-requires-clause-can
enter_silently-requires-clause-can g c = subst (λ r. CanEnter g.U.UnitKind.meaning g.row.JMAX c.args.live.now.journal.items (vec_capacity c.args.live.now.journal) (record { seat = c.args.seat; event = c.args.event; reply = r }) c.args.live.now.parts) (sym c.copy_reply.ensures) c.requires.can

pub enter_silently-requires-clause-quiet : goal.enter_silently-requires-clause-quiet
enter_silently-requires-clause-quiet g c = subst (λ r. stirs (change_of (state_of g.U.UnitKind.meaning c.args.live.now.journal.items) c.args.seat.0 (plain_event g.U.UnitKind.meaning c.args.event) r) ≡ false) (sym c.copy_reply.ensures) c.requires.quiet

pub copy_reply-requires : goal.copy_reply-requires
copy_reply-requires g c = listless g.row.JMAX (plain_history g.U.UnitKind.meaning c.args.live.now.journal.items) (state_of g.U.UnitKind.meaning c.args.live.now.journal.items) c.args.seat.0 (plain_event g.U.UnitKind.meaning c.args.event) c.args.reply c.requires.plain c.requires.can.answered
