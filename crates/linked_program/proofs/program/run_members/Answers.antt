use denote.Param.Send.{sendable}
use Rattle.std.proofs.Crossing as heap
use Rattle.orc_io.proofs.notify.Note.TheSendSync as note
use Rattle.shared_session.proofs.Crossing.{home_send}
use Rattle.turn_lock.specs.Handles.{view}
use Rattle.link_worker.proofs.NewSeats.{may_begin}
use Rattle.linked_program.proofs.MemberDuties.{end_there, members_worked}
use Rattle.linked_program.proofs.program.run_members.Goals as goal

pub client_end-requires : goal.client_end-requires
client_end-requires g c = end_there g.U.UnitKind.meaning g.row.JMAX c.args.workers c.args.entry (view c.args.first.now) (view c.work.new.first) c.args.members c.work.result.items c.requires.first.from c.requires.members c.work.ensures.worked

pub returns-clause-worked : goal.returns-clause-worked
returns-clause-worked g c log said = members_worked g.U.UnitKind.meaning g.row.JMAX c.args.workers c.args.entry (view c.args.first.now) (view c.work.new.first) c.args.members c.work.result.items c.requires.first.from c.requires.members c.work.ensures.worked log c.client_end.result c.client_end.ensures said

pub work-requires-clause-may : goal.work-requires-clause-may
work-requires-clause-may g c κs within = may_begin g.U.UnitKind.meaning g.row.JMAX (view c.args.first.now) c.args.members c.requires.first

pub work-requires-send-T : goal.work-requires-send-T
work-requires-send-T g c κs within = let send = c.type_bounds.send-U in search (sendable, heap.crosses, home_send, note.the_send) depth 40
