use Rattle.history_laws.proofs.Events.{quiet_is_noted}
use Rattle.session_model.specs.declared.entry.Event.TheVariants as event
use Rattle.shared_session.proofs.Lent.{legal_lent, noted_lent}
use Rattle.shared_session.specs.Does.{seat}
use Rattle.std.proofs.Common.{refl}
use Rattle.shared_session.proofs.calls.trackers.MoveTrackerCallHome.make.Goals as goal

pub invariant_of-home : goal.invariant_of-home
invariant_of-home g c = record { noted = quiet_is_noted g.U.UnitKind.meaning g.row.JMAX c.deref_mut.result.now c.move_tracker.new.self (seat c.args.seat) (event.MoveTracker c.args.self.from c.args.self.to) c.move_tracker.result (legal_lent g.U.UnitKind.meaning c.deref_mut.result.now c.args.home.now.session.value c.deref_mut.ensures.value g.row.JMAX c.requires.lawful.legal) (noted_lent g.U.UnitKind.meaning c.deref_mut.result.now c.args.home.now.session.value c.deref_mut.ensures.value c.args.home.now.noted) refl c.move_tracker.ensures.armed c.move_tracker.ensures.performs }
