use Rattle.history_laws.proofs.Events.{take_is_noted}
use Rattle.shared_session.proofs.Lent.{legal_lent, noted_lent}
use Rattle.shared_session.specs.Does.{seat}
use Rattle.shared_session.proofs.calls.work.TakeCallHome.make.Goals as goal

pub invariant_of-home : goal.invariant_of-home
invariant_of-home g c = record { noted = take_is_noted g.U.UnitKind.meaning g.row.JMAX c.deref_mut.result.now c.take-taken.new.self (seat c.args.seat) c.take-taken.result.answer (legal_lent g.U.UnitKind.meaning c.deref_mut.result.now c.args.home.now.session.value c.deref_mut.ensures.value g.row.JMAX c.requires.lawful.legal) (noted_lent g.U.UnitKind.meaning c.deref_mut.result.now c.args.home.now.session.value c.deref_mut.ensures.value c.args.home.now.noted) c.take-taken.ensures.armed c.take-taken.ensures.performs }
