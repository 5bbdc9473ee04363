use Rattle.history_laws.proofs.Events.{settling_is_told}
use Rattle.session_model.specs.declared.entry.Event.TheVariants as event
use Rattle.shared_session.proofs.Lent.{legal_lent, noted_lent, performs_home}
use Rattle.shared_session.specs.Does.{seat}
use Rattle.std.proofs.Common.{refl}
use Rattle.shared_session.proofs.calls.trackers.RemoveCallHome.make.Goals as goal

pub invariant_of-home : goal.invariant_of-home
invariant_of-home g c = record { noted = (settling_is_told g.U.UnitKind.meaning g.row.JMAX c.deref_mut.result.now c.remove.new.self (seat c.args.seat) (event.Remove c.args.self.tracker) c.remove.result.answer c.remove.result.fires (legal_lent g.U.UnitKind.meaning c.deref_mut.result.now c.args.home.now.session.value c.deref_mut.ensures.value g.row.JMAX c.requires.lawful.legal) (noted_lent g.U.UnitKind.meaning c.deref_mut.result.now c.args.home.now.session.value c.deref_mut.ensures.value c.args.home.now.noted) refl c.remove.ensures.performs c.remove.ensures.fires).0 }

pub returns : goal.returns
returns g c = record { tells = record { performs = performs_home g.U.UnitKind.meaning c.deref_mut.result.now c.args.home.now.session.value c.deref_mut.ensures.value g.row.JMAX c.remove.new.self.journal (seat c.args.seat) (event.Remove c.args.self.tracker) c.remove.result.answer c.remove.ensures.performs; tells = (settling_is_told g.U.UnitKind.meaning g.row.JMAX c.deref_mut.result.now c.remove.new.self (seat c.args.seat) (event.Remove c.args.self.tracker) c.remove.result.answer c.remove.result.fires (legal_lent g.U.UnitKind.meaning c.deref_mut.result.now c.args.home.now.session.value c.deref_mut.ensures.value g.row.JMAX c.requires.lawful.legal) (noted_lent g.U.UnitKind.meaning c.deref_mut.result.now c.args.home.now.session.value c.deref_mut.ensures.value c.args.home.now.noted) refl c.remove.ensures.performs c.remove.ensures.fires).1 }; memory = c.remove.ensures.memory }
