use Rattle.history_laws.proofs.Events.{lodging_is_told}
use Rattle.session_model.specs.declared.entry.Event.TheVariants as event
use Rattle.shared_session.proofs.Lent.{legal_lent, noted_lent, performs_home}
use Rattle.shared_session.specs.Does.{seat}
use Rattle.std.proofs.Common.{refl, None}
use Rattle.shared_session.proofs.calls.units.LinkCallHome.make.Goals as goal

pub invariant_of-home : goal.invariant_of-home
invariant_of-home g c = record { noted = (lodging_is_told g.U.UnitKind.meaning g.row.JMAX c.deref_mut.result.now c.link.new.self (seat c.args.seat) (event.Link c.args.self.unit) c.link.result.answer None c.link.result.fires (legal_lent g.U.UnitKind.meaning c.deref_mut.result.now c.args.home.now.session.value c.deref_mut.ensures.value g.row.JMAX c.requires.lawful.legal) (noted_lent g.U.UnitKind.meaning c.deref_mut.result.now c.args.home.now.session.value c.deref_mut.ensures.value c.args.home.now.noted) refl c.link.ensures.performs c.link.ensures.fires).0 }

pub returns : goal.returns
returns g c = record { performs = performs_home g.U.UnitKind.meaning c.deref_mut.result.now c.args.home.now.session.value c.deref_mut.ensures.value g.row.JMAX c.link.new.self.journal (seat c.args.seat) (event.Link c.args.self.unit) c.link.result.answer c.link.ensures.performs; tells = (lodging_is_told g.U.UnitKind.meaning g.row.JMAX c.deref_mut.result.now c.link.new.self (seat c.args.seat) (event.Link c.args.self.unit) c.link.result.answer None c.link.result.fires (legal_lent g.U.UnitKind.meaning c.deref_mut.result.now c.args.home.now.session.value c.deref_mut.ensures.value g.row.JMAX c.requires.lawful.legal) (noted_lent g.U.UnitKind.meaning c.deref_mut.result.now c.args.home.now.session.value c.deref_mut.ensures.value c.args.home.now.noted) refl c.link.ensures.performs c.link.ensures.fires).1 }
