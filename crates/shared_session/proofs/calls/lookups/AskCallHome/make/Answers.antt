use Rattle.history_laws.proofs.Events.{lodging_is_told}
use Rattle.session_model.specs.declared.entry.Event.TheVariants as event
use Rattle.shared_session.proofs.Lent.{legal_lent, noted_lent, performs_home}
use Rattle.shared_session.specs.Does.{seat}
use Rattle.std.proofs.Common.{refl, option_map}
use Rattle.shared_session.proofs.calls.lookups.AskCallHome.make.Goals as goal

pub invariant_of-home : goal.invariant_of-home
invariant_of-home g c = record { noted = (lodging_is_told g.U.UnitKind.meaning g.row.JMAX c.deref_mut.result.now c.ask.new.self (seat c.args.seat) (event.Ask c.args.self.order.now c.args.self.wanted.now c.args.self.level (option_map (λ armed. armed.note) c.args.self.then)) c.ask.result.answer c.args.self.then c.ask.result.fires (legal_lent g.U.UnitKind.meaning c.deref_mut.result.now c.args.home.now.session.value c.deref_mut.ensures.value g.row.JMAX c.requires.lawful.legal) (noted_lent g.U.UnitKind.meaning c.deref_mut.result.now c.args.home.now.session.value c.deref_mut.ensures.value c.args.home.now.noted) refl c.ask.ensures.performs c.ask.ensures.fires).0 }

pub returns : goal.returns
returns g c = (record { performs = performs_home g.U.UnitKind.meaning c.deref_mut.result.now c.args.home.now.session.value c.deref_mut.ensures.value g.row.JMAX c.ask.new.self.journal (seat c.args.seat) (event.Ask c.args.self.order.now c.args.self.wanted.now c.args.self.level (option_map (λ armed. armed.note) c.args.self.then)) c.ask.result.answer c.ask.ensures.performs; tells = (lodging_is_told g.U.UnitKind.meaning g.row.JMAX c.deref_mut.result.now c.ask.new.self (seat c.args.seat) (event.Ask c.args.self.order.now c.args.self.wanted.now c.args.self.level (option_map (λ armed. armed.note) c.args.self.then)) c.ask.result.answer c.args.self.then c.ask.result.fires (legal_lent g.U.UnitKind.meaning c.deref_mut.result.now c.args.home.now.session.value c.deref_mut.ensures.value g.row.JMAX c.requires.lawful.legal) (noted_lent g.U.UnitKind.meaning c.deref_mut.result.now c.args.home.now.session.value c.deref_mut.ensures.value c.args.home.now.noted) refl c.ask.ensures.performs c.ask.ensures.fires).1 }, c.ask.ensures.back)
