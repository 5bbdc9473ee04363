use Rattle.history_laws.proofs.Events.{collect_is_noted}
use Rattle.shared_session.proofs.Lent.{legal_lent, noted_lent}
use Rattle.shared_session.specs.Does.{seat}
use Rattle.shared_session.proofs.calls.lookups.CollectCallHome.make.Goals as goal

pub invariant_of-home : goal.invariant_of-home
invariant_of-home g c = record { noted = collect_is_noted g.U.UnitKind.meaning g.row.JMAX c.deref_mut.result.now c.collect.new.self (seat c.args.seat) c.args.self.query c.collect.result (legal_lent g.U.UnitKind.meaning c.deref_mut.result.now c.args.home.now.session.value c.deref_mut.ensures.value g.row.JMAX c.requires.lawful.legal) (noted_lent g.U.UnitKind.meaning c.deref_mut.result.now c.args.home.now.session.value c.deref_mut.ensures.value c.args.home.now.noted) c.collect.ensures.armed c.collect.ensures.performs }
