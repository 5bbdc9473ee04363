use Rattle.std.proofs.Common.{refl, rules}
use Rattle.session_steps.proofs.Declared.{quiet_entry}
use Rattle.execution_session.proofs.entering.enter_silently.Goals as goal

pub enter-fires-requires : goal.enter-fires-requires
enter-fires-requires g c κs within = (within.0, (within.1, ((search rules), (refl, c.requires.can))))

pub end-requires : goal.end-requires
end-requires g c = (quiet_entry g.U.UnitKind.meaning g.row.JMAX c.args.live.now.journal.items _ c.args.entry c.args.live.now.parts _ c.enter-fires.result c.requires.can c.requires.quiet c.enter-fires.ensures.grown c.enter-fires.ensures.fires).0

pub returns-clause-armed : goal.returns-clause-armed
returns-clause-armed g c = (quiet_entry g.U.UnitKind.meaning g.row.JMAX c.args.live.now.journal.items _ c.args.entry c.args.live.now.parts c.enter-fires.new.parts.book.armed c.enter-fires.result c.requires.can c.requires.quiet c.enter-fires.ensures.grown c.enter-fires.ensures.fires).1
