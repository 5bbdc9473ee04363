use Rattle.history_laws.proofs.Calling.{emit_stays}
use Rattle.history_laws.proofs.conditions.emit_stays.Goals as goal

pub returns : goal.returns
returns c = emit_stays
