use Rattle.history_laws.proofs.Dylibs.{source_stays}
use Rattle.history_laws.proofs.conditions.source_stays.Goals as goal

pub returns : goal.returns
returns c = source_stays
