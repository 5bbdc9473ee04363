use Rattle.session_laws.proofs.Placing.{full_stops_others}
use Rattle.session_laws.proofs.journal.full_stops_others.Goals as goal

pub returns : goal.returns
returns c = full_stops_others
