use Rattle.session_laws.proofs.Ranges.{live_names_stay}
use Rattle.session_laws.proofs.placements.live_names_stay.Goals as goal

pub returns : goal.returns
returns c = live_names_stay
