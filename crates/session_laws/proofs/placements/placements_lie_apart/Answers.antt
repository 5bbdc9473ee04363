use Rattle.session_laws.proofs.Ranges.{placements_lie_apart}
use Rattle.session_laws.proofs.placements.placements_lie_apart.Goals as goal

pub returns : goal.returns
returns c = placements_lie_apart
