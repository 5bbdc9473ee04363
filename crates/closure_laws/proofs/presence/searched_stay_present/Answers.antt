use Rattle.closure_laws.proofs.PresentStaying.{searched_stay_present}
use Rattle.closure_laws.proofs.presence.searched_stay_present.Goals as goal

pub returns : goal.returns
returns c = searched_stay_present
