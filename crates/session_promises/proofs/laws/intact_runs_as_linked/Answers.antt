use Rattle.memory_laws.proofs.Holding.{intact_holds}
use Rattle.static_links.proofs.Linked.{image_is_linked}
use Rattle.session_promises.proofs.Runs.{intact_runs_as_linked}
use Rattle.session_promises.proofs.laws.intact_runs_as_linked.Goals as goal

pub returns : goal.returns
returns c = intact_runs_as_linked (intact_holds image_is_linked)
