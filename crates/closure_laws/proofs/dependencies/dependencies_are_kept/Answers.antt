use Rattle.closure_laws.proofs.Depending.{dependencies_are_kept}
use Rattle.closure_laws.proofs.dependencies.dependencies_are_kept.Goals as goal

pub returns : goal.returns
returns c = dependencies_are_kept
