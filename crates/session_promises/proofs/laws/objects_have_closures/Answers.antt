use Rattle.session_promises.proofs.Objects.{objects_have_closures}
use Rattle.session_promises.proofs.laws.objects_have_closures.Goals as goal

pub returns : goal.returns
returns c = objects_have_closures
