use Rattle.generated_objects.proofs.Canonicals.{generated_canonical}
use Rattle.generated_objects.proofs.laws.generated_objects_are_canonical.Goals as goal

pub returns : goal.returns
returns c = generated_canonical
