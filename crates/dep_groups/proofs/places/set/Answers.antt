use Rattle.dep_groups.proofs.Tables.{place_set}
use Rattle.dep_groups.proofs.places.set.Goals as goal

pub returns : goal.returns
returns c = λ n. place_set c.args.places.now c.args.k n c.args.content c.requires
