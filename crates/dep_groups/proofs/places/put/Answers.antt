use Rattle.std.proofs.Common.{Some}
use Rattle.dep_groups.proofs.Tables.{place_put}
use Rattle.dep_groups.proofs.places.put.Goals as goal

pub returns : goal.returns
returns c = λ n. place_put c.args.places.now c.args.k n c.of.result (Some c.args.number) c.of.ensures c.requires.within
