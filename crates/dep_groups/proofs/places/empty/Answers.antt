use Rattle.std.proofs.Common.{None}
use Rattle.dep_groups.proofs.Tables.{place_put, place_left}
use Rattle.dep_groups.proofs.places.empty.Goals as goal

pub returns-then-k-places : goal.returns-then-k-places
returns-then-k-places c = λ n. place_put c.args.places.now c.args.k n c.none.result None c.none.ensures c.if-k-places.true

pub returns-else-k-places : goal.returns-else-k-places
returns-else-k-places c = λ n. place_left c.args.places.now c.args.k n c.if-k-places.false
