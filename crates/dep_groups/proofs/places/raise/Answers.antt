use Rattle.std.proofs.Common.{true}
use Rattle.dep_groups.proofs.Tables.{flag_written, count_raised}
use Rattle.dep_groups.proofs.places.raise.Goals as goal

pub returns-clause-set : goal.returns-clause-set
returns-clause-set c = λ n. flag_written c.args.flags.now c.args.k n true c.requires

pub returns-clause-count : goal.returns-clause-count
returns-clause-count c = λ low. count_raised c.args.flags.now c.args.k c.requires low
