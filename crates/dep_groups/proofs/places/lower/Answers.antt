use Rattle.std.proofs.Common.{false}
use Rattle.dep_groups.proofs.Tables.{flag_written}
use Rattle.dep_groups.proofs.places.lower.Goals as goal

pub returns : goal.returns
returns c = λ n. flag_written c.args.flags.now c.args.k n false c.requires
