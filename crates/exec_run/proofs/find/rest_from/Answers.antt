-- The rest of the range that has the address.
use Rattle.std.proofs.Common.{◌-◌}
use Rattle.std.proofs.lemmas.List.{take_rest}
use Rattle.exec_run.proofs.Regions.{in_part}
use Rattle.exec_run.proofs.find.rest_from.Goals as goal

pub returns-clause-found : goal.returns-clause-found
returns-clause-found c =
    in_part c.args.ranges.now c.in_ok-k.k c.args.at c.base.result c.bytes.result.now _ c.in_ok-k.ensures.found c.base.ensures c.bytes.ensures (take_rest c.bytes.result.now (c.args.at - c.base.result))
