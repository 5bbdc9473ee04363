-- Deposits of what is laid out lie apart in code memory.
use Rattle.std.specs.BTreeMap.{values}
use Rattle.code_memory.proofs.LaidOut.{code_deposits}
use Rattle.code_memory.proofs.last_image.new_image.Goals as goal

pub from_list-requires : goal.from_list-requires
from_list-requires c = rw c.in_ok-new.ensures.ok (rw c.in_ok-segments.ensures (code_deposits (values c.args.placed.now) c.requires))
