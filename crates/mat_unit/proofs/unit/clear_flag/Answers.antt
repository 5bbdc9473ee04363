-- A write past the end is none.
use Rattle.std.proofs.Common.{false}
use Rattle.mat_unit.proofs.Writes.{set_same, changed_past}
use Rattle.mat_unit.proofs.unit.clear_flag.Goals as goal

pub returns-in-Some : goal.returns-in-Some
returns-in-Some c = set_same c.args.flags.now.items c.args.k false

pub returns-in_default : goal.returns-in_default
returns-in_default c = changed_past (λ flag. false) c.args.k c.args.flags.now.items c.in_default.ensures.item.3
