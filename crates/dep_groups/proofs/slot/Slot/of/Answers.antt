use Rattle.dep_groups.proofs.Tables.{content_below}
use Rattle.dep_groups.proofs.slot.Slot.of.Goals as goal

pub returns : goal.returns
returns c = content_below c.args.number c.requires
