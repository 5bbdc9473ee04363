use Rattle.std.proofs.Common.{sym}
use Rattle.shared_bytes.proofs.Ranges.{range_of_seen}
use Rattle.shared_bytes.proofs.shared.SharedBytes.range.Goals as goal

pub returns : goal.returns
returns c = range_of_seen c.self.inside.start c.args.start c.args.len c.self.inside.len _ _ c.args.self.now c.in_ok-shared.ensures (sym c.self.view_is) c.requires
