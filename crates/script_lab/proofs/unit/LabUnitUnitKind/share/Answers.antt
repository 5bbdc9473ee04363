use Rattle.std.proofs.Common.{ap}
use Rattle.script_lab.specs.Units.{with_code}
use Rattle.script_lab.proofs.unit.LabUnitUnitKind.share.Goals as goal

pub returns : goal.returns
returns c = ap (with_code c.args.self.now.answer) c.in_ok-share.ensures
