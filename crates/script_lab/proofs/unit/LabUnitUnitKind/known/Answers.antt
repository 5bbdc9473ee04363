use Rattle.session_check.specs.Known.{known_meaning}
use Rattle.script_lab.proofs.Lawful.{code_lawful}
use Rattle.script_lab.proofs.unit.LabUnitUnitKind.known.Goals as goal

pub returns : goal.returns
returns c = code_lawful c.args.self.now.answer (known_meaning c.args.self.now.known) c.known.ensures
