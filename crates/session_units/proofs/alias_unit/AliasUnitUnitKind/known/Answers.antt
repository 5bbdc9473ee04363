use Rattle.session_units.proofs.OtherLaws.{alias_lawful}
use Rattle.session_units.proofs.alias_unit.AliasUnitUnitKind.known.Goals as goal

pub returns : goal.returns
returns c = alias_lawful c.args.self.now.name c.args.self.now.alias c.args.self.now.source c.args.self.now.target
