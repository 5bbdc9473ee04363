use Rattle.std.proofs.Common.{subst}
use Rattle.session_check.specs.Known.{IsKnown}
use Rattle.session_check.proofs.KnownLemmas.{known_lawful}
use Rattle.session_check.proofs.known.KnownUnitUnitKind.known.Goals as goal

pub returns : goal.returns
returns c = known_lawful c.args.self.now (subst IsKnown c.self.view_is c.self.invariant)
