use Rattle.session_laws.proofs.Addresses.{addresses_are_kept}
use Rattle.session_laws.proofs.keeps.addresses_are_kept.Goals as goal

pub returns : goal.returns
returns c = addresses_are_kept
