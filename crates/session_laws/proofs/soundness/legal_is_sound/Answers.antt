use Rattle.session_laws.proofs.Invariant.{legal_is_sound}
use Rattle.session_laws.proofs.soundness.legal_is_sound.Goals as goal

pub returns : goal.returns
returns c = legal_is_sound
