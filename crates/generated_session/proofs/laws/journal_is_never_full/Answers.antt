use Rattle.generated_session.proofs.Short.{is_never_full}
use Rattle.generated_session.proofs.laws.journal_is_never_full.Goals as goal

pub returns : goal.returns
returns c = is_never_full
