use Rattle.session_promises.proofs.Few.{rows_are_few}
use Rattle.session_promises.proofs.laws.rows_are_few.Goals as goal

pub returns : goal.returns
returns c = rows_are_few
