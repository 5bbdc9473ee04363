use Rattle.session_laws.proofs.Meeting.{one_end}
use Rattle.session_laws.proofs.queries.one_end_at_a_time.Goals as goal

pub returns : goal.returns
returns c = one_end
