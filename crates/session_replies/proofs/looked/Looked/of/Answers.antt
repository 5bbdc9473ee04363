use Rattle.std.proofs.Common.{sym, subst}
use Rattle.session_replies.specs.Lookups.{IsOutcome}
use Rattle.session_replies.proofs.looked.Looked.of.Goals as goal

pub returns-in-Err : goal.returns-in-Err
returns-in-Err c = subst (λ searched. IsOutcome searched c.refused.result) (sym c.in-Err.is) c.refused.ensures
