use Rattle.std.proofs.Common.{rules}
use Rattle.generated_session.proofs.DefinitionLemmas.{whole_set_up}
use Rattle.generated_session.proofs.set_up.set_up_calls.Goals as goal

pub returns : goal.returns
returns c = whole_set_up _ _ _ _ _ (search rules) c.in_ok-put_dylibs.ensures c.in_ok-put_orders.ensures c.in_ok-put_definitions.ensures
