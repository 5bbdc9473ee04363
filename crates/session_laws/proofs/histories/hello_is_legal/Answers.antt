use Rattle.session_laws.proofs.Greeting.{hello_is_legal}
use Rattle.session_laws.proofs.histories.hello_is_legal.Goals as goal

pub returns : goal.returns
returns c = hello_is_legal
