use Rattle.memory_laws.proofs.Waiting.{ask_comes_first}
use Rattle.memory_laws.proofs.names.ask_comes_first.Goals as goal

pub returns : goal.returns
returns c = ask_comes_first
