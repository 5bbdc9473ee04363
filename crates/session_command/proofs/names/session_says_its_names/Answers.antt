use Rattle.session_command.proofs.NamedSessions.{session_names_known}
use Rattle.session_command.proofs.names.session_says_its_names.Goals as goal

pub returns : goal.returns
returns c = session_names_known
