use Rattle.session_laws.proofs.Choosing.{reply_is_determined}
use Rattle.session_laws.proofs.histories.reply_is_determined.Goals as goal

pub returns : goal.returns
returns c = reply_is_determined
