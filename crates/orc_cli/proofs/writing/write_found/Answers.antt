use Rattle.std.proofs.Common.{[], inr, refl}
use Rattle.orc_cli.proofs.writing.write_found.Goals as goal

pub returns-in-Err-clause-written : goal.returns-in-Err-clause-written
returns-in-Err-clause-written g c = inr (c.write_texts-in-Err.ensures.written [] refl)
