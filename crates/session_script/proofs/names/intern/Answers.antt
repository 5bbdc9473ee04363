use Rattle.session_script.proofs.NameNumbers.{mentioned_from, number_from}
use Rattle.session_script.proofs.names.intern.Goals as goal

pub returns-clause-known : goal.returns-clause-known
returns-clause-known c = mentioned_from c.args.names.now c.intern.new.self c.args.name.now c.in-Ok.ensures.known c.in-Ok.ensures.added

pub returns-clause-number : goal.returns-clause-number
returns-clause-number c = number_from c.intern.new.self c.args.name.now c.in-Ok.id.0 c.in-Ok.ensures.number
