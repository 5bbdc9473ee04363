use Rattle.session_script.proofs.Counts.{looking_up_few}
use Rattle.session_script.proofs.reader.Reader.look_up.Goals as goal

pub returns-in_default-clause-refused : goal.returns-in_default-clause-refused
returns-in_default-clause-refused c = looking_up_few c.args.self.now c.args.noted c.args.operands.now c.in_default.len_below
