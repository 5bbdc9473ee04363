use Rattle.session_script.proofs.Counts.{absolute_line_few}
use Rattle.session_script.proofs.reader.Reader.read_absolute.Goals as goal

pub returns-in_default-clause-refused : goal.returns-in_default-clause-refused
returns-in_default-clause-refused c = absolute_line_few c.args.self.now c.args.operands.now c.in_default.len_below
