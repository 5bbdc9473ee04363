use Rattle.session_script.proofs.Counts.{file_line_few, file_line_many}
use Rattle.session_script.proofs.reader.Reader.read_file.Goals as goal

pub returns-in_default-clause-refused : goal.returns-in_default-clause-refused
returns-in_default-clause-refused c = file_line_few c.args.self.now c.args.operands.now c.in_default.len_below

pub returns-in_default-2-clause-refused : goal.returns-in_default-2-clause-refused
returns-in_default-2-clause-refused c = file_line_many c.args.self.now c.args.operands.now c.in_default.len_at_least
