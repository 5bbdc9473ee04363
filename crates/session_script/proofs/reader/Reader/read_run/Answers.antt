use Rattle.session_script.proofs.Counts.{run_line_few}
use Rattle.session_script.proofs.reader.Reader.read_run.Goals as goal

pub returns-in_default-clause-refused : goal.returns-in_default-clause-refused
returns-in_default-clause-refused c = run_line_few c.args.self.now c.args.operands.now c.in_default.len_below
