use Rattle.command_line.specs.Words.{texts}
use Rattle.command_line.proofs.Within.{generation_answer_within, run_answer_within}
use Rattle.command_line.proofs.command.read_named.Goals as goal

pub returns-in-Some-Run-clause-limits : goal.returns-in-Some-Run-clause-limits
returns-in-Some-Run-clause-limits c = run_answer_within (texts c.args.words.now) c.read_run.result c.read_run.ensures.read

pub returns-in-Some-Gen-clause-limits : goal.returns-in-Some-Gen-clause-limits
returns-in-Some-Gen-clause-limits c = generation_answer_within (texts c.args.words.now) c.read_generation.result c.read_generation.ensures.read
