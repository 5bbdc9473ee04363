use Rattle.std.proofs.Common.{rules}
use Rattle.object_files.specs.Reads.{use_of}
use Rattle.as_command.proofs.Stopped.{first_faulted, first_in_vain}
use Rattle.as_command.proofs.assembly.read_text.Goals as goal

pub returns-in-Err-Failed-clause-asked_for : goal.returns-in-Err-Failed-clause-asked_for
returns-in-Err-Failed-clause-asked_for g c =
    first_faulted c.args.file.now (use_of (g.F.Files.reads c.args.files.now) (g.F.Files.faults c.args.files.now))
    (use_of (g.F.Files.reads c.read_file.new.self) (g.F.Files.faults c.read_file.new.self)) (search rules)

pub returns-in-Err-NoMemory-clause-asked_for : goal.returns-in-Err-NoMemory-clause-asked_for
returns-in-Err-NoMemory-clause-asked_for g c =
    first_in_vain c.args.file.now (use_of (g.F.Files.reads c.args.files.now) (g.F.Files.faults c.args.files.now))
    (use_of (g.F.Files.reads c.read_file.new.self) (g.F.Files.faults c.read_file.new.self)) (search rules)
