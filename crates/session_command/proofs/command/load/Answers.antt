use Rattle.session_command.specs.Loading.{unasked}
use Rattle.session_command.proofs.Stopped.{source_of_script, stopped_in_files}
use Rattle.object_files.proofs.Readings.{none_read}
use Rattle.session_command.proofs.ReadingLemmas.{read_of_script, read_whole, unasked_read}
use Rattle.session_command.proofs.command.load.Goals as goal

pub returns-in-Ok-clause-stopped : goal.returns-in-Ok-clause-stopped
returns-in-Ok-clause-stopped g c = stopped_in_files (g.S.Source.left c.args.source.now) c.args.notes (g.S.Source.faults c.args.source.now) (g.S.Source.faults c.read_asked.new.source) (g.F.Files.holds c.args.files.now) (g.F.Files.faults c.args.files.now) (g.F.Files.faults c.load_script.new.files) c.in-Ok.script c.load_script.result
    c.in-Ok.ensures.asked c.load_script.ensures.stopped

pub returns-in-Err-clause-stopped : goal.returns-in-Err-clause-stopped
returns-in-Err-clause-stopped g c = unasked c.in-Err.ensures.unasked

pub returns-in-Ok-clause-read : goal.returns-in-Ok-clause-read
returns-in-Ok-clause-read g c = read_whole (g.S.Source.left c.args.source.now) c.args.notes _ _ c.in-Ok.script c.load_script.result c.in-Ok.ensures.asked c.load_script.ensures.read

pub returns-in-Ok-clause-read_for : goal.returns-in-Ok-clause-read_for
returns-in-Ok-clause-read_for g c = read_of_script (g.S.Source.left c.args.source.now) c.args.notes _ _ c.in-Ok.script c.load_script.result c.in-Ok.ensures.asked c.load_script.ensures.read_for

pub returns-in-Err-clause-read_for : goal.returns-in-Err-clause-read_for
returns-in-Err-clause-read_for g c = unasked_read (g.S.Source.left c.args.source.now) c.args.notes _ _ _ _ c.in-Err.answer c.in-Err.ensures.unasked (none_read _)

pub returns-in-Ok-clause-source_read : goal.returns-in-Ok-clause-source_read
returns-in-Ok-clause-source_read g c = source_of_script (g.S.Source.faults c.args.source.now) (g.S.Source.faults c.read_asked.new.source) (g.F.Files.holds c.args.files.now) (g.F.Files.faults c.args.files.now) (g.F.Files.faults c.load_script.new.files) c.in-Ok.script c.load_script.result
    c.in-Ok.ensures.quiet c.load_script.ensures.stopped
