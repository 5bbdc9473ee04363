use Rattle.std.proofs.Common.{refl, subst}
use Rattle.object_files.specs.Files.{Wanting}
use Rattle.object_files.specs.declared.error.LoadError.TheVariants.{NoMemory}
use Rattle.object_files.specs.Reads.{AreReadUntil, use_of}
use Rattle.object_files.proofs.Readings.{none_read}
use Rattle.answers.proofs.Reading.{read_until}
use Rattle.session_command.proofs.loading.load_units.Goals as goal

pub returns-in_default-clause-stopped : goal.returns-in_default-clause-stopped
returns-in_default-clause-stopped g c = (NoMemory, Wanting, refl)

pub returns-in_default-clause-read_for : goal.returns-in_default-clause-read_for
returns-in_default-clause-read_for g c = (0, none_read _)

pub returns-clause-read_for : goal.returns-clause-read_for
returns-clause-read_for g c =
    let old = use_of (g.F.Files.reads c.args.files.now) (g.F.Files.faults c.args.files.now) in
    let new = use_of (g.F.Files.reads c.load_files.new.files) (g.F.Files.faults c.load_files.new.files) in
    read_until c.args.table.now old new _ c.in-Err.why c.file_answer.ensures
    (subst (λ files. AreReadUntil files old new c.in-Err.why) c.in-Ok.ensures (rw (c.as_slice.ensures.value) at c.in-Err.ensures.read_until))
