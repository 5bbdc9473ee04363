use Rattle.std.proofs.Common.{rules, map, subst}
use Rattle.std.specs.Prelude.{codes}
use Rattle.orc_names.specs.Numbers.{IsTable}
use Rattle.session_units.specs.Units.{meaning_of}
use Rattle.command_line.specs.Words.{request}
use Rattle.object_files.specs.Files.{Wanting}
use Rattle.object_files.proofs.SoFar.{memory_stops}
use Rattle.object_files.proofs.Readings.{memory_stops_reading, none_read}
use Rattle.orc_cli.proofs.LoadedFiles.{below_units, is_loaded}
use Rattle.orc_cli.proofs.Readings.{memory_after_all, read_as}
use Rattle.orc_cli.proofs.LoadedRuns.{later_number}
use Rattle.orc_cli.proofs.loading.load.Goals as goal

pub returns-in_err-file_names-clause-stopped : goal.returns-in_err-file_names-clause-stopped
returns-in_err-file_names-clause-stopped g c = memory_stops _ _ _ _ c.from_residual.result (search rules)

pub returns-in_default-clause-stopped : goal.returns-in_default-clause-stopped
returns-in_default-clause-stopped g c = Wanting

pub returns-in_err-file_names-clause-read_until : goal.returns-in_err-file_names-clause-read_until
returns-in_err-file_names-clause-read_until g c = memory_stops_reading _ 0 _ _ c.from_residual.result (none_read _) (search rules)

pub returns-in_default-clause-read_until : goal.returns-in_default-clause-read_until
returns-in_default-clause-read_until g c = (0, none_read _)

pub share_units-requires : goal.share_units-requires
share_units-requires g c =
    let loaded = rw (c.as_slice-2.ensures.value) at c.in_ok-units.ensures.loaded in
    let numbered = rw (c.as_slice.ensures.value) at c.in_ok-file_names.ensures.numbered in
    rw (c.as_slice-3.ensures.value, c.as_slice-4.ensures.value) (below_units _ _ _ _ c.in_ok-units.units.items c.in_ok-file_names.field-0.numbers.items loaded numbered)

pub returns-in_err-units-2-clause-stopped : goal.returns-in_err-units-2-clause-stopped
returns-in_err-units-2-clause-stopped g c = memory_stops _ _ _ _ c.from_residual-in_err-units-2.result (search rules)

pub returns-in_err-units-2-clause-read_until : goal.returns-in_err-units-2-clause-read_until
returns-in_err-units-2-clause-read_until g c =
    let read = rw (c.as_slice-2.ensures.value) at c.in_ok-units.ensures.read in
    let files = rw (c.as_slice.ensures.value) at c.in_ok-file_names.ensures.files in
    memory_after_all _ _ _ c.from_residual-in_err-units-2.result (read_as _ _ _ _ files read) (search rules)

pub returns-clause-read : goal.returns-clause-read
returns-clause-read g c =
    let read = rw (c.as_slice-2.ensures.value) at c.in_ok-units.ensures.read in
    let files = rw (c.as_slice.ensures.value) at c.in_ok-file_names.ensures.files in
    read_as _ _ _ _ files read

pub returns-clause-loaded : goal.returns-clause-loaded
returns-clause-loaded g c =
    let loaded = rw (c.as_slice-2.ensures.value) at c.in_ok-units.ensures.loaded in
    let files = rw (c.as_slice.ensures.value) at c.in_ok-file_names.ensures.files in
    let numbered = rw (c.as_slice.ensures.value) at c.in_ok-file_names.ensures.numbered in
    let shared = rw (c.as_slice-3.ensures.value, c.as_slice-4.ensures.value) at c.in_ok-units-2.ensures in
    let table = subst IsTable c.names-2.view_is c.names-2.invariant in
    is_loaded _ (request c.args.words.now) _ _ (map meaning_of c.in_ok-units.units.items) files loaded numbered shared
    (later_number _ c.load_files.new.names (codes "main") c.in-Ok.main.0 c.in_ok-units.ensures.older table c.in-Ok.ensures.main)
    (later_number _ c.load_files.new.names c.args.words.now.entry.now c.in-Ok.entry.0 c.in_ok-units.ensures.older table c.in-Ok.ensures.entry)
