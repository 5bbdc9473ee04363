use Rattle.std.proofs.Common.{◌≡◌, ◌≤◌, map, take}
use Rattle.orc_names.specs.Numbers.{KeepsNumbers}
use Rattle.session_units.specs.Units.{meaning_of}
use Rattle.object_files.specs.Reads.{AreReadIn, use_of}
use Rattle.object_files.proofs.SoFar.{AreSoFar}
use Rattle.object_files.proofs.load.load_files.Given as goal

abbrev pub invariant-loop-name : goal.invariant-loop-name
invariant-loop-name g l = record {
  taken : AreSoFar (g.F.Files.holds l.fn.files) (map (λ w. w.now) l.file_names) l.names (map meaning_of l.units.items) l.name-index l.total;
  older : KeepsNumbers l.fn.names l.names;
  counted : g.F.Files.faults l.fn.files ≤ g.F.Files.faults l.files;
  same : g.F.Files.holds l.files ≡ g.F.Files.holds l.fn.files;
  read : AreReadIn (take l.name-index (map (λ w. w.now) l.file_names)) (use_of (g.F.Files.reads l.fn.files) (g.F.Files.faults l.fn.files)) (use_of (g.F.Files.reads l.files) (g.F.Files.faults l.files));
}
