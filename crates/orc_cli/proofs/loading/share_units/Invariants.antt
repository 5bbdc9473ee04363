use Rattle.std.proofs.Common.{map, take}
use Rattle.session_units.specs.Units.{meaning_of}
use Rattle.orc_cli.specs.Loading.{AreShared}
use Rattle.orc_cli.proofs.loading.share_units.Given as goal

abbrev pub invariant-loop-file : goal.invariant-loop-file
invariant-loop-file l = AreShared (map meaning_of l.units) (take l.file-index l.files) (map meaning_of l.shared.items)
