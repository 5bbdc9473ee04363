use Rattle.std.proofs.Common.{◌≡◌}
use Rattle.std.specs.Prelude.{Ok}
use Rattle.session_script.specs.Scripts.{script_of, lines_from}
use Rattle.session_script.specs.Words.{lines_of}
use Rattle.session_script.specs.Known.{nothing_known}
use Rattle.session_script.proofs.LastClient.{ended_well}
use Rattle.session_script.proofs.WellFormedScripts.{well_formed}
use Rattle.session_script.proofs.read.read_script.Goals as goal

pub returns-clause-read : goal.returns-clause-read
returns-clause-read c =
    ended_well (lines_from (nothing_known c.args.notes) 0 0 (lines_of c.args.bytes.now)) _ c.into_script.result
    (rw c.new-reader.ensures at c.in_ok-read_all.ensures.read) c.into_script.ensures

pub returns-clause-well_formed : goal.returns-clause-well_formed
returns-clause-well_formed c =
    let read : script_of c.args.notes c.args.bytes.now ≡ Ok c.into_script.result = returns-clause-read c in
    well_formed c.args.notes c.args.bytes.now c.into_script.result read
