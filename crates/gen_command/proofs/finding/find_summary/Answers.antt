use Rattle.std.proofs.Common.{◌+◌, ◌*◌, ◌<◌, refl, arith}
use Rattle.execution_session.specs.declared.session.TheConstants.{JOURNAL_LIMIT}
use Rattle.gen_command.specs.Found.{in_summary, wanting}
use Rattle.gen_command.proofs.finding.find_summary.Goals as goal

pub returns-in-Ok : goal.returns-in-Ok
returns-in-Ok g c = in_summary c.in-Ok.ensures.whole refl

pub returns-in-Err : goal.returns-in-Err
returns-in-Err g c =
    let room : 21 * c.args.objects + 9 < JOURNAL_LIMIT = omega (arith, c.requires) in
    wanting (c.stop_answer.ensures (c.in-Err.ensures.never_full room)) c.new.ensures
