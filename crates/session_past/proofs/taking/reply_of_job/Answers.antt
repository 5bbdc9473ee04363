use Rattle.session_plain.specs.Meant.{meant}
use Rattle.session_past.proofs.TakeLemmas.{take_answered}
use Rattle.session_past.proofs.taking.reply_of_job.Goals as goal

pub returns : goal.returns
returns g c = λ past is a. take_answered past (meant g.U.UnitKind.meaning c.args.s.now) c.args.ends.now c.in_ok-found.found c.in_ok-found.ensures is a
