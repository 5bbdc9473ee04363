use Rattle.session_plain.proofs.MarkLemmas.{unready_marks}
use Rattle.session_plain.proofs.reach.unready.Goals as goal

pub returns : goal.returns
returns c = unready_marks c.args.rows.now c.in_ok-firsts.firsts.items c.in_ok-marks.marks.items c.in_ok-firsts.ensures (λ test t. c.in_ok-marks.ensures test (rw c.deref.ensures.value t))
