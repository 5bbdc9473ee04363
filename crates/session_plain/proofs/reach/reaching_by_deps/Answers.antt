use Rattle.session_plain.proofs.MarkLemmas.{within_rows}
use Rattle.session_plain.proofs.reach.reaching_by_deps.Goals as goal

pub returns : goal.returns
returns c = λ test t. within_rows c.args.rows.now c.in_ok-edges.edges.items test c.args.firsts.now c.in_ok-marks.marks.items c.args.other c.in_ok-edges.ensures
    (λ f a. rw c.deref.ensures.value at (c.in_ok-marks.ensures f (rw c.deref.ensures.value a))) t
