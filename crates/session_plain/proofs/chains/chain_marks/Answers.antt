use Rattle.session_plain.specs.Meant.{meant}
use Rattle.session_plain.proofs.ChainLemmas.{chain_marked}
use Rattle.session_plain.proofs.chains.chain_marks.Goals as goal

pub returns : goal.returns
returns g c = chain_marked (meant g.U.UnitKind.meaning c.args.s.now) c.args.u.0 c.in_ok-edges.edges.items c.in_ok-firsts.firsts.items c.in_ok-marks.marks.items c.in_ok-edges.ensures (rw c.deref.ensures.value at c.in_ok-firsts.ensures)
    (λ f a. rw c.deref-2.ensures.value at (c.in_ok-marks.ensures f (rw c.deref-2.ensures.value (rw c.deref-3.ensures.value a))))
