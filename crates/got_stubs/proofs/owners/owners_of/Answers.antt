use Rattle.std.proofs.Common.{sym, ◌∙◌, arith}
use Rattle.got_stubs.proofs.Steps.{offered_step, other_step, owners_whole}
use Rattle.got_stubs.proofs.owners.owners_of.Goals as goal
use Rattle.got_stubs.proofs.owners.owners_of.Goals.{then-offers+in_ok-push, else-offers+in_ok-push-2}

pub loop-s-preserved : goal.loop-s-preserved
loop-s-preserved c = elim c.if-offers.branch [
  | then-offers+in_ok-push w ↦
      (omega arith, rw (w.own-is, w.offer-is) (offered_step c.args.symbols.now c.args.live.now c.loop-s.s-index c.loop-s.offer _ c.loop-s.own.items w.push.new.self.items w.is_live.result c.loop-s-test.true (sym c.offers.ensures ∙ w.if-offers.true) w.is_live.ensures w.in_ok-push.ensures.items c.loop-s.invariant.1))
  | else-offers+in_ok-push-2 w ↦
      (omega arith, rw (w.own-is, w.offer-is) (other_step c.args.symbols.now c.args.live.now c.loop-s.s-index c.loop-s.offer _ c.loop-s.own.items w.push-else-offers.new.self.items w.defined.result c.loop-s-test.true (sym c.offers.ensures ∙ w.if-offers.false) w.defined.ensures w.in_ok-push-2.ensures.items c.loop-s.invariant.1))
]

pub returns-clause-whole : goal.returns-clause-whole
returns-clause-whole c = owners_whole c.args.symbols.now c.args.live.now _ c.loop-s.own.items c.loop-s.s-index c.loop-s.invariant.1 c.loop-s-test.false
