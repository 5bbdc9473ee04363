use Rattle.std.proofs.Common.{length, ◌∙◌, ap, arith}
use Rattle.session_plain.specs.Marks.{edges_at, next_marks}
use Rattle.session_plain.proofs.MarkLemmas.{tests_within, next_within, within_all}
use Rattle.session_plain.proofs.reach.reaching.Goals as goal

pub loop-round-init : goal.loop-round-init
loop-round-init c = λ test t. tests_within (length c.args.edges.now) (edges_at c.args.edges.now) test c.args.firsts.now _ c.args.other c.in_ok-marks.ensures t

pub loop-round-preserved : goal.loop-round-preserved
loop-round-preserved c = λ test t. next_within c.loop-round.round c.args.edges.now test c.args.firsts.now _ _ c.args.other
    (c.in_ok-marks-2.ensures ∙ ap (λ bs. next_marks bs c.args.other c.args.edges.now c.args.firsts.now) c.deref.ensures.value) t (c.loop-round.invariant test t)

pub returns : goal.returns
returns c = λ test t. within_all _ _ _ _ test _ _ (omega arith) (c.loop-round.invariant test t)
