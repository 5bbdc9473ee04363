use Rattle.std.proofs.lemmas.Bool.{both_ways}
use Rattle.session_model.specs.State.{plain_history}
use Rattle.session_plain.specs.Meant.{meant}
use Rattle.session_check.proofs.CallLemmas.{both_tests}
use Rattle.session_check.proofs.CollectLemmas.{collected_closed, collected_open}
use Rattle.session_check.proofs.answers.collect_is_right.Goals as goal

pub returns-then-is_open : goal.returns-then-is_open
returns-then-is_open g c = let means = g.U.UnitKind.meaning in let past = plain_history means c.args.past.now in
    collected_open past (meant means c.args.s.now) c.args.q.0 c.in_ok-known.known c.args.reply.now c.requires.leads
    (c.in_ok-known.ensures.right past c.requires.known) (c.is_open.ensures.0 c.if-is_open.true)

pub returns : goal.returns
returns g c = let means = g.U.UnitKind.meaning in let past = plain_history means c.args.past.now in
    both_tests c.same_reply.ensures (collected_closed past (meant means c.args.s.now) c.args.q.0 c.in_ok-known.known c.args.reply.now c.requires.leads
    (c.in_ok-known.ensures.right past c.requires.known) (λ e. both_ways c.is_open.result c.if-is_open.false (c.is_open.ensures.1 e)))
