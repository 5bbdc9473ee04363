use Rattle.std.proofs.Common.{◌≡◌, slice_get, ap, sym, ◌∙◌, Some, true}
use Rattle.std.proofs.lemmas.Option.{slice_get-get_or}
use Rattle.session_model.specs.State.{plain_history}
use Rattle.session_plain.specs.Meant.{meant}
use Rattle.session_check.specs.Wrong.{GoesWrongAt}
use Rattle.session_check.proofs.HistoryLemmas.{goes_on, led_more, legal_first, stops_here, whole_legal, wrong_first, wrong_unlegal}
use Rattle.session_check.proofs.legal.first_wrong.Goals as goal

pub returns-then-not-branch-clause-legal : goal.returns-then-not-branch-clause-legal
returns-then-not-branch-clause-legal g c = let means = g.U.UnitKind.meaning in
    let h = c.args.history.now in
    let k = c.loop-k.k in
    let e = c.index-history-k.result in
    let there : slice_get h k ≡ Some e = slice_get-get_or h k e c.loop-k-test.true ∙ ap Some (sym c.index-history-k.is) in
    let wrong : GoesWrongAt c.args.jmax (plain_history means h) k = stops_here means c.args.jmax h k e (meant means c.loop-k.s) c.loop-k.ends.items c.in_ok-play.field-0 there c.loop-k.invariant.led c.loop-k.invariant.legal c.in_ok-play.ensures.right c.if-not-branch.true in
    wrong_unlegal c.args.jmax (plain_history means h) k wrong

pub returns-then-not-branch-clause-first : goal.returns-then-not-branch-clause-first
returns-then-not-branch-clause-first g c = let means = g.U.UnitKind.meaning in
    let h = c.args.history.now in
    let k = c.loop-k.k in
    let e = c.index-history-k.result in
    let there : slice_get h k ≡ Some e = slice_get-get_or h k e c.loop-k-test.true ∙ ap Some (sym c.index-history-k.is) in
    let wrong : GoesWrongAt c.args.jmax (plain_history means h) k = stops_here means c.args.jmax h k e (meant means c.loop-k.s) c.loop-k.ends.items c.in_ok-play.field-0 there c.loop-k.invariant.led c.loop-k.invariant.legal c.in_ok-play.ensures.right c.if-not-branch.true in
    wrong_first c.args.jmax (plain_history means h) k wrong

pub loop-k-preserved : goal.loop-k-preserved
loop-k-preserved g c = let means = g.U.UnitKind.meaning in
    let h = c.args.history.now in
    let k = c.loop-k.k in
    let e = c.index-history-k.result in
    let right : c.in_ok-play.field-0 ≡ true = c.if-not-branch.false in
    let there : slice_get h k ≡ Some e = slice_get-get_or h k e c.loop-k-test.true ∙ ap Some (sym c.index-history-k.is) in
    record {
      led = led_more means h k e (meant means c.play.new.s) c.play.new.ends.items there (c.in_ok-play.ensures.led right);
      legal = goes_on means c.args.jmax h k e (meant means c.loop-k.s) c.loop-k.ends.items c.in_ok-play.field-0 there c.loop-k.invariant.led c.loop-k.invariant.legal c.in_ok-play.ensures.right right;
    }

pub returns-clause-first : goal.returns-clause-first
returns-clause-first g c = let means = g.U.UnitKind.meaning in
    legal_first c.args.jmax (plain_history means c.args.history.now) (whole_legal means c.args.jmax c.args.history.now c.loop-k.k c.loop-k-test.false c.loop-k.invariant.legal)
