use Rattle.std.proofs.Common.{◌<◌, ◌^◌, arith}
use Rattle.session_model.specs.State.{plain_entry, plain_history}
use Rattle.session_plain.specs.Meant.{meant}
use Rattle.session_check.proofs.HistoryLemmas.{counted, led_on}
use Rattle.session_check.proofs.replay.play.Goals as goal

pub is_right-requires-clause-small : goal.is_right-requires-clause-small
is_right-requires-clause-small g c = let means = g.U.UnitKind.meaning in let s = c.args.s.now in
    (c.fit_suits.ensures s c.requires.led.fit (counted means c.args.past.now (meant means s) c.args.ends.now.items c.requires.led c.requires.counted)).0

pub is_right-requires-clause-live : goal.is_right-requires-clause-live
is_right-requires-clause-live g c = let means = g.U.UnitKind.meaning in let s = c.args.s.now in
    (c.fit_suits.ensures s c.requires.led.fit (counted means c.args.past.now (meant means s) c.args.ends.now.items c.requires.led c.requires.counted)).1

pub enter-requires : goal.enter-requires
enter-requires g c = let means = g.U.UnitKind.meaning in let s = c.args.s.now in
    let few : s.entries < 2 ^ 32 = counted means c.args.past.now (meant means s) c.args.ends.now.items c.requires.led c.requires.counted in
    let f = c.fit_suits.ensures s c.requires.led.fit few in
    record { small = f.0; live = f.1; offers = f.2; numbered = omega (arith, few) }

pub returns-clause-led : goal.returns-clause-led
returns-clause-led g c = λ t. let means = g.U.UnitKind.meaning in
    let past = plain_history means c.args.past.now in
    let e = plain_entry means c.args.e.now in
    led_on c.args.jmax past e (meant means c.args.s.now) (meant means c.enter.new.s) c.args.ends.now.items c.update_ends.new.ends.items c.requires.led
    (c.in_ok-is_right.ensures.0 c.if-not-branch.false) c.in_ok-enter.ensures (c.in_ok-update_ends.ensures past e) c.fit_stays.ensures
