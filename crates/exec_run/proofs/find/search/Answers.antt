-- The range in the middle has the address, ends before it or begins after it.
use Rattle.std.proofs.Common.{◌≤◌, ◌+◌, ◌-◌, ◌/◌, ◌<◌, subst, sym, length, arith}
use Rattle.list_laws.proofs.Lists.{some_below}
use Rattle.exec_run.proofs.Regions.{IsSearched, search_starts, search_up, search_down, search_ends, segments_rise, base_of, end_of, not_less}
use Rattle.exec_run.proofs.find.search.Goals as goal

pub loop-low-init : goal.loop-low-init
loop-low-init c = record {
  within = omega (arith, c.count-high.ensures.count);
  searched = subst (λ n. IsSearched c.args.ranges.now c.args.at 0 n) (sym c.count-high.ensures.count) (search_starts c.args.ranges.now c.args.at);
}

pub loop-low-preserved-then-base-at : goal.loop-low-preserved-then-base-at
loop-low-preserved-then-base-at c =
    let ss = c.args.ranges.now in
    let middle = c.loop-low.low + (c.loop-low.high - c.loop-low.low) / 2 in
    let less : middle < length ss = omega (arith, c.loop-low.invariant.within) in
    let m = some_below ss middle less in
    let base = base_of _ m.0 c.base.result m.1 c.base.ensures in
    let from : m.0.base ≤ c.args.at = omega (arith, base, c.if-base-at.true) in
    let ends : end_of m.0 ≤ c.args.at =
    not_less c.args.at (end_of m.0) (λ high. let yes = c.has.ensures.1 (record { segment = m.0; there = m.1; low = from; high = high }) in let no = c.if-has.false in cc) in
    record {
      within = c.loop-low.invariant.within;
      searched = search_up ss c.args.at c.loop-low.low c.loop-low.high middle m.0 (segments_rise ss c.count-high.ensures.apart) c.loop-low.invariant.searched m.1 ends;
    }

pub loop-low-preserved : goal.loop-low-preserved
loop-low-preserved c =
    let ss = c.args.ranges.now in
    let middle = c.loop-low.low + (c.loop-low.high - c.loop-low.low) / 2 in
    let less : middle < length ss = omega (arith, c.loop-low.invariant.within) in
    let m = some_below ss middle less in
    let base = base_of _ m.0 c.base.result m.1 c.base.ensures in
    record {
      within = omega (arith, c.loop-low.invariant.within);
      searched = search_down ss c.args.at c.loop-low.low c.loop-low.high middle m.0 (segments_rise ss c.count-high.ensures.apart) c.loop-low.invariant.searched m.1 (omega (arith, base, c.if-base-at.false));
    }

pub returns-clause-missing : goal.returns-clause-missing
returns-clause-missing c =
    search_ends c.args.ranges.now c.args.at c.loop-low.low c.loop-low.high c.loop-low.invariant.searched (omega arith)
