use Rattle.std.proofs.Common.{ℕ, List, ◌<◌, ◌≤◌, length, subst, arith}
use Rattle.std.specs.Prelude.{Contains}
use Rattle.block_groups.specs.Backwards.{IsMore}
use Rattle.block_groups.proofs.Searches.{read_found, found_within, spreads_next, spreads_all}
use Rattle.block_groups.proofs.backwards.spread.Goals as goal

pub row-requires : goal.row-requires
row-requires c =
    let lt : c.loop-done.done < length c.loop-done.search.found.items = omega (arith, c.loop-done-test.true, c.len.ensures, c.loop-done.search.found.ok.0) in
    omega (arith, found_within c.loop-done.search c.loop-done.done c.index.result.now c.loop-done.invariant.noted lt (read_found c.loop-done.search c.loop-done.done c.index.result.now lt c.index.ensures), c.requires.whole, c.loop-done.invariant.whole)

pub come_to_all-requires-clause-within : goal.come_to_all-requires-clause-within
come_to_all-requires-clause-within c = λ b has.
    omega (arith, c.requires.within c.index.result.now b (subst (λ (bs : List ℕ). Contains bs b) c.row.ensures has), c.loop-done.invariant.whole)

pub loop-done-preserved : goal.loop-done-preserved
loop-done-preserved c =
    let lt : c.loop-done.done < length c.loop-done.search.found.items = omega (arith, c.loop-done-test.true, c.len.ensures, c.loop-done.search.found.ok.0) in
    spreads_next c.args.lists.now c.args.search.now c.loop-done.search c.come_to_all.new.search c.loop-done.done c.index.result.now lt
    (read_found c.loop-done.search c.loop-done.done c.index.result.now lt c.index.ensures) c.in_ok-come_to_all.ensures.noted
    (subst (λ (bs : List ℕ). IsMore c.loop-done.search bs c.come_to_all.new.search) c.row.ensures c.in_ok-come_to_all.ensures.more) c.loop-done.invariant

pub returns-clause-spread : goal.returns-clause-spread
returns-clause-spread c =
    let all : length c.loop-done.search.found.items ≤ c.loop-done.done = omega (arith, c.loop-done-test.false, c.len.ensures, c.loop-done.search.found.ok.0) in
    spreads_all c.args.lists.now c.args.search.now c.loop-done.search c.loop-done.done all c.loop-done.invariant
