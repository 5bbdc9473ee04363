use Rattle.std.proofs.Common.{◌<◌, ◌≤◌, false, length, refl, sym, ◌∙◌, arith}
use Rattle.std.proofs.lemmas.List.{get_or_default}
use Rattle.block_groups.proofs.Searches.{read_handed, found_within, hands_past, hands_next, hands_clear, hands_all}
use Rattle.block_groups.proofs.backwards.hand_out.Goals.{then-index+in_ok-push, else-index}
use Rattle.block_groups.proofs.backwards.hand_out.Goals as goal

pub index-requires-in-loop-k : goal.index-requires-in-loop-k
index-requires-in-loop-k c =
    let old = c.args.search.now in
    let lt : c.loop-k.k < length old.found.items = omega (arith, c.loop-k-test.true, c.len-k-end.ensures, old.found.ok.0) in
    let at = read_handed old c.loop-k.search c.args.instance c.args.lists.now c.loop-k.lists c.loop-k.k c.index.result.now c.loop-k.invariant lt c.index.ensures in
    omega (arith, found_within old c.loop-k.k c.index.result.now c.requires.noted lt at, c.loop-k.invariant.whole, c.loop-k.search.seen.ok.0)

pub index_mut-requires : goal.index_mut-requires
index_mut-requires c =
    let old = c.args.search.now in
    let lt : c.loop-k.k < length old.found.items = omega (arith, c.loop-k-test.true, c.len-k-end.ensures, old.found.ok.0) in
    let at = read_handed old c.loop-k.search c.args.instance c.args.lists.now c.loop-k.lists c.loop-k.k c.index.result.now c.loop-k.invariant lt c.index.ensures in
    omega (arith, found_within old c.loop-k.k c.index.result.now c.requires.noted lt at, c.loop-k.invariant.whole, c.loop-k.search.seen.ok.0)

pub push-requires : goal.push-requires
push-requires c =
    let old = c.args.search.now in
    let lt : c.loop-k.k < length old.found.items = omega (arith, c.loop-k-test.true, c.len-k-end.ensures, old.found.ok.0) in
    let at = read_handed old c.loop-k.search c.args.instance c.args.lists.now c.loop-k.lists c.loop-k.k c.index.result.now c.loop-k.invariant lt c.index.ensures in
    omega (arith, found_within old c.loop-k.k c.index.result.now c.requires.noted lt at, c.requires.whole, c.loop-k.invariant.lists_whole)

pub loop-k-preserved : goal.loop-k-preserved
loop-k-preserved c = elim c.if-index.branch [
  | then-index+in_ok-push w ↦
      (let old = c.args.search.now in
      let lt : c.loop-k.k < length old.found.items = omega (arith, c.loop-k-test.true, c.len-k-end.ensures, old.found.ok.0) in
      let at = read_handed old c.loop-k.search c.args.instance c.args.lists.now c.loop-k.lists c.loop-k.k c.index.result.now c.loop-k.invariant lt c.index.ensures in
      let within : c.index.result.now < length c.loop-k.search.seen.items = omega (arith, found_within old c.loop-k.k c.index.result.now c.requires.noted lt at, c.loop-k.invariant.whole) in
      let here = get_or_default c.loop-k.search.seen.items c.index.result.now false c.index-in-loop-k.result.now within ∙ sym c.index-in-loop-k.ensures ∙ w.if-index.true in
      rw (w.search-is, w.lists-is)
      (hands_next old c.loop-k.search _ c.args.instance c.args.lists.now c.loop-k.lists w.push.new.self c.loop-k.k c.index.result.now within at here refl refl w.in_ok-push.ensures c.loop-k.invariant))
  | else-index w ↦
      (let old = c.args.search.now in
      let lt : c.loop-k.k < length old.found.items = omega (arith, c.loop-k-test.true, c.len-k-end.ensures, old.found.ok.0) in
      let at = read_handed old c.loop-k.search c.args.instance c.args.lists.now c.loop-k.lists c.loop-k.k c.index.result.now c.loop-k.invariant lt c.index.ensures in
      let within : c.index.result.now < length c.loop-k.search.seen.items = omega (arith, found_within old c.loop-k.k c.index.result.now c.requires.noted lt at, c.loop-k.invariant.whole) in
      let none = get_or_default c.loop-k.search.seen.items c.index.result.now false c.index-in-loop-k.result.now within ∙ sym c.index-in-loop-k.ensures ∙ w.if-index.false in
      rw (w.search-is, w.lists-is)
      (hands_past old c.loop-k.search c.args.instance c.args.lists.now c.loop-k.lists c.loop-k.k c.index.result.now at none c.loop-k.invariant))
]

pub returns-clause-clear : goal.returns-clause-clear
returns-clause-clear c =
    let all : length c.args.search.now.found.items ≤ c.loop-k.k = omega (arith, c.loop-k-test.false, c.len-k-end.ensures, c.args.search.now.found.ok.0) in
    record {
      none = λ b. hands_clear c.args.search.now c.loop-k.search c.args.instance c.args.lists.now c.loop-k.lists c.loop-k.k b c.requires.noted all c.loop-k.invariant;
      found = c.clear.ensures.items;
    }

pub returns-clause-handed : goal.returns-clause-handed
returns-clause-handed c =
    let all : length c.args.search.now.found.items ≤ c.loop-k.k = omega (arith, c.loop-k-test.false, c.len-k-end.ensures, c.args.search.now.found.ok.0) in
    hands_all c.args.search.now c.loop-k.search c.args.instance c.args.lists.now c.loop-k.lists c.loop-k.k c.requires.noted all c.loop-k.invariant
