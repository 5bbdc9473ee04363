use Rattle.std.proofs.Common.{◌+◌, None, take, add-one, ap, arith, ◌∙◌}
use Rattle.query_book.proofs.Parts.{take_more, has_more_lists}
use Rattle.query_book.proofs.lists.Lists.room.Goals as goal

pub loop-found-preserved : goal.loop-found-preserved
loop-found-preserved c = record {
  there = has_more_lists c.loop-found.self.lists c.make.new.self.lists (take c.loop-found.found-index c.args.matched.now) (take (c.loop-found.found-index + 1) c.args.matched.now) _ c.make.ensures.more c.loop-found.invariant.there c.in_ok-make.ensures.there
      (ap (λ n. take n c.args.matched.now) (add-one c.loop-found.found-index) ∙ take_more c.args.matched.now c.loop-found.found-index None c.loop-found-test.true);
  room = omega (arith, c.loop-found.invariant.room, c.make.ensures.spare);
  lists = λ i. c.make.ensures.lists i ∙ c.loop-found.invariant.lists i;
  totals = λ k. c.make.ensures.totals k ∙ c.loop-found.invariant.totals k;
}
