use Rattle.query_book.proofs.Drains.{arriving_start, arriving_more, arriving_some}
use Rattle.query_book.proofs.board.arrive.Goals as goal

pub loop-query-init : goal.loop-query-init
loop-query-init c = arriving_start _ _ _

pub one_less-requires : goal.one_less-requires
one_less-requires c = arriving_some c.args.at c.in-Some.query c.args.lists.now.lists c.loop-query.lists.lists _ c.args.marks.now c.loop-query.marks c.loop-query.invariant c.in-Some.ensures.first (c.requires c.in-Some.query)

pub loop-query-preserved : goal.loop-query-preserved
loop-query-preserved c =
    arriving_more c.args.at c.in-Some.query c.args.lists.now.lists c.loop-query.lists.lists c.pop.new.self.lists c.args.marks.now c.loop-query.marks c.one_less.new.self c.loop-query.invariant c.in-Some.ensures.first c.in-Some.ensures.others
    (record {
      some = arriving_some c.args.at c.in-Some.query c.args.lists.now.lists c.loop-query.lists.lists _ c.args.marks.now c.loop-query.marks c.loop-query.invariant c.in-Some.ensures.first (c.requires c.in-Some.query);
      size = c.one_less.ensures.size;
      lefts = c.one_less.ensures.lefts;
      founds = c.one_less.ensures.founds;
      met = c.one_less.ensures.met;
    })
