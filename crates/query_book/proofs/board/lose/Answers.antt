use Rattle.query_book.proofs.Drains.{losing_start, losing_more, losing_there}
use Rattle.query_book.proofs.board.lose.Goals as goal

pub loop-query-init : goal.loop-query-init
loop-query-init c = losing_start _ _ _

pub mark-requires : goal.mark-requires
mark-requires c = losing_there c.args.at c.in-Some.query 0 c.args.all.now.lists c.loop-query.all.lists _ c.args.marks.now c.loop-query.marks c.loop-query.invariant c.in-Some.ensures.first c.requires

pub loop-query-preserved : goal.loop-query-preserved
loop-query-preserved c =
    losing_more c.args.at c.in-Some.query c.args.all.now.lists c.loop-query.all.lists c.pop.new.self.lists c.args.marks.now c.loop-query.marks c.mark.new.self c.loop-query.invariant c.in-Some.ensures.first c.in-Some.ensures.others
    (record { size = c.mark.ensures.size; lefts = c.mark.ensures.lefts; founds = c.mark.ensures.founds; met = c.mark.ensures.met })
