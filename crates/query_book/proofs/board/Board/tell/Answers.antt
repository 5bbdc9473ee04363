use Rattle.query_book.proofs.Hearing.{hearing_more, heard_all}
use Rattle.query_book.proofs.board.Board.tell.Goals as goal

pub returns-clause-heard : goal.returns-clause-heard
returns-clause-heard g c = λ qs w.
    let first = c.come.ensures.hearing qs w in
    let second = c.finish.ensures.hearing qs first.watches in
    heard_all (g.T.Standing.stand c.args.standing.now) qs c.args.i.0 c.come.new.self c.finish.new.self c.drop_lost.new.self second.hears (c.drop_lost.ensures.hearing qs second.watches).hears c.come.ensures.gone c.finish.ensures.gone c.drop_lost.ensures.gone

pub come-requires : goal.come-requires
come-requires g c = c.requires

pub finish-requires : goal.finish-requires
finish-requires g c = (c.requires.0, (c.come.ensures.hearing c.requires.0 c.requires.1).watches)

pub drop_lost-requires : goal.drop_lost-requires
drop_lost-requires g c = (c.requires.0, (c.finish.ensures.hearing c.requires.0 (c.come.ensures.hearing c.requires.0 c.requires.1).watches).watches)

pub returns-clause-hearing : goal.returns-clause-hearing
returns-clause-hearing g c = λ qs w.
    let first = c.come.ensures.hearing qs w in
    let second = c.finish.ensures.hearing qs first.watches in
    hearing_more (g.T.Standing.stand c.args.standing.now) qs c.args.self.now c.finish.new.self c.drop_lost.new.self (hearing_more (g.T.Standing.stand c.args.standing.now) qs c.args.self.now c.come.new.self c.finish.new.self first second) (c.drop_lost.ensures.hearing qs second.watches)
