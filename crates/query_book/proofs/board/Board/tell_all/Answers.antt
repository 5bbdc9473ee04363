use Rattle.std.proofs.Common.{◌+◌, ◌∙◌, take, ap, add-one}
use Rattle.query_book.proofs.Parts.{take_more}
use Rattle.query_book.proofs.Hearing.{heard_none, heard_more}
use Rattle.query_book.proofs.board.Board.tell_all.Goals as goal

pub loop-i-init : goal.loop-i-init
loop-i-init g c = λ qs w. heard_none (g.T.Standing.stand c.args.standing.now) qs c.args.self.now w

pub tell-requires : goal.tell-requires
tell-requires g c = (c.requires.0, (c.loop-i.invariant c.requires.0 c.requires.1).hearing.watches)

pub loop-i-preserved : goal.loop-i-preserved
loop-i-preserved g c = λ qs w.
    let h = c.loop-i.invariant qs w in
    heard_more (g.T.Standing.stand c.args.standing.now) qs (take c.loop-i.i-index c.args.changed.now) (take (c.loop-i.i-index + 1) c.args.changed.now) _ c.args.self.now c.loop-i.self c.tell.new.self h
    (c.tell.ensures.hearing qs h.hearing.watches) (c.tell.ensures.heard qs h.hearing.watches)
    (ap (λ n. take n c.args.changed.now) (add-one c.loop-i.i-index) ∙ take_more c.args.changed.now c.loop-i.i-index _ c.loop-i-test.true)
