use Rattle.std.proofs.Common.{◌≡◌, ◌∙◌, true, false, sym, refl, arith}
use Rattle.std.proofs.lemmas.Option.{slice_get_within}
use Rattle.query_book.specs.declared.board.Board.{Board}
use Rattle.query_book.proofs.Hearing.{lost_one, both_same, heard_none}
use Rattle.query_book.proofs.board.Board.drop_lost.Goals as goal

pub returns-then-is_lost-clause-hearing : goal.returns-then-is_lost-clause-hearing
returns-then-is_lost-clause-hearing g c = λ qs w.
    let new : Board = record { resolved = c.args.self.now.resolved; ready = c.args.self.now.ready; all = c.lose.new.all; marks = c.lose.new.marks } in
    lost_one (g.T.Standing.stand c.args.standing.now) qs c.args.self.now new c.args.i.0 w (sym c.is_lost.ensures ∙ c.if-is_lost.true) c.lose.ensures.losing (both_same c.args.self.now new refl refl)

pub lose-requires : goal.lose-requires
lose-requires g c = λ k pos.
    let own = c.requires.1.own k c.args.i.0 pos in
    let less = slice_get_within c.requires.0 k own.0 own.1 in
    omega (arith, less, c.requires.1.size)

pub returns-then-is_lost-clause-gone : goal.returns-then-is_lost-clause-gone
returns-then-is_lost-clause-gone g c = λ is. c.lose.ensures.gone

pub returns-else-is_lost-clause-hearing : goal.returns-else-is_lost-clause-hearing
returns-else-is_lost-clause-hearing g c = λ qs w. (heard_none (g.T.Standing.stand c.args.standing.now) qs c.args.self.now w).hearing

pub returns-else-is_lost-clause-gone : goal.returns-else-is_lost-clause-gone
returns-else-is_lost-clause-gone g c = λ is. absurd (let e : false ≡ true = sym c.if-is_lost.false ∙ c.is_lost.ensures ∙ is in cc)
