use Rattle.std.proofs.Common.{◌∙◌, sym, refl}
use Rattle.orc_ids.specs.declared.lookup.Level.TheVariants.{Resolved}
use Rattle.query_book.specs.declared.board.Board.{Board}
use Rattle.query_book.proofs.Hearing.{arrived, enough_left, only_resolved}
use Rattle.query_book.proofs.board.Board.come.Goals as goal

pub arrive-requires : goal.arrive-requires
arrive-requires g c = λ k. enough_left c.requires.0 c.args.self.now Resolved c.args.i.0 k c.requires.1

pub returns-then-at_level-clause-hearing : goal.returns-then-at_level-clause-hearing
returns-then-at_level-clause-hearing g c = λ qs w.
    let new : Board = record { resolved = c.arrive.new.lists; ready = c.args.self.now.ready; all = c.args.self.now.all; marks = c.arrive.new.marks } in
    arrived (g.T.Standing.stand c.args.standing.now) qs c.args.self.now new Resolved c.args.i.0 w (sym c.at_level.ensures ∙ c.if-at_level.true) c.arrive.ensures.arriving refl (only_resolved c.args.self.now new refl)
