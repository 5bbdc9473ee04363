use Rattle.std.proofs.Common.{◌∙◌, ap, sym, length}
use Rattle.std.specs.Prelude.{◌||◌, is_some}
use Rattle.query_book.specs.Stands.{first_lost, missing}
use Rattle.query_book.proofs.Listing.{none_missing, zero_test, other_test}
use Rattle.query_book.proofs.board.is_met.Goals as goal

pub returns-then-left-eq0 : goal.returns-then-left-eq0
returns-then-left-eq0 g c =
    sym (ap (λ a. a || is_some (first_lost (g.T.Standing.stand c.args.standing.now) c.args.q.now.matched)) (sym (none_missing (g.T.Standing.stand c.args.standing.now) c.args.q.now.level c.args.q.now.matched) ∙ zero_test (length (missing (g.T.Standing.stand c.args.standing.now) c.args.q.now)) (sym c.requires ∙ c.if-left-eq0.true)))

pub returns : goal.returns
returns g c =
    c.is_some.ensures ∙ ap is_some (c.lost_match.ensures ∙ ap (λ m. first_lost (g.T.Standing.stand c.args.standing.now) m) c.as_slice.ensures)
    ∙ sym (ap (λ a. a || is_some (first_lost (g.T.Standing.stand c.args.standing.now) c.args.q.now.matched)) (sym (none_missing (g.T.Standing.stand c.args.standing.now) c.args.q.now.level c.args.q.now.matched) ∙ other_test (length (missing (g.T.Standing.stand c.args.standing.now) c.args.q.now)) (λ e. c.if-left-eq0.false (c.requires ∙ e))))
