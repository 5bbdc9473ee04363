use Rattle.std.proofs.Common.{◌≡◌, ◌+◌, ap, subst}
use Rattle.std.specs.Prelude.{IfSome}
use Rattle.query_book.specs.Rows.{armed_count}
use Rattle.query_book.proofs.Endings.{one_came, none_came}
use Rattle.query_book.proofs.Lodging.{kept_first}
use Rattle.query_book.proofs.book.Book.give_back.Goals as goal

pub invariant_of-self : goal.invariant_of-self
invariant_of-self g c = kept_first c.self.inside.rows c.give_back.new.self c.self.inside.board c.self.invariant c.give_back.ensures.rest

pub returns-clause-none : goal.returns-clause-none
returns-clause-none g c = none_came c.self.inside.rows.armed c.give_back.new.self.armed c.give_back.result c.give_back.ensures.first (ap (λ a. a.armed) c.give_back.ensures.rest)

pub returns-clause-fewer : goal.returns-clause-fewer
returns-clause-fewer g c = subst (λ l. IfSome c.give_back.result (λ x. armed_count c.give_back.new.self.armed + 1 ≡ armed_count l.armed)) c.self.view_is
    (one_came c.self.inside.rows.armed c.give_back.new.self.armed c.give_back.result c.give_back.ensures.first (ap (λ a. a.armed) c.give_back.ensures.rest))
