use Rattle.std.proofs.Common.{ap, sym, subst, ◌∙◌, length, ◌++◌}
use Rattle.session_model.specs.Query.{stand_at}
use Rattle.query_book.specs.Ledger.{settled}
use Rattle.query_book.proofs.Session.{stands_same}
use Rattle.session_parts.specs.Dues.{dues}
use Rattle.session_parts.specs.Ends.{noted}
use Rattle.session_parts.specs.Parts.{AreParts}
use Rattle.session_parts.proofs.BookEnds.{book_settled}
use Rattle.session_parts.proofs.Links.{with_told, settled_by}
use Rattle.session_parts.proofs.parts.Parts.settle.Goals as goal

pub returns-clause-parts : goal.returns-clause-parts
returns-clause-parts g c =
    let r = c.requires.1.1 in
    let old = c.args.self.now.book in
    let book = book_settled (record (g.m) { entries = c.args.at }) old c.settle-fires.new.self (stands_same g.m.rows) (r.1.1.0 ∙ ap length (sym r.1.0))
    (c.settle-fires.ensures.settled ∙ ap (λ rows. settled c.args.at (stand_at rows) old) r.0.kept.rows) in
    subst (AreParts g.U.UnitKind.meaning c.link_all.new.self)
    (settled_by g.m c.settle-fires.new.self.due old.queries old.ends r.1.0 r.1.1.0 r.1.1.1.1.0 r.1.1.1.1.1.0 (book.due ∙ ap (λ us. us ++ dues g.m.rows old.queries old.ends) r.1.1.1.1.1.1))
    (c.link_all.ensures.parts g.m (with_told g.U.UnitKind.meaning c.args.self.now c.clear.new.self c.settle-fires.new.self g.m r.0 c.clear.ensures))

pub returns-clause-ends : goal.returns-clause-ends
returns-clause-ends g c =
    let r = c.requires.1.1 in
    let old = c.args.self.now.book in
    let book = book_settled (record (g.m) { entries = c.args.at }) old c.settle-fires.new.self (stands_same g.m.rows) (r.1.1.0 ∙ ap length (sym r.1.0))
    (c.settle-fires.ensures.settled ∙ ap (λ rows. settled c.args.at (stand_at rows) old) r.0.kept.rows) in
    ap (λ b. b.ends) c.link_all.ensures.book ∙ (book.ends ∙ ap (λ qs. noted (record (g.m) { entries = c.args.at }) qs old.ends) r.1.0)

pub returns-clause-queries : goal.returns-clause-queries
returns-clause-queries g c =
    let r = c.requires.1.1 in
    let old = c.args.self.now.book in
    let book = book_settled (record (g.m) { entries = c.args.at }) old c.settle-fires.new.self (stands_same g.m.rows) (r.1.1.0 ∙ ap length (sym r.1.0))
    (c.settle-fires.ensures.settled ∙ ap (λ rows. settled c.args.at (stand_at rows) old) r.0.kept.rows) in
    ap (λ b. b.queries) c.link_all.ensures.book ∙ (book.queries ∙ r.1.0)
