use Rattle.std.proofs.Common.{◌<◌, ◌∙◌, length, refl, ap, sym, arith}
use Rattle.std.specs.Prelude.{slice_get}
use Rattle.std.proofs.lemmas.Option.{slice_get_read}
use Rattle.query_book.proofs.rows.Rows.query.Goals as goal

pub index-requires : goal.index-requires
index-requires g c = omega (arith, c.requires, ap (λ a. length a.queries) c.self.view_is, c.self.inside.queries.ok.0)

pub returns : goal.returns
returns g c =
    let less : c.args.at < length c.self.inside.queries.items = omega (arith, c.requires, ap (λ a. length a.queries) c.self.view_is) in
    ap (λ a. slice_get a.queries c.args.at) (sym c.self.view_is) ∙ slice_get_read c.self.inside.queries.items (length c.self.inside.queries.items) c.args.at c.index.result.now refl less c.index.ensures
