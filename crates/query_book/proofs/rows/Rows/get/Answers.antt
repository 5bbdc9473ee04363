use Rattle.std.proofs.Common.{◌∙◌, ap}
use Rattle.std.specs.Prelude.{slice_get}
use Rattle.query_book.proofs.Filling.{looked_up}
use Rattle.query_book.proofs.rows.Rows.get.Goals as goal

pub returns : goal.returns
returns g c =
    looked_up c.get.result (λ x. x.now) c.deref.result.now c.args.at c.get.ensures.lookup.0 c.get.ensures.lookup.1
    ∙ ap (λ l. slice_get l c.args.at) c.deref.ensures.value ∙ ap (λ a. slice_get a.queries c.args.at) c.self.view_is
