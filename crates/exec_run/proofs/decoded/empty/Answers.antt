-- Each place is one where no instruction is kept.
use Rattle.std.proofs.Common.{◌≡◌, ◌∙◌, ap, sym, refl, arith, length}
use Rattle.std.proofs.lemmas.Option.{get_or_from_slice_get, slice_get_within}
use Rattle.exec_run.specs.declared.decoded.Place.{Place}
use Rattle.exec_run.proofs.Still.{none_kept}
use Rattle.exec_run.proofs.decoded.empty.Goals as goal

pub returns-clause-nothing : goal.returns-clause-nothing
returns-clause-nothing c =
    let items = c.resize.new.self.items in
    none_kept items (λ k p there.
    let less = slice_get_within items k p there in
    let same : p ≡ c.nothing.result = sym (get_or_from_slice_get items k p p there) ∙ c.in_ok-resize.ensures.by_index.1 k p refl (omega (arith, c.in_ok-places.ensures.len)) (omega (arith, less, c.in_ok-resize.ensures.len, c.resize.new.self.ok.0)) in
    ap (λ (q : Place). q.at) same ∙ c.nothing.ensures)
