-- The place has the address, or another.
use Rattle.std.proofs.Common.{◌≡◌, ◌∙◌, Some, ap, sym, refl, arith, length}
use Rattle.std.specs.Prelude.{slice_get}
use Rattle.std.proofs.lemmas.Option.{slice_get_read}
use Rattle.exec_run.specs.Decoded.{place_of, kept_at}
use Rattle.exec_run.proofs.Still.{got_none, got_some}
use Rattle.exec_run.proofs.decoded.Decoded.get.Goals as goal

pub returns-then-place-at : goal.returns-then-place-at
returns-then-place-at c =
    let items = c.self.inside.places.items in
    let item = slice_get_read items (length items) c.place_of.result c.index-place.result.now refl (omega (arith, c.place_of.ensures.within, c.self.invariant)) c.index-place.ensures in
    let there : slice_get items (place_of (length items) c.args.at) ≡ Some c.index-place.result.now = ap (slice_get items) (ap (λ n. place_of n c.args.at) c.self.invariant ∙ sym c.place_of.ensures.exact) ∙ item in
    sym (got_some items c.args.at c.index-place.result.now there c.if-place-at.true) ∙ ap (λ ps. kept_at ps c.args.at) c.self.view_is

pub returns-else-place-at : goal.returns-else-place-at
returns-else-place-at c =
    let items = c.self.inside.places.items in
    let item = slice_get_read items (length items) c.place_of.result c.index-place.result.now refl (omega (arith, c.place_of.ensures.within, c.self.invariant)) c.index-place.ensures in
    let there : slice_get items (place_of (length items) c.args.at) ≡ Some c.index-place.result.now = ap (slice_get items) (ap (λ n. place_of n c.args.at) c.self.invariant ∙ sym c.place_of.ensures.exact) ∙ item in
    sym (got_none items c.args.at c.index-place.result.now there c.if-place-at.false) ∙ ap (λ ps. kept_at ps c.args.at) c.self.view_is
