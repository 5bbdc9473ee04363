-- The place of the word is cleared, or has another word.
use Rattle.std.proofs.Common.{◌≡◌, ◌∙◌, Some, ap, sym, refl, arith, length}
use Rattle.std.specs.Prelude.{slice_get}
use Rattle.std.proofs.lemmas.Option.{slice_get_read}
use Rattle.exec_run.specs.Decoded.{place_of, kept_at}
use Rattle.exec_run.proofs.Still.{cleared, untouched}
use Rattle.exec_run.proofs.decoded.Decoded.forget_word.Goals as goal

pub returns-then-index-word : goal.returns-then-index-word
returns-then-index-word c = λ at i aligned is.
    let items = c.self.inside.places.items in
    let named = c.place_of-place.ensures.exact ∙ ap (λ n. place_of n c.args.word) (sym c.self.invariant) in
    let h = cleared items c.args.word at c.place_of-place.result c.nothing.result i c.nothing.ensures named (omega (arith, c.place_of-place.ensures.within, c.self.invariant)) aligned is in
    (h.0, ap (λ ps. kept_at ps at) (sym c.self.view_is) ∙ h.1)

pub returns-else-index-word : goal.returns-else-index-word
returns-else-index-word c = λ at i aligned is.
    let items = c.self.inside.places.items in
    let item = slice_get_read items (length items) c.place_of-place.result c.index.result.now refl (omega (arith, c.place_of-place.ensures.within, c.self.invariant)) c.index.ensures in
    let there : slice_get items (place_of (length items) c.args.word) ≡ Some c.index.result.now = ap (slice_get items) (ap (λ n. place_of n c.args.word) c.self.invariant ∙ sym c.place_of-place.ensures.exact) ∙ item in
    let h = untouched items c.args.word at c.index.result.now i there c.if-index-word.false (ap (λ ps. kept_at ps at) c.self.view_is ∙ is) in
    (h.0, is)
