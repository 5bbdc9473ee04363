-- Where the placement had no bytes nothing changes, else what is below its base stays.
use Rattle.std.proofs.Common.{◌≡◌, ◌∙◌, ◌∷◌, ◌++◌, sym, subst}
use Rattle.code_memory.specs.LastImage.{based_below, IsLastOf}
use Rattle.code_memory.specs.Places.{deposits}
use Rattle.code_memory.proofs.Changed.{deposits-silent, below-remove, none_is}
use Rattle.code_memory.proofs.last_image.LastImage.leave.Goals as goal

pub returns-then-not-is_deposited : goal.returns-then-not-is_deposited
returns-then-not-is_deposited c = λ low p high there same last.
    subst (IsLastOf c.args.self.now) (deposits-silent low p high (none_is p.bytes (sym (c.is_deposited.ensures p there) ∙ c.if-not-is_deposited.true))) last

pub returns : goal.returns
returns c = λ low p high there same last.
    c.touch.ensures (deposits (low ++ p ∷ high)) (deposits (low ++ high)) last
    (subst (λ b. based_below b (deposits (low ++ p ∷ high)) ≡ based_below b (deposits (low ++ high))) (sym same) (below-remove low p high))
