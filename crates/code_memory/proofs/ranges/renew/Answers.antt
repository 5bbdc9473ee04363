-- What is kept is below the base, and what is added is all else.
use Rattle.std.proofs.Common.{◌≡◌, ◌∙◌, ◌++◌, ap, sym, subst, take}
use Rattle.std.specs.BTreeMap.{values}
use Rattle.std.specs.List.Sorted.{IsNonDecreasingBy}
use Rattle.std.proofs.lemmas.Result.{IfOk-equal}
use Rattle.orc_ids.specs.declared.limits.TheConstants.{CODE_START, CODE_END}
use Rattle.code_memory.specs.Kept.{placements_from}
use Rattle.code_memory.specs.LastImage.{based_below}
use Rattle.code_memory.specs.Places.{deposits}
use Rattle.code_memory.proofs.Changed.{rising_bases, joined}
use Rattle.code_memory.proofs.ranges.renew.Goals as goal

pub count_based_below-kept-requires : goal.count_based_below-kept-requires
count_based_below-kept-requires c =
    subst (IsNonDecreasingBy (λ s. s.base)) (sym c.as_slice.ensures.value) (rising_bases CODE_START c.args.segments.now.items CODE_END c.requires.segments)

pub returns : goal.returns
returns c =
    let ps = values c.args.placed.now in
    let at = c.args.base in
    let kept : c.truncate.new.self.items ≡ based_below at (deposits ps) =
    c.truncate.ensures.items ∙ ap (take c.count_based_below-kept.result) (sym c.as_slice.ensures.value) ∙ c.count_based_below-kept.ensures ∙ ap (based_below at) c.as_slice.ensures.value ∙ c.requires.same in
    IfOk-equal _ _ _ _ c.push_from.ensures
    (ap (λ ss. ss ++ deposits (placements_from at c.args.placed.now.entries)) kept
    ∙ ap (λ es. based_below at (deposits ps) ++ deposits (placements_from at es)) c.requires.by_base
    ∙ joined at CODE_START ps CODE_END c.requires.laid_out.apart)
