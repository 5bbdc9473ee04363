-- The gap is written where it stood.
use Rattle.std.proofs.Common.{◌∙◌, ◌++◌, ◌+◌, ap, sym, take, drop, arith}
use Rattle.std.specs.Prelude.{slice_set}
use Rattle.std.proofs.lemmas.List.{take-append-drop, take-set, drop-set}
use Rattle.code_memory.proofs.Between.{gap_of, between_some}
use Rattle.code_memory.proofs.gaps.raise_start.Goals as goal

pub returns-then-start-gap-clause-items : goal.returns-then-start-gap-clause-items
returns-then-start-gap-clause-items c =
    let gs = c.args.gaps.now.items in
    let at = c.args.at in
    let left = gap_of c.args.start c.index-gap.result.now.end in
    sym (take-append-drop at (slice_set gs at left))
    ∙ ap (λ front. front ++ drop at (slice_set gs at left)) (take-set gs at left)
    ∙ ap (λ back. take at gs ++ back) (drop-set gs at left (omega (arith, c.requires, c.args.gaps.now.ok.0)))
    ∙ ap (λ first. take at gs ++ (first ++ drop (at + 1) gs)) (sym (between_some c.args.start c.index-gap.result.now.end c.if-start-gap.true))
