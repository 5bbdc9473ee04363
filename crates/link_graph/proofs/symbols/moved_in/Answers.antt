use Rattle.std.proofs.Common.{◌≡◌, ◌-◌, List, [], sym, ap, ◌∙◌, arith, ltb-true}
use Rattle.std.proofs.lemmas.Bool.{ltb-false}
use Rattle.link_graph.specs.declared.cuts.Cut.{Cut}
use Rattle.link_graph.specs.Padding.{moved}
use Rattle.link_graph.proofs.Whole.{at_or-within, at_or-past}
use Rattle.link_graph.proofs.symbols.moved_in.Goals as goal

pub returns-in-Some : goal.returns-in-Some
returns-in-Some c =
    let there = c.in-Some.ensures.lookup in
    c.moved.ensures ∙ ap (λ (cuts : List Cut). moved cuts c.args.value) (there.1 ∙ sym (at_or-within [] c.args.cuts.now c.args.section _ (ltb-true _ _ (sym there.0))))

pub returns-in-None : goal.returns-in-None
returns-in-None c =
    let there = c.in-None.ensures.lookup in
    let past = at_or-past [] c.args.cuts.now c.args.section (ltb-false _ _ (sym there.0)) in
    let same : c.args.value ≡ c.args.value - 0 = omega arith in
    same ∙ ap (λ (cuts : List Cut). moved cuts c.args.value) (sym past)
