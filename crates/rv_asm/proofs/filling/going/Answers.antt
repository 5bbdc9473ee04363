use Rattle.std.proofs.Common.{rules, sym, ap, ◌∙◌}
use Rattle.std.specs.Int.{w128}
use Rattle.std.proofs.lemmas.Int.{to_z-of_z}
use Rattle.rv_asm.specs.Branches.{going, with_distance}
use Rattle.rv_asm.proofs.filling.going.Goals as goal

pub returns-in-Some-clause-exact : goal.returns-in-Some-clause-exact
returns-in-Some-clause-exact c =
    c.gone.ensures.exact
    ∙ ap (λ d. with_distance d c.args.insn) (to_z-of_z w128 c.in-Some.distance (search rules))
    ∙ ap (λ o. going o c.args.insn) (sym c.in-Some.is)
