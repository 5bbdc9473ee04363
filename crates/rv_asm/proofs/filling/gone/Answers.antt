use Rattle.std.proofs.Common.{◌≡◌, ap, ◌∙◌, to_z, of_z, w64, arith}
use Rattle.std.proofs.lemmas.Int.{to_z-of_z}
use Rattle.rv_asm.specs.Branches.{with_distance}
use Rattle.rv_asm.proofs.filling.gone.Goals as goal

pub returns-clause-exact : goal.returns-clause-exact
returns-clause-exact c =
    let same : to_z w64 (of_z w64 c.reached.result) ≡ c.args.distance = grind (arith, to_z-of_z, c.reached.ensures) in
    c.with_distance.ensures.exact ∙ ap (λ d. with_distance d c.args.insn) same
