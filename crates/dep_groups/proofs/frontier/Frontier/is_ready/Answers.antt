use Rattle.std.proofs.Common.{◌∙◌, List, Bool, subst, sym, ap}
use Rattle.dep_groups.specs.Places.{is_set}
use Rattle.dep_groups.specs.Frontier.{IsReady, Waiting}
use Rattle.dep_groups.proofs.Exact.{marked_ready, ready_marked}
use Rattle.dep_groups.proofs.frontier.Frontier.is_ready.Goals as goal

pub returns : goal.returns
returns c =
    let core = c.self.inside.core in
    let i = c.args.instance.0 in
    let same = c.is_set.ensures ∙ ap (λ (xs : List Bool). is_set xs i) c.deref.ensures.value in (
      λ high. subst (λ (w : Waiting). IsReady w.entries i) c.self.view_is (marked_ready core c.self.invariant.kept.sound i (sym same ∙ high)),
      λ ready. same ∙ ready_marked core c.self.invariant.kept i (subst (λ (w : Waiting). IsReady w.entries i) (sym c.self.view_is) ready),
    )
