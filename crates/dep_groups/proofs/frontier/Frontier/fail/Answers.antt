-- What is asked of the frontier is so of what it keeps.
use Rattle.std.proofs.Common.{◌<◌, subst, sym}
use Rattle.dep_groups.specs.Frontier.{Waiting, IsReady}
use Rattle.dep_groups.proofs.frontier.Frontier.fail.Goals as goal

pub fail_all-requires-clause-within : goal.fail_all-requires-clause-within
fail_all-requires-clause-within c = λ m named. subst (λ (w : Waiting). m.0 < w.places) (sym c.self.view_is) (c.requires.within m named)

pub fail_all-requires-clause-unready : goal.fail_all-requires-clause-unready
fail_all-requires-clause-unready c = λ m named. subst (λ (w : Waiting). IsReady w.entries m.0 → ⊥) (sym c.self.view_is) (c.requires.unready m named)
