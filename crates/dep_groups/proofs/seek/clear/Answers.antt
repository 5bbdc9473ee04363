-- A group that was seen is there.
use Rattle.std.proofs.Common.{◌<◌, ℕ, List, Bool, length, subst, sym}
use Rattle.dep_groups.specs.Search.{IsVisit}
use Rattle.dep_groups.proofs.Tables.{flag_within}
use Rattle.dep_groups.proofs.seek.clear.Goals as goal

pub unsee-requires-clause-within : goal.unsee-requires-clause-within
unsee-requires-clause-within c = λ k g is.
    subst (λ (xs : List Bool). g < length xs) (sym c.deref_mut.ensures.value)
    (flag_within c.args.trail.now.seen.items g (c.requires.marked k g (subst (λ (o : List ℕ). IsVisit o k g) c.deref.ensures.value is)))
