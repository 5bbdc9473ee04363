use Rattle.std.proofs.Common.{◌∙◌, arith}
use Rattle.std.proofs.lemmas.Bool.{both_ways, false_from_ne_true}
use Rattle.instances.proofs.laws.tells_on.Goals as goal

pub returns : goal.returns
returns c = λ g h k more first second. record {
  stands = λ i b n. second.stands i (omega (arith, b, more)) n ∙ first.stands i b (false_from_ne_true _ (λ e. both_ways _ n (second.kept i e)));
  kept = λ i e. second.kept i (first.kept i e);
}
