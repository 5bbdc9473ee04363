-- One function more.
use Rattle.std.proofs.Common.{arith}
use Rattle.generated_session.proofs.DefinitionLemmas.{all_defined, none_defined, one_defined}
use Rattle.generated_session.proofs.set_up.put_definitions.Goals as goal

pub loop-k-init : goal.loop-k-init
loop-k-init c = record { within = omega arith; defined = none_defined _ _ }

pub loop-k-preserved : goal.loop-k-preserved
loop-k-preserved c = record {
  within = let less = c.loop-k-test.true in omega (arith, less);
  defined = one_defined _ _ _ _ _ c.loop-k.invariant.defined c.in_ok-put_definition.ensures;
}

pub returns : goal.returns
returns c = all_defined _ _ _ _ c.loop-k.invariant.within c.loop-k-test.false c.loop-k.invariant.defined
