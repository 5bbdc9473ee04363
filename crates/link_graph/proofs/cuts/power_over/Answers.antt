use Rattle.std.proofs.Common.{refl, sym, ◌∙◌, arith}
use Rattle.link_graph.proofs.Powers.{power_here, power_later, power_last, boundary_small}
use Rattle.link_graph.proofs.cuts.power_over.Goals as goal

pub loop-round-init : goal.loop-round-init
loop-round-init c = (omega arith, refl)

pub loop-round-preserved : goal.loop-round-preserved
loop-round-preserved c = (omega arith, sym (power_later c.loop-round.round c.loop-round.power c.args.a (omega arith) (omega arith)) ∙ c.loop-round.invariant.1)

pub returns-then-a-power-clause-exact : goal.returns-then-a-power-clause-exact
returns-then-a-power-clause-exact c = sym (power_here c.loop-round.round c.loop-round.power c.args.a (omega arith) (omega arith)) ∙ c.loop-round.invariant.1

pub returns-then-a-power-clause-small : goal.returns-then-a-power-clause-small
returns-then-a-power-clause-small c =
    let is = sym (power_here c.loop-round.round c.loop-round.power c.args.a (omega arith) (omega arith)) ∙ c.loop-round.invariant.1 in
    let small = boundary_small c.args.a c.requires in
    omega (arith, is, small)

pub returns-clause-exact : goal.returns-clause-exact
returns-clause-exact c = sym (power_last c.loop-round.round c.loop-round.power c.args.a (omega arith)) ∙ c.loop-round.invariant.1

pub returns-clause-small : goal.returns-clause-small
returns-clause-small c =
    let is = sym (power_last c.loop-round.round c.loop-round.power c.args.a (omega arith)) ∙ c.loop-round.invariant.1 in
    let small = boundary_small c.args.a c.requires in
    omega (arith, is, small)
