use Rattle.std.proofs.Common.{subst, sym, ◌∙◌}
use Rattle.session_parts.proofs.Retiring.{Spending, one_spent, all_spent}
use Rattle.session_parts.proofs.removing.spend_all.Goals as goal

pub loop-g-init : goal.loop-g-init
loop-g-init g c = subst (λ rest. Spending c.args.gone.now c.args.generators.now.rows rest c.args.generators.now.rows) (sym (c.into_iter-g-iterator.ensures.into_iter_gives ∙ c.iter-g-items.ensures.rest)) (λ new spent. spent)

pub loop-g-preserved : goal.loop-g-preserved
loop-g-preserved g c = one_spent c.args.gone.now c.args.generators.now.rows c.loop-g.g-iterator c.in-Some.g.now c.next.new.self c.loop-g.generators.rows c.spend.new.self.rows c.in-Some.ensures.steps c.spend.ensures c.loop-g.invariant

pub returns : goal.returns
returns g c = all_spent c.args.gone.now c.args.generators.now.rows c.loop-g.g-iterator c.loop-g.generators.rows c.in-None.ensures.steps.0 c.loop-g.invariant
