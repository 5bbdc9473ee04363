use Rattle.std.proofs.Common.{IfOk, Result, Ok, Err}
use Rattle.rv_insn.proofs.OneInsn.{one_insn}
use Rattle.rv_insn.proofs.Ranges.{in_range}
use Rattle.rv_insn.proofs.decoding.decode.Goals as goal

-- what holds of a value holds of what follows from it
if_ok : {A E : Type 0} (P Q : A → Type 0) (r : Result A E) → ((a : A) → P a → Q a) → IfOk r P → IfOk r Q
if_ok P Q (Ok a) f h = f a h
if_ok P Q (Err e) f h = tt

pub returns-clause-only : goal.returns-clause-only
returns-clause-only c = if_ok _ _ c.fitting.result (λ i h. λ j g. one_insn i j c.args.word h g) c.fitting.ensures.found

pub returns-clause-in_range : goal.returns-clause-in_range
returns-clause-in_range c = if_ok _ _ c.fitting.result (λ i h. in_range i c.args.word h) c.fitting.ensures.found
