-- What is spent in the end, with those that are left to go.
use Rattle.session_parts.proofs.Retiring.{Spending}
use Rattle.session_parts.proofs.removing.spend_all.Given as goal

abbrev pub invariant-loop-g : goal.invariant-loop-g
invariant-loop-g g l = Spending l.gone l.initial.generators.rows l.g-iterator l.generators.rows
