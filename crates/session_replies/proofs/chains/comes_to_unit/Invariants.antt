-- What is left of the chain comes to the unit if all of it does.
use Rattle.session_model.specs.Plain.{Plain}
use Rattle.session_replies.specs.Chains.{AreLinked}
use Rattle.session_replies.proofs.Walking.{ComesAlong}
use Rattle.session_replies.proofs.chains.comes_to_unit.Given as goal

abbrev pub invariant-loop : goal.invariant-loop
invariant-loop g l = (m : Plain) → AreLinked g.U.UnitKind.meaning l.parts m → ComesAlong m l.u.0 l.counter l.at.0 l.fn.from.0
