use Rattle.link_graph.proofs.NameNumbers.{adds_one, number_there, text_there}
use Rattle.link_graph.proofs.symbols.intern_name.Goals as goal

pub returns-in-Ok-clause-number : goal.returns-in-Ok-clause-number
returns-in-Ok-clause-number c = number_there _ _ _ c.in-Ok.ensures.number

pub returns-in-Ok-clause-named : goal.returns-in-Ok-clause-named
returns-in-Ok-clause-named c = text_there _ _ _ c.in-Ok.ensures.number

pub returns-in-Ok-clause-only : goal.returns-in-Ok-clause-only
returns-in-Ok-clause-only c = adds_one _ _ _ c.intern.ensures.known c.in-Ok.ensures.added
