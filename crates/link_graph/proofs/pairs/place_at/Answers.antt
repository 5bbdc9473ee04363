use Rattle.std.proofs.Common.{sym}
use Rattle.link_model.specs.declared.graph.GPlace.TheVariants.{Abs}
use Rattle.link_graph.proofs.Whole.{at_or-some, at_or-none}
use Rattle.link_graph.proofs.pairs.place_at.Goals as goal

pub returns-in-Some : goal.returns-in-Some
returns-in-Some c = at_or-some (Abs 0) c.args.places.now c.args.symbol c.in-Some.place (sym c.in-Some.ensures)

pub returns-in-None : goal.returns-in-None
returns-in-None c = at_or-none (Abs 0) c.args.places.now c.args.symbol (sym c.in-None.ensures)
