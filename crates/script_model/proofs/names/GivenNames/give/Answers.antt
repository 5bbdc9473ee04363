-- The map has the match at the name, and at each other name what it had.
use Rattle.script_model.proofs.Lookups.{changed_as_latest}
use Rattle.script_model.proofs.names.GivenNames.give.Goals as goal

pub returns : goal.returns
returns c = λ other. rw (← c.self.view_is) (changed_as_latest c.args.name other c.args.found c.self.inside.matches.entries c.insert.new.self.entries (c.in_ok-insert.ensures.updates.0 other))
