-- The map has the instance at the name, and at each other name what it had.
use Rattle.ready_words.proofs.Learning.{changed_as_latest}
use Rattle.ready_words.proofs.peeks.Peeks.learn.Goals as goal

pub returns-clause-learnt : goal.returns-clause-learnt
returns-clause-learnt c = λ other. rw (← c.self.view_is) (changed_as_latest c.args.name other c.args.i c.self.inside.instances.entries c.insert.new.self.entries (c.in_ok-insert.ensures.updates.0 other))
