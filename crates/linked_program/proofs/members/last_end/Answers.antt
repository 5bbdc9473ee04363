use Rattle.std.proofs.Common.{rules}
use Rattle.linked_program.proofs.MemberDuties.{last_popped, no_last}
use Rattle.linked_program.proofs.members.last_end.Goals as goal

pub returns-in-Some : goal.returns-in-Some
returns-in-Some g c = last_popped c.args.members.items c.pop.new.self.items c.pop.result c.in-Some.member c.pop.ensures.items c.in-Some.is

pub returns : goal.returns
returns g c = no_last c.args.members.items (search rules)
