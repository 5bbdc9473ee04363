use Rattle.got_stubs.specs.Marks.{part_at}
use Rattle.got_stubs.proofs.Flags.{length-numbers_where}
use Rattle.got_stubs.proofs.Steps.{no_more}
use Rattle.got_stubs.proofs.parts.list_with.Goals as goal

pub returns-clause-few : goal.returns-clause-few
returns-clause-few c = no_more c.loop-s.symbols.items _ _ _ c.loop-s.invariant (length-numbers_where (part_at c.args.part c.args.marks.now) 0 c.args.own.now)
