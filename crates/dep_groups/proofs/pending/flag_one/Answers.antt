-- One flag more is set, or it was.
use Rattle.std.proofs.Common.{◌∙◌, sym, arith}
use Rattle.dep_groups.specs.Places.{is_set}
use Rattle.dep_groups.proofs.Trails.{raised_here, raised_kept, raised_cases}
use Rattle.dep_groups.proofs.pending.flag_one.Goals as goal

pub returns-clause-counted : goal.returns-clause-counted
returns-clause-counted c = record { sum = omega (arith, c.requires.counted.sum, c.raise.ensures.count (sym c.is_set.ensures ∙ c.if-is_set.false), c.raise.auto.flags) }

pub returns-clause-flagged : goal.returns-clause-flagged
returns-clause-flagged c = raised_here (is_set c.args.flags.now) (is_set c.raise.new.flags) c.args.instance c.raise.ensures.set

pub returns-clause-stays : goal.returns-clause-stays
returns-clause-stays c = raised_kept (is_set c.args.flags.now) (is_set c.raise.new.flags) c.args.instance c.raise.ensures.set

pub returns-clause-only : goal.returns-clause-only
returns-clause-only c = raised_cases (is_set c.args.flags.now) (is_set c.raise.new.flags) c.args.instance c.raise.ensures.set
