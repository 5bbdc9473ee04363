use Rattle.std.proofs.Common.{◌≡◌, map}
use Rattle.notifiers.specs.declared.notes.Noted.TheVariants.{Unfired}
use Rattle.notifiers.proofs.notes.untold.Given as goal

abbrev pub invariant-loop-note : goal.invariant-loop-note
invariant-loop-note g l = l.items.items ≡ map Unfired l.yielded
