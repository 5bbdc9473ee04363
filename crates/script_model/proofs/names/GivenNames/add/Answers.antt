-- At the end of the shorter list, nothing was given yet.
use Rattle.script_model.proofs.Lookups.{none_after}
use Rattle.script_model.proofs.names.GivenNames.add.Goals as goal

pub loop-place-init : goal.loop-place-init
loop-place-init c = λ name. rw (c.min-place.ensures, none_after c.args.level c.args.wanted.now c.args.matches.now)
