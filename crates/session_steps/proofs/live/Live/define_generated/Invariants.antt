-- The unit is defined in the session, and the generator is spent after that, or else in the session as it was.
use Rattle.session_steps.specs.Generated.{after_generate}
use Rattle.session_steps.proofs.live.Live.define_generated.Given as goal

abbrev pub ghost-define : goal.ghost-define
ghost-define g a = g.m

abbrev pub ghost-spend : goal.ghost-spend
ghost-spend g a = after_generate a.g g.m

abbrev pub ghost-spend_clashing : goal.ghost-spend_clashing
ghost-spend_clashing g a = g.m
