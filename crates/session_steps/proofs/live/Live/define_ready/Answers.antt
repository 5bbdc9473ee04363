use Rattle.std.proofs.Common.{◌≡◌, ◌∙◌, false, sym, subst}
use Rattle.session_steps.specs.Generated.{lacks_room}
use Rattle.session_steps.proofs.live.Live.define_ready.Goals as goal

pub define_generated-requires : goal.define_generated-requires
define_generated-requires g c κs within = (
  within.0,
  (
    within.1,
    (
      c.requires.1.1.0,
      (
        c.requires.1.1.1,
        subst (λ n. lacks_room g.m n ≡ false) c.count.ensures (sym c.lacks_room.ensures ∙ c.if-lacks_room.false),
      ),
    ),
  ),
)
