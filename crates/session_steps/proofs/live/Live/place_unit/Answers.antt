use Rattle.session_steps.proofs.live.Live.place_unit.Goals as goal

pub give_range-requires : goal.give_range-requires
give_range-requires g c κs within = let x = c.in_default.ensures.right in (within.0, (within.1, (c.requires.1.1.0, (x.0, x.1, c.requires.1.1.1 x.0 x.1))))
