use Rattle.session_steps.proofs.Standing.{quiet_telling, refused_step}
use Rattle.session_steps.proofs.TrackerHomes.{rows_of_tracker, tracker_dylib_there}
use Rattle.session_steps.proofs.live.Live.remove_tracker.Goals as goal

pub returns-in-Some-clause-step : goal.returns-in-Some-clause-step
returns-in-Some-clause-step g c = λ s. quiet_telling g.U.UnitKind.meaning g.m s _ _ c.args.self.now.parts c.args.self.now.parts (refused_step g.U.UnitKind.meaning g.m s _ _ c.args.self.now.parts c.requires.1.1 c.in-Some.ensures.refused)

pub remove-requires : goal.remove-requires
remove-requires g c κs within =
    let at = c.requires.1.1 in
    let there = c.in_default.ensures.accepted.there in
    (within.0, (within.1, (at.parts, (at.once, (rows_of_tracker g.m c.args.t.0 at.homes, (tracker_dylib_there g.m c.args.t.0 at.homes there, there))))))
