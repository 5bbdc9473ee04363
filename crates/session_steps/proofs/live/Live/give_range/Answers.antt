use Rattle.std.proofs.Common.{rules, subst}
use Rattle.code_memory.specs.Places.{AreLaidOut}
use Rattle.session_steps.proofs.Placings.{place_unit, shape_right, placed_step, placed_lowest, full_step}
use Rattle.session_steps.proofs.live.Live.give_range.Goals as goal

pub place-requires : goal.place-requires
place-requires g c κs within =
    let shape = shape_right g.U.UnitKind.meaning g.m c.args.self.now.parts c.args.s.0 c.args.u c.args.shape c.requires.1.1.0 c.requires.1.1.1 in
    (within.0, (within.1, (c.requires.1.1.0.parts, (place_unit g.U.UnitKind.meaning g.m c.args.self.now.parts c.args.s.0 c.args.u c.args.shape c.requires.1.1.0 c.requires.1.1.1, (shape.0, shape.1)))))

pub returns-in-Ok-clause-step : goal.returns-in-Ok-clause-step
returns-in-Ok-clause-step g c = placed_step g.U.UnitKind.meaning g.m c.args.s.0 c.args.u c.args.shape c.in-Ok.base c.args.self.now.parts c.place.new.self c.requires.1.1.0 c.requires.1.1.1 c.in-Ok.ensures.lowest c.in-Ok.ensures.ok c.place.ensures.rest

pub returns-in-Ok-clause-lowest : goal.returns-in-Ok-clause-lowest
returns-in-Ok-clause-lowest g c = placed_lowest g.U.UnitKind.meaning g.m c.args.u c.args.shape c.in-Ok.base c.args.self.now.parts c.requires.1.1.0 (subst AreLaidOut c.in-Ok.ensures.space c.place.ensures.laid_out) c.in-Ok.ensures.lowest

pub returns-in-Err-NoRoom-clause-step : goal.returns-in-Err-NoRoom-clause-step
returns-in-Err-NoRoom-clause-step g c = full_step g.U.UnitKind.meaning g.m c.args.s.0 c.args.u c.args.shape c.in-Err-NoRoom.need c.in-Err-NoRoom.field-0 c.args.self.now.parts c.place.new.self c.requires.1.1.0 c.requires.1.1.1 (search rules) c.in-Err-NoRoom.ensures.refused c.in-Err-NoRoom.ensures.err c.place.ensures.laid_out
