use Rattle.std.proofs.Common.{ap, sym, ◌∙◌}
use Rattle.session_model.specs.Change.{bindings_of}
use Rattle.session_model.specs.declared.entry.Reply.TheVariants as reply
use Rattle.session_steps.proofs.TakenJobs.{finish_there, finish_end, linked_alive, finish_step}
use Rattle.session_steps.proofs.live.Live.finish.Goals as goal

pub finishing-requires : goal.finishing-requires
finishing-requires g c κs within = (within.0, (within.1, (c.requires.1.1.0, finish_end g.U.UnitKind.meaning g.m c.args.self.now.parts c.args.u c.requires.1.1.0 c.requires.1.1.1.0 c.requires.1.1.1.1)))

pub finishing-requires-2 : goal.finishing-requires-2
finishing-requires-2 g c κs within = (within.0, (within.1, (c.requires.1.1.0, finish_end g.U.UnitKind.meaning g.m c.args.self.now.parts c.args.u c.requires.1.1.0 c.requires.1.1.1.0 c.requires.1.1.1.1)))

pub finishing-requires-3 : goal.finishing-requires-3
finishing-requires-3 g c κs within = (within.0, (within.1, (c.requires.1.1.0, finish_end g.U.UnitKind.meaning g.m c.args.self.now.parts c.args.u c.requires.1.1.0 c.requires.1.1.1.0 c.requires.1.1.1.1)))

pub taken_unit-requires : goal.taken_unit-requires
taken_unit-requires g c κs within =
    let x = finish_there g.U.UnitKind.meaning g.m c.args.self.now.parts c.args.u c.requires.1.1.0 c.requires.1.1.1.1 in
    (within.0, (within.1, (c.requires.1.1.0, (c.requires.1.1.1.0, linked_alive g.m c.args.u x))))

pub finish-requires : goal.finish-requires
finish-requires g c κs within =
    let x = finish_there g.U.UnitKind.meaning g.m c.args.self.now.parts c.args.u c.requires.1.1.0 c.requires.1.1.1.1 in
    (within.0, (within.1, (c.requires.1.1.0.parts, x)))

pub returns-clause-step : goal.returns-clause-step
returns-clause-step g c =
    let f = finish_end g.U.UnitKind.meaning g.m c.args.self.now.parts c.args.u c.requires.1.1.0 c.requires.1.1.1.0 c.requires.1.1.1.1 in
    let entry = c.in_ok-entry.ensures f in
    let third = c.in_ok-finishing.ensures f in
    finish_step g.U.UnitKind.meaning g.m c.args.s c.args.u c.in_ok-entry.entry c.args.self.now.parts c.finish.new.self c.requires.1.1.0 c.requires.1.1.1.1 f entry
    (c.finish.ensures.parts c.in_ok-entry.entry (ap bindings_of (entry ∙ sym third) ∙ sym c.bindings_of-bound.ensures)) c.finish.ensures.rest

pub returns-clause-same : goal.returns-clause-same
returns-clause-same g c =
    let f = finish_end g.U.UnitKind.meaning g.m c.args.self.now.parts c.args.u c.requires.1.1.0 c.requires.1.1.1.0 c.requires.1.1.1.1 in
    ap (reply.Finish c.args.u) (c.in_ok-reply.ensures f ∙ sym (c.in_ok-entry.ensures f))
