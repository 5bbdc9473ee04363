use Rattle.std.proofs.Common.{◌≡◌, None, map, ◌∙◌, subst}
use Rattle.std.proofs.lemmas.List.Elements.{All-map}
use Rattle.session_model.specs.Meaning.{Meaning}
use Rattle.turn_lock.specs.Handles.{view}
use Rattle.linked_program.specs.SetUps.{HasSetUp}
use Rattle.linked_program.proofs.Assembling.{refused_run, stopped_run, worked_run}
use Rattle.crew.proofs.Taking.{says}
use Rattle.shared_session.specs.Home.{IsLawful, IsPosted, seat_of}
use Rattle.linked_program.proofs.program.run_program.Goals as goal

pub returns-in-Done-clause-run : goal.returns-in-Done-clause-run
returns-in-Done-clause-run g c log s =
    let M = g.U.UnitKind.meaning in
    let program = c.args.program in
    let units = map M program.units.items in
    worked_run M g.row.JMAX c.args.workers program.main program.entry units (view c.set_up.new.pass) (view c.run_members.new.first) log c.run_members.result (All-map (λ (u : Meaning). u.source ≡ None) M program.units.items c.requires.sources)
    (subst (HasSetUp M g.row.JMAX program.main units (view c.set_up.new.pass)) c.in-Done.is c.set_up.ensures.set_up) (c.set_up.ensures.seats ∙ c.requires.seats) s (c.run_members.ensures.worked log (says seat_of (IsLawful M g.row.JMAX) (IsPosted M) log (view c.run_members.new.first) s))

pub returns-in-Refused-clause-run : goal.returns-in-Refused-clause-run
returns-in-Refused-clause-run g c log s =
    let M = g.U.UnitKind.meaning in
    let program = c.args.program in
    let units = map M program.units.items in
    refused_run M g.row.JMAX c.args.workers program.main program.entry units (view c.set_up.new.pass) log c.in-Refused.unit (subst (HasSetUp M g.row.JMAX program.main units (view c.set_up.new.pass)) c.in-Refused.is c.set_up.ensures.set_up) s

pub returns-in-Stopped-clause-run : goal.returns-in-Stopped-clause-run
returns-in-Stopped-clause-run g c log s =
    let M = g.U.UnitKind.meaning in
    let program = c.args.program in
    let units = map M program.units.items in
    stopped_run M g.row.JMAX c.args.workers program.main program.entry units (view c.set_up.new.pass) log c.in-Stopped.stop (subst (HasSetUp M g.row.JMAX program.main units (view c.set_up.new.pass)) c.in-Stopped.is c.set_up.ensures.set_up) s
