use Rattle.std.proofs.lemmas.Bool.{both_ways, or_parts}
use Rattle.turn_lock.specs.Handles.{view}
use Rattle.script_model.specs.Plans.{line_of}
use Rattle.script_session.specs.Lines.{is_stopped}
use Rattle.script_session.proofs.ManyLines.{more_done, skipped_more}
use Rattle.script_session.proofs.client.do_or_skip.Goals as goal

pub returns-then-stopped-clause-next : goal.returns-then-stopped-clause-next
returns-then-stopped-clause-next g c v first lines ends some = skipped_more g.U.UnitKind.meaning g.N.Notify.heard g.row.JMAX lines ends (line_of g.U.UnitKind.meaning c.args.call) v (view c.args.pass.now) first c.args.fired.now c.args.given.now c.args.stopped c.skip.result.end c.if-stopped.true c.skip.ensures.end some

pub returns-else-stopped-clause-next : goal.returns-else-stopped-clause-next
returns-else-stopped-clause-next g c v first lines ends some = more_done g.U.UnitKind.meaning g.N.Notify.heard g.row.JMAX lines ends (line_of g.U.UnitKind.meaning c.args.call) v (view c.args.pass.now) (view c.do_line.new.pass) first c.args.fired.now c.do_line.new.fired c.args.given.now c.do_line.new.given c.do_line.result.end c.args.stopped c.if-stopped.false some c.do_line.ensures.done c.do_line.ensures.given

-- once one is stopped, nothing is said of the table
pub returns-then-stopped-clause-known : goal.returns-then-stopped-clause-known
returns-then-stopped-clause-known g c isnt = absurd (both_ways c.args.stopped (or_parts c.args.stopped (is_stopped c.skip.result.end) isnt).0 c.if-stopped.true)

pub returns-else-stopped-clause-known : goal.returns-else-stopped-clause-known
returns-else-stopped-clause-known g c isnt = c.do_line.ensures.known (or_parts c.args.stopped (is_stopped c.do_line.result.end) isnt).1
