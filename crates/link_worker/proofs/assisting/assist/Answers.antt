use Rattle.turn_lock.specs.Handles.{view}
use Rattle.orc_ids.specs.declared.lookup.Stop.TheVariants as stop
use Rattle.link_worker.proofs.Working.{jobs_cut, jobs_idle, jobs_more, jobs_none, stopped_since}
use Rattle.link_worker.proofs.assisting.assist.Goals as goal

pub loop-init : goal.loop-init
loop-init g c = (c.requires.ready, c.requires.free, jobs_none g.U.UnitKind.meaning g.N.Notify.heard (view c.args.pass.now) c.args.fired.now)

pub loop-preserved-in-Did : goal.loop-preserved-in-Did
loop-preserved-in-Did g c = (
  c.in-Did.ensures.ready,
  c.in-Did.ensures.free,
  jobs_more g.U.UnitKind.meaning g.N.Notify.heard (view c.args.pass.now) (view c.loop.pass) (view c.work_one.new.pass) c.args.fired.now c.loop.fired c.work_one.new.fired c.loop.invariant.2 c.in-Did.ensures.worked,
)

pub loop-preserved : goal.loop-preserved
loop-preserved g c = (
  c.in-Idle.ensures.ready,
  c.in-Idle.ensures.free,
  jobs_idle g.U.UnitKind.meaning g.N.Notify.heard (view c.args.pass.now) (view c.loop.pass) (view c.work_one.new.pass) c.args.fired.now c.loop.fired c.work_one.new.fired c.loop.invariant.2 c.in-Idle.ensures.worked.0,
)

pub returns-in-JournalFull-clause-assisted : goal.returns-in-JournalFull-clause-assisted
returns-in-JournalFull-clause-assisted g c =
    let means = g.U.UnitKind.meaning in
    let v = view c.args.pass.now in
    let x = view c.loop.pass in
    let w = view c.work_one.new.pass in (
      jobs_cut means g.N.Notify.heard v x w c.args.fired.now c.loop.fired c.work_one.new.fired c.loop.invariant.2 c.in-JournalFull.ensures.worked.0,
      stopped_since means g.row.JMAX v.seen x.seen w.seen (stop.JournalFull c.in-JournalFull.len) c.loop.invariant.2.did.later c.in-JournalFull.ensures.worked.1,
    )

pub returns-in-NoMemory-clause-assisted : goal.returns-in-NoMemory-clause-assisted
returns-in-NoMemory-clause-assisted g c = jobs_cut g.U.UnitKind.meaning g.N.Notify.heard (view c.args.pass.now) (view c.loop.pass) (view c.work_one.new.pass) c.args.fired.now c.loop.fired c.work_one.new.fired c.loop.invariant.2 c.in-NoMemory.ensures.worked
