use Rattle.std.proofs.Common.{arith, sym, subst, ◌∙◌}
use Rattle.orc_ids.specs.declared.lookup.Stop.TheVariants as stop
use Rattle.turn_lock.specs.Handles.{view}
use Rattle.link_worker.specs.Looks.{HasAwaited}
use Rattle.link_worker.proofs.Collecting.{CollectOf, collect_stopped, collected_end, collected_free, still_open, still_open_free, waits_first, work_cut, work_did, work_idle}
use Rattle.link_worker.proofs.Working.{stopped_since}
use Rattle.link_worker.proofs.looking.await_end.Goals as goal

pub loop-init : goal.loop-init
loop-init g c = (c.requires.ready, c.requires.free, λ n lodged. waits_first g.U.UnitKind.meaning g.N.Notify.heard g.row.JMAX c.args.query n (view c.args.pass.now) c.args.fired.now lodged)

pub returns-in-Some-end_in-clause-free : goal.returns-in-Some-end_in-clause-free
returns-in-Some-end_in-clause-free g c =
    let means = g.U.UnitKind.meaning in
    let q = c.args.query in
    let n = c.requires.lodged.0 in
    let v = view c.args.pass.now in
    let x = view c.loop.pass in
    let y = view c.perform.new.seat in
    let so = c.loop.invariant.2 n c.requires.lodged.1 in
    collected_free means g.N.Notify.heard g.row.JMAX q n v x y c.args.fired.now c.loop.fired so c.in-Ok.reply c.in-Some-end_in.end (sym c.end_in.ensures ∙ c.in-Some-end_in.is) c.loop.invariant.1
    (subst (CollectOf means g.N.Notify.heard g.row.JMAX q n v x y c.args.fired.now c.loop.fired so) c.in-Ok.is c.perform.ensures.turned)

pub returns-in-Some-end_in-clause-awaited : goal.returns-in-Some-end_in-clause-awaited
returns-in-Some-end_in-clause-awaited g c = λ n lodged.
    let means = g.U.UnitKind.meaning in
    let q = c.args.query in
    let v = view c.args.pass.now in
    let x = view c.loop.pass in
    let y = view c.perform.new.seat in
    let so = c.loop.invariant.2 n lodged in
    collected_end means g.N.Notify.heard g.row.JMAX q n v x y c.args.fired.now c.loop.fired so c.in-Ok.reply c.in-Some-end_in.end (sym c.end_in.ensures ∙ c.in-Some-end_in.is)
    (subst (CollectOf means g.N.Notify.heard g.row.JMAX q n v x y c.args.fired.now c.loop.fired so) c.in-Ok.is c.perform.ensures.turned)

pub returns-in-Err-clause-free : goal.returns-in-Err-clause-free
returns-in-Err-clause-free g c =
    let means = g.U.UnitKind.meaning in
    let q = c.args.query in
    let n = c.requires.lodged.0 in
    let v = view c.args.pass.now in
    let x = view c.loop.pass in
    let y = view c.perform.new.seat in
    let so = c.loop.invariant.2 n c.requires.lodged.1 in
    (collect_stopped means g.N.Notify.heard g.row.JMAX q n v x y c.args.fired.now c.loop.fired so c.in-Err.stop c.loop.invariant.1
    (subst (CollectOf means g.N.Notify.heard g.row.JMAX q n v x y c.args.fired.now c.loop.fired so) c.in-Err.is c.perform.ensures.turned)).1

pub returns-in-Err-clause-awaited : goal.returns-in-Err-clause-awaited
returns-in-Err-clause-awaited g c = λ n lodged.
    let means = g.U.UnitKind.meaning in
    let q = c.args.query in
    let v = view c.args.pass.now in
    let x = view c.loop.pass in
    let y = view c.perform.new.seat in
    let so = c.loop.invariant.2 n lodged in
    subst (HasAwaited means g.N.Notify.heard g.row.JMAX v y c.args.fired.now c.loop.fired q n) (sym c.end_stopped.ensures)
    (collect_stopped means g.N.Notify.heard g.row.JMAX q n v x y c.args.fired.now c.loop.fired so c.in-Err.stop c.loop.invariant.1
    (subst (CollectOf means g.N.Notify.heard g.row.JMAX q n v x y c.args.fired.now c.loop.fired so) c.in-Err.is c.perform.ensures.turned)).0

pub work_one-requires : goal.work_one-requires
work_one-requires g c =
    let means = g.U.UnitKind.meaning in
    let q = c.args.query in
    let n = c.requires.lodged.0 in
    let v = view c.args.pass.now in
    let x = view c.loop.pass in
    let y = view c.perform.new.seat in
    let so = c.loop.invariant.2 n c.requires.lodged.1 in (
      omega arith,
      (
        c.perform.ensures.ready,
        still_open_free means g.N.Notify.heard g.row.JMAX q n v x y c.args.fired.now c.loop.fired so c.in-Ok.reply (sym c.end_in.ensures ∙ c.in_default.is) c.loop.invariant.1
            (subst (CollectOf means g.N.Notify.heard g.row.JMAX q n v x y c.args.fired.now c.loop.fired so) c.in-Ok.is c.perform.ensures.turned),
      ),
    )

pub loop-preserved-in-Did : goal.loop-preserved-in-Did
loop-preserved-in-Did g c =
    let means = g.U.UnitKind.meaning in
    let q = c.args.query in
    let v = view c.args.pass.now in
    let x = view c.loop.pass in
    let y = view c.perform.new.seat in
    let z = view c.work_one.new.pass in (
      c.in-Did.ensures.ready,
      c.in-Did.ensures.free,
      λ n lodged.
          let so = c.loop.invariant.2 n lodged in
          work_did means g.N.Notify.heard g.row.JMAX q n v y z c.args.fired.now c.loop.fired c.work_one.new.fired
          (still_open means g.N.Notify.heard g.row.JMAX q n v x y c.args.fired.now c.loop.fired so c.in-Ok.reply (sym c.end_in.ensures ∙ c.in_default.is)
          (subst (CollectOf means g.N.Notify.heard g.row.JMAX q n v x y c.args.fired.now c.loop.fired so) c.in-Ok.is c.perform.ensures.turned)) c.in-Did.ensures.worked,
    )

pub loop-preserved : goal.loop-preserved
loop-preserved g c =
    let means = g.U.UnitKind.meaning in
    let q = c.args.query in
    let v = view c.args.pass.now in
    let x = view c.loop.pass in
    let y = view c.perform.new.seat in
    let z = view c.work_one.new.pass in (
      c.in-Idle.ensures.ready,
      c.in-Idle.ensures.free,
      λ n lodged.
          let so = c.loop.invariant.2 n lodged in
          work_idle means g.N.Notify.heard g.row.JMAX q n v y z c.args.fired.now c.loop.fired c.work_one.new.fired
          (still_open means g.N.Notify.heard g.row.JMAX q n v x y c.args.fired.now c.loop.fired so c.in-Ok.reply (sym c.end_in.ensures ∙ c.in_default.is)
          (subst (CollectOf means g.N.Notify.heard g.row.JMAX q n v x y c.args.fired.now c.loop.fired so) c.in-Ok.is c.perform.ensures.turned)) c.in-Idle.ensures.worked.0,
    )

pub returns-in-JournalFull-clause-awaited : goal.returns-in-JournalFull-clause-awaited
returns-in-JournalFull-clause-awaited g c = λ n lodged.
    let means = g.U.UnitKind.meaning in
    let q = c.args.query in
    let v = view c.args.pass.now in
    let x = view c.loop.pass in
    let y = view c.perform.new.seat in
    let z = view c.work_one.new.pass in
    let so = c.loop.invariant.2 n lodged in
    let still = still_open means g.N.Notify.heard g.row.JMAX q n v x y c.args.fired.now c.loop.fired so c.in-Ok.reply (sym c.end_in.ensures ∙ c.in_default.is)
    (subst (CollectOf means g.N.Notify.heard g.row.JMAX q n v x y c.args.fired.now c.loop.fired so) c.in-Ok.is c.perform.ensures.turned) in (
      work_cut means g.N.Notify.heard g.row.JMAX q n v y z c.args.fired.now c.loop.fired c.work_one.new.fired still c.in-JournalFull.ensures.worked.0,
      stopped_since means g.row.JMAX v.seen y.seen z.seen (stop.JournalFull c.in-JournalFull.len) still.did.later c.in-JournalFull.ensures.worked.1,
    )

pub returns-in-NoMemory-clause-awaited : goal.returns-in-NoMemory-clause-awaited
returns-in-NoMemory-clause-awaited g c = λ n lodged.
    let means = g.U.UnitKind.meaning in
    let q = c.args.query in
    let v = view c.args.pass.now in
    let x = view c.loop.pass in
    let y = view c.perform.new.seat in
    let z = view c.work_one.new.pass in
    let so = c.loop.invariant.2 n lodged in
    work_cut means g.N.Notify.heard g.row.JMAX q n v y z c.args.fired.now c.loop.fired c.work_one.new.fired
    (still_open means g.N.Notify.heard g.row.JMAX q n v x y c.args.fired.now c.loop.fired so c.in-Ok.reply (sym c.end_in.ensures ∙ c.in_default.is)
    (subst (CollectOf means g.N.Notify.heard g.row.JMAX q n v x y c.args.fired.now c.loop.fired so) c.in-Ok.is c.perform.ensures.turned)) c.in-NoMemory.ensures.worked
