use Rattle.std.proofs.Common.{refl}
use Rattle.session_model.specs.declared.entry.Event.TheVariants as event
use Rattle.turn_lock.specs.Handles.{view}
use Rattle.link_worker.proofs.Freeing.{free_stays}
use Rattle.threads_tests.proofs.link_worker_tests.preparing.defines.Goals as goal

pub returns-clause-free : goal.returns-clause-free
returns-clause-free g c =
    let t = c.perform.ensures.turned in
    free_stays g.U.UnitKind.meaning g.row.JMAX (view c.args.pass.now) (view c.perform.new.seat) (event.Define (record { 0 = 0 }) (record { 0 = 0 }) t.did.0.0) c.perform.result.answer (record { old = t.old; new = t.new; passed = t.passed; did = t.did.0.2 }) refl c.requires.free
