use Rattle.std.proofs.Common.{refl}
use Rattle.session_model.specs.declared.entry.Event.TheVariants as event
use Rattle.turn_lock.specs.Handles.{view}
use Rattle.link_worker.proofs.Freeing.{free_stays}
use Rattle.threads_tests.proofs.link_worker_tests.preparing.makes_dylib.Goals as goal

pub returns-clause-free : goal.returns-clause-free
returns-clause-free g c = free_stays g.U.UnitKind.meaning g.row.JMAX (view c.args.pass.now) (view c.perform.new.seat) (event.Dylib (record { 0 = 7 })) c.perform.result c.perform.ensures.turned refl c.requires.free
