use Rattle.std.proofs.Common.{sym, ◌∙◌, subst}
use Rattle.turn_lock.specs.Handles.{view}
use Rattle.linked_program.specs.Clients.{IsClientOf}
use Rattle.linked_program.proofs.ClientCalls.{looked_and_copied, looked_and_stopped}
use Rattle.linked_program.proofs.client.run_client.Goals as goal

pub returns-in-Ok-copy_memory-clause-client : goal.returns-in-Ok-copy_memory-clause-client
returns-in-Ok-copy_memory-clause-client g c = looked_and_copied g.U.UnitKind.meaning g.row.JMAX c.args.entry (view c.args.pass.now) (view c.look_up.new.pass) (view c.copy_memory.new.pass) c.look_up.result c.in-Ok.matches (sym c.found_in.ensures ∙ c.in-Ok.is) c.look_up.ensures.looked c.in-Ok-copy_memory.image c.in-Ok-copy_memory.ensures.copied

pub returns-in-Err-copy_memory-clause-client : goal.returns-in-Err-copy_memory-clause-client
returns-in-Err-copy_memory-clause-client g c = subst (λ e. IsClientOf g.U.UnitKind.meaning g.row.JMAX c.args.entry (view c.args.pass.now) (view c.copy_memory.new.pass) (record { end = e; memory = Rattle.std.proofs.Common.None })) (sym c.end_of.ensures) (looked_and_stopped g.U.UnitKind.meaning g.row.JMAX c.args.entry (view c.args.pass.now) (view c.look_up.new.pass) (view c.copy_memory.new.pass) c.look_up.result c.in-Ok.matches (sym c.found_in.ensures ∙ c.in-Ok.is) c.look_up.ensures.looked c.in-Err-copy_memory.stop c.in-Err-copy_memory.ensures.stopped)
