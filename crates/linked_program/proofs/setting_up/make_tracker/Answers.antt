use Rattle.std.proofs.Common.{[], ◌∷◌, refl}
use Rattle.session_model.specs.declared.entry.Event.TheVariants as event
use Rattle.memory_laws.specs.Objects.{first_dylib}
use Rattle.turn_lock.specs.Handles.{view}
use Rattle.linked_program.proofs.SetUp.{stopped_on, tracker_on}
use Rattle.linked_program.proofs.setting_up.make_tracker.Goals as goal

pub returns-clause-made : goal.returns-clause-made
returns-clause-made g c = tracker_on g.U.UnitKind.meaning g.row.JMAX (view c.args.pass.now) (view c.perform.new.seat) c.args.main c.perform.result c.requires.at c.perform.ensures.turned

pub returns-clause-stopped : goal.returns-clause-stopped
returns-clause-stopped g c = stopped_on g.U.UnitKind.meaning g.row.JMAX (view c.args.pass.now) (view c.perform.new.seat) (event.Dylib c.args.main ∷ []) (event.Tracker first_dylib) c.perform.result c.requires.at refl c.perform.ensures.turned
