use Rattle.std.proofs.Common.{refl}
use Rattle.session_model.specs.declared.entry.Event.TheVariants as event
use Rattle.session_model.specs.declared.entry.Reply.TheVariants as reply
use Rattle.session_steps.proofs.Standing.{refused_step}
use Rattle.session_steps.proofs.StoredMemory.{memory_copied}
use Rattle.session_steps.proofs.live.Live.copy_memory.Goals as goal

pub returns-clause-step : goal.returns-clause-step
returns-clause-step g c = λ s. refused_step g.U.UnitKind.meaning g.m s event.Image reply.Image c.args.self.now.parts c.requires.1.1 (record { answered = λ jmax past s. refl; quiet = λ s. refl })

pub returns-clause-copy : goal.returns-clause-copy
returns-clause-copy g c = memory_copied g.m c.args.self.now.parts.space c.image.result c.requires.1.1.parts.kept.memory c.image.ensures.laid_out c.image.ensures.image
