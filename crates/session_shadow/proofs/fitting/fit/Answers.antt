use Rattle.session_shadow.proofs.fitting.fit.Goals as goal

pub returns-in-Emit : goal.returns-in-Emit
returns-in-Emit c = c.fit_emit.ensures c.args.jmax c.args.journal.now c.requires
