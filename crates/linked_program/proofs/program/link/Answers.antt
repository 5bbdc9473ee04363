use Rattle.linked_program.proofs.program.link.Goals as goal

pub returns : goal.returns
returns g c = let run = c.run_program-outcome.ensures.run c.close-session.result.journal c.close-session.ensures.shows in run.1 c.conclude-end.result c.conclude-end.ensures
