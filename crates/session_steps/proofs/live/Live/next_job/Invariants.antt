-- The units are of the session.
use Rattle.session_steps.proofs.live.Live.next_job.Given as goal

abbrev pub ghost-first_job : goal.ghost-first_job
ghost-first_job g a = g.m
