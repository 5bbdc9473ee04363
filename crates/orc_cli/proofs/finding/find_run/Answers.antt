use Rattle.std.proofs.Common.{refl, sym, subst, ◌∙◌}
use Rattle.command_line.specs.Words.{request}
use Rattle.run_answers.specs.Answered.{in_files, in_session}
use Rattle.answers.specs.Reads.{AreReadFor}
use Rattle.answers.proofs.Reading.{read_in_vain, read_until}
use Rattle.run_answers.proofs.Clauses.{answers_in_session}
use Rattle.run_answers.proofs.Reading.{read_in_session}
use Rattle.orc_cli.proofs.finding.find_run.Goals as goal

pub returns-in-Ok-run_loaded-clause-found : goal.returns-in-Ok-run_loaded-clause-found
returns-in-Ok-run_loaded-clause-found g c = in_session (request c.args.run.now) refl (c.in-Ok-run_loaded.ensures (g.F.Files.holds c.args.files.now) c.in-Ok.ensures.loaded)

pub returns-in-Err-clause-found : goal.returns-in-Err-clause-found
returns-in-Err-clause-found g c = in_files (request c.args.run.now) c.in-Err.why refl c.in-Err.ensures.stopped (c.silent-in-Err.ensures.answer ∙ c.file_answer.ensures) c.silent-in-Err.ensures.output c.silent-in-Err.ensures.journal

pub returns-in-Ok-run_loaded-clause-read : goal.returns-in-Ok-run_loaded-clause-read
returns-in-Ok-run_loaded-clause-read g c =
    let s = c.in-Ok-run_loaded.ensures (g.F.Files.holds c.args.files.now) c.in-Ok.ensures.loaded in
    read_in_session _ _ _ _ (answers_in_session (request c.args.run.now) s.history s.end _ _ s.answers) c.in-Ok.ensures.read

pub returns-in-Err-run_loaded-clause-read : goal.returns-in-Err-run_loaded-clause-read
returns-in-Err-run_loaded-clause-read g c = subst (AreReadFor _ _ _) (sym c.silent.ensures.answer) (read_in_vain _ _ _ c.in-Ok.ensures.read)

pub returns-in-Err-clause-read : goal.returns-in-Err-clause-read
returns-in-Err-clause-read g c = read_until _ _ _ _ c.in-Err.why (c.silent-in-Err.ensures.answer ∙ c.file_answer.ensures) c.in-Err.ensures.read_until
