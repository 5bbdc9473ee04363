-- The promise is kept by what was found and written.
use Rattle.command_line.specs.Words.{texts}
use Rattle.run_answers.proofs.Kept.{answers_are_kept}
use Rattle.session_command.proofs.Kept.{session_answers_are_kept}
use Rattle.as_command.proofs.Kept.{as_answers_are_kept}
use Rattle.gen_command.proofs.Kept.{gen_answers_are_kept}
use Rattle.answers.proofs.Reading.{finished_found}
use Rattle.orc_cli.proofs.Finished.{answered, never_full_at, without_journal}
use Rattle.orc_cli.proofs.top.orc_sized.Goals as goal

pub returns-clause-run : goal.returns-clause-run
returns-clause-run g c asked asks = answers_are_kept _ _ _ _ _ _ _ _ _ _ (answered _ _ _ _ _ _ _ _ _ _ _ _ _ (c.ask-found.ensures.run asked asks) c.write_found-answer.ensures.written)

pub returns-clause-never_full : goal.returns-clause-never_full
returns-clause-never_full g c e asked asks = never_full_at _ (texts c.args.words.now) asked asks _ _ _ _ _ _ _ _ (answered _ _ _ _ _ _ _ _ _ _ _ _ _ (c.ask-found.ensures.run asked asks) c.write_found-answer.ensures.written) e

pub returns-clause-session : goal.returns-clause-session
returns-clause-session g c workers asks = session_answers_are_kept g.N.Notify.heard g.N.Notify.number _ _ _ _ _ (c.ask-found.ensures.session workers asks) (c.ask-found.ensures.source_read workers asks) (c.ask-found.ensures.source_end workers asks)
    (without_journal _ _ _ _ _ _ _ _ (c.ask-found.ensures.session_log workers asks) c.write_found-answer.ensures.written)

pub returns-clause-assembly : goal.returns-clause-assembly
returns-clause-assembly g c file asks = as_answers_are_kept _ _ _ _ (c.ask-found.ensures.assembly file asks)
    (without_journal _ _ _ _ _ _ _ _ (c.ask-found.ensures.assembly_log file asks) c.write_found-answer.ensures.written)

pub returns-clause-generation : goal.returns-clause-generation
returns-clause-generation g c objects asks = gen_answers_are_kept _ _ _ _ _ (c.ask-found.ensures.generation objects asks)
    (without_journal _ _ _ _ _ _ _ _ (c.ask-found.ensures.generation_log objects asks) c.write_found-answer.ensures.written)

pub returns-clause-run_reads : goal.returns-clause-run_reads
returns-clause-run_reads g c asked asks = finished_found _ _ _ _ _ _ _ _ _ c.write_found-answer.ensures.written (c.ask-found.ensures.run_read asked asks)

pub returns-clause-session_reads : goal.returns-clause-session_reads
returns-clause-session_reads g c workers asks = finished_found _ _ _ _ _ _ _ _ _ c.write_found-answer.ensures.written (c.ask-found.ensures.session_read workers asks)

pub returns-clause-assembly_reads : goal.returns-clause-assembly_reads
returns-clause-assembly_reads g c file asks = finished_found _ _ _ _ _ _ _ _ _ c.write_found-answer.ensures.written (c.ask-found.ensures.assembly_read file asks)
