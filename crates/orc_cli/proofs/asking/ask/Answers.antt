use Rattle.std.proofs.Common.{◌≡◌, ◌∙◌, Ok, refl, ap, subst}
use Rattle.answers.specs.declared.answer.Answer.TheVariants.{Usage}
use Rattle.command_line.specs.Words.{Explains, asked_by, asked_of, request}
use Rattle.run_answers.specs.Answered.{in_words}
use Rattle.session_command.proofs.ReadingLemmas.{end_of_wanting, source_of_wanting}
use Rattle.object_files.proofs.Readings.{none_read}
use Rattle.orc_cli.proofs.Asked.{asked_nothing, asked_run}
use Rattle.orc_cli.proofs.Readings.{memory_before_script, memory_first, unasked_read}
use Rattle.orc_cli.proofs.asking.ask.Goals as goal

pub returns-in-Ok-Run-clause-run : goal.returns-in-Ok-Run-clause-run
returns-in-Ok-Run-clause-run g c asked asks =
    let words = asked_by c.args.words.now in
    let read = subst (λ command. words ≡ Ok (asked_of command)) c.in-Ok-Run.field-0-is c.in-Ok-Run.ensures.read in
    rw (c.untold.ensures.found, asked_run words (request c.in-Ok-Run.run') asked read asks) c.find_run-found.ensures.found

pub returns-in-Err-Usage-clause-run : goal.returns-in-Err-Usage-clause-run
returns-in-Err-Usage-clause-run g c asked asks =
    let words = asked_by c.args.words.now in
    let kind = c.in-Err-Usage.kind in
    let refused = subst (Explains words) c.in-Err-Usage.field-0-is c.in-Err-Usage.ensures.refused in
    let s = c.silent.ensures in
    rw c.untold-in-Err-Usage.ensures.found (in_words kind (asked_nothing words kind asked refused asks) (s.answer ∙ ap Usage c.in-Err-Usage.kind-is) s.output s.journal)

pub returns-in-Ok-Run-clause-run_read : goal.returns-in-Ok-Run-clause-run_read
returns-in-Ok-Run-clause-run_read g c asked asks =
    let words = asked_by c.args.words.now in
    let read = subst (λ command. words ≡ Ok (asked_of command)) c.in-Ok-Run.field-0-is c.in-Ok-Run.ensures.read in
    rw (c.untold.ensures.found, asked_run words (request c.in-Ok-Run.run') asked read asks) c.find_run-found.ensures.read

pub returns-in-Err-Usage-clause-run_read : goal.returns-in-Err-Usage-clause-run_read
returns-in-Err-Usage-clause-run_read g c asked asks =
    rw c.untold-in-Err-Usage.ensures.found (unasked_read _ c.in-Err-Usage.kind _ _ (c.silent.ensures.answer ∙ ap Usage c.in-Err-Usage.kind-is))

pub returns-in-Err-NoMemory-clause-run_read : goal.returns-in-Err-NoMemory-clause-run_read
returns-in-Err-NoMemory-clause-run_read g c asked asks = rw c.untold-in-Err-NoMemory.ensures.found (memory_first _ _ _ c.silent-in-Err-NoMemory.ensures.answer)

pub returns-in-Ok-Session-clause-session_read : goal.returns-in-Ok-Session-clause-session_read
returns-in-Ok-Session-clause-session_read g c workers asks = rw c.of_session.ensures.answer c.find_session-found.ensures.read

pub returns-in-Err-NoMemory-clause-session_read : goal.returns-in-Err-NoMemory-clause-session_read
returns-in-Err-NoMemory-clause-session_read g c workers asks = rw c.untold-in-Err-NoMemory.ensures.found (memory_before_script _ _ _ _ c.silent-in-Err-NoMemory.ensures.answer)

pub returns-in-Err-NoMemory-clause-source_read : goal.returns-in-Err-NoMemory-clause-source_read
returns-in-Err-NoMemory-clause-source_read g c workers asks = rw c.untold-in-Err-NoMemory.ensures.found (source_of_wanting _ _ _ c.silent-in-Err-NoMemory.ensures.answer refl)

pub returns-in-Err-NoMemory-clause-assembly_read : goal.returns-in-Err-NoMemory-clause-assembly_read
returns-in-Err-NoMemory-clause-assembly_read g c file asks = rw c.untold-in-Err-NoMemory.ensures.found (memory_first _ _ _ c.silent-in-Err-NoMemory.ensures.answer)

pub returns-in-Ok-Generation-clause-generation_read : goal.returns-in-Ok-Generation-clause-generation_read
returns-in-Ok-Generation-clause-generation_read g c objects asks = none_read _

pub returns-in-Err-NoMemory-clause-generation_read : goal.returns-in-Err-NoMemory-clause-generation_read
returns-in-Err-NoMemory-clause-generation_read g c objects asks = none_read _

pub returns-in-Err-NoMemory-clause-source_end : goal.returns-in-Err-NoMemory-clause-source_end
returns-in-Err-NoMemory-clause-source_end g c workers asks = rw c.untold-in-Err-NoMemory.ensures.found (end_of_wanting _ _ c.silent-in-Err-NoMemory.ensures.answer)
