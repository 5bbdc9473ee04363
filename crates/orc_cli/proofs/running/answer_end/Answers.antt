-- Each end is answered in its own way.
use Rattle.std.proofs.Common.{rules, sym, subst, ap, ◌∙◌}
use Rattle.std.specs.Prelude.{◌≢◌}
use Rattle.std.proofs.lemmas.Option.{slice_get-get_or}
use Rattle.command_line.specs.Words.{request}
use Rattle.session_model.specs.State.{plain_history}
use Rattle.run_answers.specs.Sessions.{IsWordOf}
use Rattle.answers.specs.declared.answer.Answer.TheVariants.{Missing, NoMemory}
use Rattle.orc_cli.proofs.EndAnswers.{ran_as, missing_as, lost_as, refused_as, full_as}
use Rattle.orc_cli.proofs.running.answer_end.Goals as goal
use Rattle.orc_cli.proofs.running.answer_end.Goals.{in-Missing+in_ok-copy_of-in-Missing, in-Failed+in_ok-answer-in-Failed, in-Refused, in-Stopped-JournalFull}

pub returns-in-Found : goal.returns-in-Found
returns-in-Found g c = ran_as (request c.args.words.now) (plain_history g.U.UnitKind.meaning c.args.journal.now) c.args.end c.in-Found.address c.in-Found.memory c.run_memory.result c.in-Found.is c.run_memory.ensures

pub returns : goal.returns
returns g c =
    let run = request c.args.words.now in
    let h = plain_history g.U.UnitKind.meaning c.args.journal.now in
    elim c.match-end.branch [
      | in-Missing+in_ok-copy_of-in-Missing w ↦ missing_as run h c.args.end c.match-end.answer c.new-output.result w.in-Missing.is (w.answer-is ∙ ap Missing (w.in_ok-copy_of-in-Missing.ensures ∙ w.as_bytes.ensures.value)) c.new-output.ensures
      | in-Failed+in_ok-answer-in-Failed w ↦ lost_as run h c.args.end w.in-Failed.instance c.match-end.answer c.new-output.result w.in-Failed.is (w.answer-is ∙ w.in_ok-answer-in-Failed.ensures.0) (subst (λ a. a ≢ NoMemory) (sym w.answer-is) w.in_ok-answer-in-Failed.ensures.1) c.new-output.ensures
      | in-Refused w ↦ refused_as run h c.args.end w.in-Refused.word _ c.args.files.now c.match-end.answer c.new-output.result c.requires.files w.in-Refused.is (slice_get-get_or c.args.files.now w.in-Refused.word _ (subst (IsWordOf c.args.files.now) w.in-Refused.is c.requires.refused)) w.answer-is c.new-output.ensures
      | in-Stopped-JournalFull w ↦ full_as run h c.args.end w.in-Stopped-JournalFull.len c.match-end.answer c.new-output.result (search rules) w.answer-is c.new-output.ensures
    ]
