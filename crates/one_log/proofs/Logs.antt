-- Calls that ask alike write one log.
use Rattle.std.proofs.Common.{◌≡◌, ℕ, ◌++◌, true, List, sym, ap, ap₂, ◌∙◌, subst, Option, Some}
use Rattle.orc_ids.specs.declared.ids.NameId.{NameId}
use Rattle.session_model.specs.Meaning.{Meaning}
use Rattle.session_model.specs.declared.entry.Entry.{Entry}
use Rattle.journal_text.specs.Journal.{text_of_history}
use Rattle.command_line.specs.Words.{Request}
use Rattle.object_files.specs.Files.{Told, distinct}
use Rattle.run_laws.specs.Ended.{IsRun, is_whole}
use Rattle.run_laws.specs.declared.linked.Linked.{Linked}
use Rattle.one_log.specs.Beginnings.{EndAlike}
use Rattle.one_log.proofs.One.{whole_runs_are_one}
use Rattle.answers.specs.EndLine.{end_line_of}
use Rattle.run_answers.specs.Sessions.{AreOfWords, IsAnswerOf, IsSession}
use Rattle.one_log.specs.Laws.{OneLog}
use Rattle.one_log.proofs.Answers.{answers_same, not_stopped}
use Rattle.one_log.proofs.Units.{same_Ok, same_files, same_name, same_words}

-- two sessions of one run
sessions_one : (jmax : ℕ) (told : Told) (contents : List ℕ → Option (List ℕ)) (run : Request) (names : List (List ℕ)) (h g : List (Entry Meaning)) (h_end g_end : Linked) → told ≡ Some contents → run.workers ≡ 0 →
    IsSession jmax told run names h h_end → IsSession jmax told run names g g_end → is_whole h_end ≡ true → is_whole g_end ≡ true → (h ≡ g) × EndAlike h_end g_end
sessions_one jmax told contents run names h g h_end g_end tell alone p q w v =
    whole_runs_are_one jmax p.main p.entry p.units h g h_end g_end (subst (λ k. IsRun jmax k p.main p.entry p.units h h_end) alone p.is_run) second w v
  where
    files : p.file_units ≡ q.file_units
    files = same_files told contents tell (distinct run.files) names p.file_units q.file_units p.loaded q.loaded

    units : p.units ≡ q.units
    units = same_words run.files p.file_units p.units q.units p.of_words (subst (λ us. AreOfWords run.files us q.units) (sym files) q.of_words)

    second : IsRun jmax 0 p.main p.entry p.units g g_end
    second = subst (λ (us : List Meaning). IsRun jmax 0 p.main p.entry us g g_end) (sym units)
        (subst (λ (n : NameId). IsRun jmax 0 p.main n q.units g g_end) (sym (same_name names run.entry p.entry q.entry p.entry_is q.entry_is))
        (subst (λ (n : NameId). IsRun jmax 0 n q.entry q.units g g_end) (sym (same_name names _ p.main q.main p.main_is q.main_is))
        (subst (λ k. IsRun jmax k q.main q.entry q.units g g_end) alone q.is_run)))

pub one_log : OneLog
one_log jmax c d a b p q alike = record {
  history = one.0;
  answer = same.0;
  output = same.1;
  log = ap₂ (λ names h. text_of_history names h ++ end_line_of a) alike.names one.0 ∙ ap (λ x. text_of_history q.names q.history ++ end_line_of x) same.0;
}
  where
    run : p.run ≡ q.run
    run = same_Ok p.run q.run c.asked p.asks (alike.asked ∙ q.asks)

    session : IsSession jmax c.told p.run p.names q.history q.end
    session = subst (λ t. IsSession jmax t p.run p.names q.history q.end) (sym alike.told)
        (subst (λ r. IsSession jmax d.told r p.names q.history q.end) (sym run) (subst (λ names. IsSession jmax d.told q.run names q.history q.end) (sym alike.names) q.session))

    one : (p.history ≡ q.history) × EndAlike p.end q.end
    one = sessions_one jmax c.told alike.tell.0 p.run p.names p.history q.history p.end q.end alike.tell.1 alike.alone p.session session
        (not_stopped p.run p.history p.end a p.output p.answers alike.first_roomy) (not_stopped q.run q.history q.end b q.output q.answers alike.second_roomy)

    answers : IsAnswerOf p.run p.history q.end b q.output
    answers = subst (λ r. IsAnswerOf r p.history q.end b q.output) (sym run) (subst (λ h. IsAnswerOf q.run h q.end b q.output) (sym one.0) q.answers)

    same : (a ≡ b) × (p.output ≡ q.output)
    same = answers_same p.run p.history p.end q.end a b p.output q.output one.1 p.answers answers
