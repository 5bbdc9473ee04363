-- What the end of a program's session answers.
use Rattle.std.proofs.Common.{◌≡◌, ℕ, List, [], sym, subst, Some, Result, Ok, Err}
use Rattle.std.specs.Prelude.{◌≢◌, IfOk, slice_get}
use Rattle.orc_ids.specs.declared.ids.InstId.{InstId}
use Rattle.orc_ids.specs.declared.lookup.Stop.TheVariants as stop
use Rattle.code_memory.specs.declared.image.Segment.{Segment}
use Rattle.session_model.specs.Meaning.{Meaning}
use Rattle.session_model.specs.declared.entry.Entry.{Entry}
use Rattle.command_line.specs.Words.{Request}
use Rattle.object_files.specs.Files.{AreNumbered, distinct}
use Rattle.run_laws.specs.declared.linked.Linked.{Linked}
use Rattle.run_laws.specs.declared.linked.Linked.TheVariants as linked
use Rattle.run_answers.specs.Lost.{lost_answer}
use Rattle.run_answers.specs.Sessions.{HasRun, IsAnswerOf, Ran, NoEntry, NotReady, NotDefined, NoPlace}
use Rattle.answers.specs.declared.answer.Answer.{Answer}
use Rattle.answers.specs.declared.answer.Answer.TheVariants.{DefineRefused, JournalFull, Missing, NoMemory}
use Rattle.orc_cli.specs.declared.running.Answered.{Answered}
use Rattle.orc_cli.proofs.LoadedRuns.{word_file}

module _ (run : Request) (h : List (Entry Meaning)) (end : Linked) where
  pub ran_as : {E : Type 0} (address : ℕ) (memory : List Segment) (r : Result Answered E) → end ≡ linked.Found address memory → IfOk r (λ a. HasRun address memory run.fuel a.answer a.output) → IfOk r (λ a. IsAnswerOf run h end a.answer a.output)
  ran_as address memory (Ok a) is has = subst (λ x. IsAnswerOf run h x a.answer a.output) (sym is) (Ran address memory a.answer a.output has)
  ran_as address memory (Err e) is has = tt

  -- the answers without an output

  silent : (last : Linked) (of answer : Answer) (output : List ℕ) → end ≡ last → answer ≡ of → output ≡ [] → IsAnswerOf run h last of [] → IsAnswerOf run h end answer output
  silent last of answer output is e o i = subst (λ x. IsAnswerOf run h x answer output) (sym is) (subst (λ a. IsAnswerOf run h last a output) (sym e) (subst (IsAnswerOf run h last of) (sym o) i))

  pub missing_as : (answer : Answer) (output : List ℕ) → end ≡ linked.Missing → answer ≡ Missing run.entry → output ≡ [] → IsAnswerOf run h end answer output
  missing_as answer output is e o = silent linked.Missing (Missing run.entry) answer output is e o NoEntry

  pub lost_as : (i : InstId) (answer : Answer) (output : List ℕ) → end ≡ linked.Failed i → answer ≡ lost_answer h i → answer ≢ NoMemory → output ≡ [] → IsAnswerOf run h end answer output
  lost_as i answer output is e some o = silent (linked.Failed i) (lost_answer h i) answer output is e o (NotReady i (subst (λ a. a ≢ NoMemory) e some))

  pub refused_as : (word file : ℕ) (files : List ℕ) (answer : Answer) (output : List ℕ) → AreNumbered (distinct run.files) run.files files → end ≡ linked.Refused word → slice_get files word ≡ Some file → answer ≡ DefineRefused file → output ≡ [] → IsAnswerOf run h end answer output
  refused_as word file files answer output numbered is there e o = silent (linked.Refused word) (DefineRefused file) answer output is e o (NotDefined word file (word_file run.files files word file numbered there))

  pub full_as : (len : ℕ) (answer : Answer) (output : List ℕ) → end ≡ linked.Stopped (stop.JournalFull len) → answer ≡ JournalFull len → output ≡ [] → IsAnswerOf run h end answer output
  full_as len answer output is e o = silent (linked.Stopped (stop.JournalFull len)) (JournalFull len) answer output is e o (NoPlace len)
