-- Two sessions of one history that ended alike are answered alike.
use Rattle.std.proofs.Common.{◌≡◌, ◌≢◌, ℕ, true, List, [], refl, sym, ap, ◌∙◌, subst}
use Rattle.code_memory.specs.Mapped.{byte_at}
use Rattle.code_memory.specs.declared.image.Segment.{Segment}
use Rattle.session_model.specs.Meaning.{Meaning}
use Rattle.session_model.specs.declared.entry.Entry.{Entry}
use Rattle.exec_run.specs.Run.{RunsTo, start}
use Rattle.exec_run.proofs.Runs.{runs_same}
use Rattle.command_line.specs.Words.{Request}
use Rattle.run_laws.specs.Ended.{is_whole}
use Rattle.run_laws.specs.declared.linked.Linked.{Linked}
use Rattle.run_laws.specs.declared.linked.Linked.TheVariants as linked
use Rattle.one_log.specs.Beginnings.{EndAlike}
use Rattle.answers.specs.declared.answer.Answer.{Answer}
use Rattle.answers.specs.declared.answer.Answer.TheVariants.{JournalFull, Missing, DefineRefused}
use Rattle.run_answers.specs.Lost.{lost_answer}
use Rattle.run_answers.specs.Sessions.{HasRun, IsAnswerOf, IsFileOf, Ran, NoEntry, NotReady, NotDefined, NoPlace, answer_of}
use Rattle.run_answers.proofs.Words.{one_file}

-- an answer that isn't a full journal's is that of a run that wasn't stopped
pub not_stopped : (run : Request) (h : List (Entry Meaning)) (end : Linked) (answer : Answer) (output : List ℕ) → IsAnswerOf run h end answer output → ((len : ℕ) → answer ≢ JournalFull len) → is_whole end ≡ true
not_stopped run h _ answer output (Ran address memory a text has) roomy = refl
not_stopped run h _ answer output NoEntry roomy = refl
not_stopped run h _ answer output (NotReady i some) roomy = refl
not_stopped run h _ answer output (NotDefined word file is) roomy = refl
not_stopped run h _ answer output (NoPlace len) roomy = absurd (roomy len refl)

-- what the answer is, by the end
abbrev AnswersAs : Request → List (Entry Meaning) → Linked → Answer → List ℕ → Type 0
AnswersAs run h (linked.Found address memory) answer output = HasRun address memory run.fuel answer output
AnswersAs run h linked.Missing answer output = (answer ≡ Missing run.entry) × (output ≡ [])
AnswersAs run h (linked.Failed i) answer output = (answer ≡ lost_answer h i) × (output ≡ [])
AnswersAs run h (linked.Refused word) answer output = (file : ℕ) × IsFileOf run.files word file × (answer ≡ DefineRefused file) × (output ≡ [])
AnswersAs run h (linked.Stopped st) answer output = Unit {0}

answers_as : (run : Request) (h : List (Entry Meaning)) (end : Linked) (answer : Answer) (output : List ℕ) → IsAnswerOf run h end answer output → AnswersAs run h end answer output
answers_as run h _ answer output (Ran address memory a text has) = has
answers_as run h _ answer output NoEntry = (refl, refl)
answers_as run h _ answer output (NotReady i some) = (refl, refl)
answers_as run h _ answer output (NotDefined word file is) = (file, is, refl, refl)
answers_as run h _ answer output (NoPlace len) = tt

run_same : (address other : ℕ) (memory image : List Segment) (fuel : ℕ) (a b : Answer) (out text : List ℕ) → address ≡ other → byte_at memory ≡ byte_at image → HasRun address memory fuel a out → HasRun other image fuel b text → (a ≡ b) × (out ≡ text)
run_same address other memory image fuel a b out text at bytes p q =
    let moved = subst (λ n. RunsTo (byte_at memory) n [] fuel p.0 out) at p.1 in
    let one = runs_same fuel (start (byte_at image) other []) p.0 q.0 out text (subst (λ m. RunsTo m other [] fuel p.0 out) bytes moved) q.1 in
    (p.2 ∙ (ap answer_of one.0 ∙ sym q.2), one.1)

as_same : (run : Request) (h : List (Entry Meaning)) (end last : Linked) (a b : Answer) (out text : List ℕ) → EndAlike end last → AnswersAs run h end a out → AnswersAs run h last b text → (a ≡ b) × (out ≡ text)
as_same run h (linked.Found address memory) (linked.Found other image) a b out text e p q = run_same address other memory image run.fuel a b out text e.0 e.1 p q
as_same run h linked.Missing linked.Missing a b out text e p q = (p.0 ∙ sym q.0, p.1 ∙ sym q.1)
as_same run h (linked.Failed i) (linked.Failed j) a b out text e p q = (p.0 ∙ (ap (lost_answer h) e ∙ sym q.0), p.1 ∙ sym q.1)
as_same run h (linked.Refused k) (linked.Refused j) a b out text e p q =
    (p.2 ∙ (ap DefineRefused (one_file run.files j p.0 q.0 (subst (λ n. IsFileOf run.files n p.0) e p.1) q.1) ∙ sym q.2), p.3 ∙ sym q.3)
as_same run h _ _ a b out text e p q = absurd e

pub answers_same : (run : Request) (h : List (Entry Meaning)) (end last : Linked) (a b : Answer) (out text : List ℕ) → EndAlike end last → IsAnswerOf run h end a out → IsAnswerOf run h last b text → (a ≡ b) × (out ≡ text)
answers_same run h end last a b out text e p q = as_same run h end last a b out text e (answers_as run h end a out p) (answers_as run h last b text q)
