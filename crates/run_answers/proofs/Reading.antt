-- Which files were read where a session was begun.
use Rattle.std.proofs.Common.{List, ℕ}
use Rattle.object_files.specs.Reads.{AreReadIn, Use}
use Rattle.answers.specs.Reads.{AreReadFor}
use Rattle.answers.specs.declared.answer.Answer.{Answer}
use Rattle.answers.specs.declared.answer.Answer.TheVariants.{AsmRefused, Done, Exited, Usage, ReadFault, FileFault, WriteFault, ScriptRefused, ObjectRefused, TooLong, Missing, LinkRefused, DepFailed, Trap, OutOfFuel, OutputFull, JournalFull, NoMemory, DefineRefused}
use Rattle.run_answers.specs.Clauses.{IsInSession}

pub read_in_session : (files : List (List ℕ)) (old new : Use) (answer : Answer) → IsInSession answer → AreReadIn files old new → AreReadFor files old new answer
read_in_session files old new Done i read = absurd i
read_in_session files old new (Exited code) i read = read
read_in_session files old new (Usage kind) i read = absurd i
read_in_session files old new ReadFault i read = absurd i
read_in_session files old new (FileFault k) i read = absurd i
read_in_session files old new WriteFault i read = absurd i
read_in_session files old new (ScriptRefused line why) i read = absurd i
read_in_session files old new (AsmRefused line why) i read = absurd i
read_in_session files old new (ObjectRefused k why) i read = absurd i
read_in_session files old new (TooLong k) i read = absurd i
read_in_session files old new (Missing name) i read = read
read_in_session files old new (LinkRefused place kind v) i read = read
read_in_session files old new (DepFailed j) i read = read
read_in_session files old new (Trap pc cause) i read = read
read_in_session files old new OutOfFuel i read = read
read_in_session files old new OutputFull i read = read
read_in_session files old new (JournalFull len) i read = read
read_in_session files old new NoMemory i read = absurd i
read_in_session files old new (DefineRefused file) i read = read
