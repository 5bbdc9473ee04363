-- The exit status of each answer.
use Rattle.std.specs.Prelude.{ℕ, ◌%◌}
use Rattle.answers.specs.declared.answer.Answer.{Answer}
use Rattle.answers.specs.declared.answer.Answer.TheVariants.{Done, Exited, Usage, ReadFault, FileFault, WriteFault, ScriptRefused, ObjectRefused, TooLong, Missing, LinkRefused, DepFailed, Trap, OutOfFuel, OutputFull, JournalFull, NoMemory, DefineRefused, AsmRefused}

abbrev pub status_of : Answer → ℕ
status_of Done = 0
status_of (Exited code) = code % 256
status_of (Usage _) = 100
status_of ReadFault = 101
status_of (FileFault _) = 102
status_of WriteFault = 103
status_of (ScriptRefused _ _) = 104
status_of (ObjectRefused _ _) = 105
status_of (TooLong _) = 106
status_of (Missing _) = 107
status_of (LinkRefused _ _ _) = 108
status_of (DepFailed _) = 109
status_of (Trap _ _) = 110
status_of OutOfFuel = 111
status_of OutputFull = 112
status_of (JournalFull _) = 113
status_of NoMemory = 114
status_of (AsmRefused _ _) = 115
status_of (DefineRefused _) = 116
