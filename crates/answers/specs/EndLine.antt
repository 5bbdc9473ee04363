-- The end line of each answer: the last line of the log.
use Rattle.std.specs.Prelude.{ℕ, List, [], ◌∷◌, ◌++◌, codes}
use Rattle.std.specs.Fmt.{decimal}
use Rattle.asm_lines.specs.declared.statement.AsmWhy.{AsmWhy}
use Rattle.asm_lines.specs.declared.statement.AsmWhy.TheVariants as asm_why
use Rattle.elf_read.specs.declared.error.ElfError.{ElfError}
use Rattle.elf_read.specs.declared.error.ElfError.TheVariants.{Short, BadMagic, NotClass64, NotLittle, NotRelocatable, NotRiscv, BadFlags, BadTable, BadSymbol, BadLink, Overlap, NotBuilt, NoMemory as ElfNoMemory}
use Rattle.elf_read.specs.declared.error.NotBuiltKind.{NotBuiltKind}
use Rattle.elf_read.specs.declared.error.NotBuiltKind.TheVariants.{Group, Rel, Tls, Compressed, SectionKind, Xindex, Bind}
use Rattle.link_graph.specs.declared.error.GraphError.{GraphError}
use Rattle.link_graph.specs.declared.error.GraphError.TheVariants.{UnknownReloc, RelocOutside, TlsOrIfunc, BadPair, NeedsAlign, TooMany, NoMemory as GraphNoMemory}
use Rattle.exec_run.specs.declared.ran.RunEnd.TheVariants as end
use Rattle.text_parts.specs.Places.{place_text, edge_text}
use Rattle.exec_run.specs.RunEnds.{run_end_text}
use Rattle.command_line.specs.declared.error.UsageKind.{UsageKind}
use Rattle.command_line.specs.declared.error.UsageKind.TheVariants.{NoCommand, UnknownCommand, BadWords, BadNumber}
use Rattle.object_files.specs.declared.error.ObjectWhy.{ObjectWhy}
use Rattle.object_files.specs.declared.error.ObjectWhy.TheVariants.{Elf, Graph}
use Rattle.session_script.specs.Refused.{why_word}
use Rattle.answers.specs.declared.answer.Answer.{Answer}
use Rattle.answers.specs.declared.answer.Answer.TheVariants.{Done, Exited, Usage, ReadFault, FileFault, WriteFault, ScriptRefused, ObjectRefused, TooLong, Missing, LinkRefused, DepFailed, Trap, OutOfFuel, OutputFull, JournalFull, NoMemory, DefineRefused, AsmRefused}

abbrev pub usage_text : UsageKind → List ℕ
usage_text NoCommand = codes "no command"
usage_text UnknownCommand = codes "unknown command"
usage_text BadWords = codes "bad words"
usage_text BadNumber = codes "bad number"

abbrev pub asm_why_text : AsmWhy → List ℕ
asm_why_text asm_why.Label = codes "label"
asm_why_text asm_why.Word = codes "word"
asm_why_text asm_why.Operands = codes "operands"
asm_why_text asm_why.Number = codes "number"
asm_why_text asm_why.Name = codes "name"
asm_why_text asm_why.Section = codes "section"

abbrev pub kind_text : NotBuiltKind → List ℕ
kind_text Group = codes "group"
kind_text Rel = codes "rel"
kind_text Tls = codes "tls"
kind_text Compressed = codes "compressed"
kind_text SectionKind = codes "sectionkind"
kind_text Xindex = codes "xindex"
kind_text Bind = codes "bind"

abbrev pub elf_text : ElfError → List ℕ
elf_text (Short place) = codes "e1 " ++ decimal place
elf_text BadMagic = codes "e2"
elf_text NotClass64 = codes "e3"
elf_text NotLittle = codes "e4"
elf_text NotRelocatable = codes "e5"
elf_text NotRiscv = codes "e6"
elf_text (BadFlags flags) = codes "e7 " ++ decimal flags
elf_text (BadTable section) = codes "e8 " ++ decimal section
elf_text (BadSymbol symbol) = codes "e9 " ++ decimal symbol
elf_text (BadLink section) = codes "e10 " ++ decimal section
elf_text (Overlap section) = codes "e11 " ++ decimal section
elf_text (NotBuilt kind) = codes "e12 " ++ kind_text kind
elf_text ElfNoMemory = codes "e13"

abbrev pub graph_text : GraphError → List ℕ
graph_text (UnknownReloc kind place) = codes "g1 " ++ decimal kind ++ codes " " ++ place_text place
graph_text (RelocOutside place) = codes "g2 " ++ place_text place
graph_text (TlsOrIfunc symbol) = codes "g3 " ++ decimal symbol
graph_text (BadPair place) = codes "g4 " ++ place_text place
graph_text (NeedsAlign place) = codes "g5 " ++ place_text place
graph_text TooMany = codes "g6"
graph_text GraphNoMemory = codes "g7"

abbrev pub why_text : ObjectWhy → List ℕ
why_text (Elf error) = elf_text error
why_text (Graph error) = graph_text error

abbrev pub answer_text : Answer → List ℕ
answer_text Done = codes "done"
answer_text (Exited code) = run_end_text (end.Exited code)
answer_text (Usage kind) = codes "usage " ++ usage_text kind
answer_text ReadFault = codes "read fault"
answer_text (FileFault file) = codes "file fault " ++ decimal file
answer_text WriteFault = codes "write fault"
answer_text (ScriptRefused line why) = codes "script refused " ++ decimal line ++ codes " " ++ why_word why
answer_text (ObjectRefused file why) = codes "object refused " ++ decimal file ++ codes " " ++ why_text why
answer_text (TooLong file) = codes "too long " ++ decimal file
answer_text (Missing name) = codes "missing " ++ name
answer_text (Trap pc cause) = run_end_text (end.Trap pc cause)
answer_text (LinkRefused place kind v) = codes "link refused " ++ edge_text place kind v
answer_text (DepFailed i) = codes "dep failed i" ++ decimal i.0
answer_text OutOfFuel = run_end_text end.OutOfFuel
answer_text OutputFull = run_end_text end.OutputFull
answer_text (JournalFull len) = codes "journal full " ++ decimal len
answer_text NoMemory = codes "no memory"
answer_text (DefineRefused file) = codes "define refused " ++ decimal file
answer_text (AsmRefused line why) = codes "asm refused " ++ decimal line ++ codes " " ++ asm_why_text why

-- the last line of the log; after a write that failed there is none
abbrev pub end_line_of : Answer → List ℕ
end_line_of WriteFault = []
end_line_of answer = codes "end " ++ answer_text answer ++ 10 ∷ []
