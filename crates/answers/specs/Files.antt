-- What a file that isn't taken in answers.
use Rattle.object_files.specs.declared.error.LoadError.{LoadError}
use Rattle.object_files.specs.declared.error.LoadError.TheVariants as load
use Rattle.answers.specs.declared.answer.Answer.{Answer}
use Rattle.answers.specs.declared.answer.Answer.TheVariants.{FileFault, NoMemory, ObjectRefused, TooLong}

abbrev pub file_answer : LoadError → Answer
file_answer (load.Fault k) = FileFault k
file_answer (load.TooLong k) = TooLong k
file_answer (load.Refused k why) = ObjectRefused k why
file_answer load.NoMemory = NoMemory

-- one of these comes by what the files hold alone
abbrev pub IsOfContents : LoadError → Type 0
IsOfContents (load.Fault k) = ⊥
IsOfContents (load.TooLong k) = Unit {0}
IsOfContents (load.Refused k why) = Unit {0}
IsOfContents load.NoMemory = ⊥
