-- How a run ended, in words.
use Rattle.std.specs.Prelude.{List, ◌++◌, codes, ℕ}
use Rattle.std.specs.Fmt.{decimal}
use Rattle.rv_hart.specs.declared.step.Cause.{Cause}
use Rattle.rv_hart.specs.declared.step.Cause.TheVariants.{Fetch, Illegal, Misaligned, Load, Store, Break}
use Rattle.exec_run.specs.declared.ran.RunEnd.{RunEnd}
use Rattle.exec_run.specs.declared.ran.RunEnd.TheVariants.{Exited, Trap, OutOfFuel, OutputFull}
use Rattle.text_parts.specs.Hexadecimal.{hex}

-- why a hart couldn't do an instruction: with the word, or with the address
abbrev pub cause_text : Cause → List ℕ
cause_text Fetch = codes "fetch"
cause_text (Illegal word) = codes "illegal " ++ hex word
cause_text (Misaligned at) = codes "misaligned " ++ hex at
cause_text (Load at) = codes "load " ++ hex at
cause_text (Store at) = codes "store " ++ hex at
cause_text Break = codes "break"

abbrev pub run_end_text : RunEnd → List ℕ
run_end_text (Exited code) = codes "exited " ++ decimal code
run_end_text (Trap pc cause) = codes "trap " ++ hex pc ++ codes " " ++ cause_text cause
run_end_text OutOfFuel = codes "out of fuel"
run_end_text OutputFull = codes "output full"
