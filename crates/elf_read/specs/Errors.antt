-- The numbers that refusals are printed with.
use Rattle.std.specs.Prelude.{ℕ}
use Rattle.elf_read.specs.declared.error.ElfError.{ElfError}
use Rattle.elf_read.specs.declared.error.ElfError.TheVariants.{Short, BadMagic, NotClass64, NotLittle, NotRelocatable, NotRiscv, BadFlags, BadTable, BadSymbol, BadLink, Overlap, NotBuilt, NoMemory}

abbrev pub error_number : ElfError → ℕ
error_number (Short place) = 1
error_number BadMagic = 2
error_number NotClass64 = 3
error_number NotLittle = 4
error_number NotRelocatable = 5
error_number NotRiscv = 6
error_number (BadFlags flags) = 7
error_number (BadTable section) = 8
error_number (BadSymbol symbol) = 9
error_number (BadLink section) = 10
error_number (Overlap section) = 11
error_number (NotBuilt refused) = 12
error_number NoMemory = 13
