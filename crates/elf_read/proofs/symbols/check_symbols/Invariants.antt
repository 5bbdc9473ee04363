use Rattle.std.proofs.Common.{◌≡◌, ℕ, List, None}
use Rattle.std.specs.List.{list_any}
use Rattle.std.specs.Str.{bytes_eq}
use Rattle.elf_read.specs.Choice.{first_below}
use Rattle.elf_read.specs.Symbols.{symbol_refusal, is_taken}
use Rattle.elf_read.proofs.symbols.check_symbols.Given as goal

abbrev pub invariant-loop-j : goal.invariant-loop-j
invariant-loop-j l = (first_below l.j (symbol_refusal l.table) ≡ None) × ((q : List ℕ) → list_any (bytes_eq q) l.names ≡ is_taken l.table l.j q)
