use Rattle.std.proofs.Common.{drop, arith}
use Rattle.elf_read.specs.Index.{symbol_strings}
use Rattle.elf_read.specs.Symbols as want
use Rattle.elf_read.proofs.Texts.{cut-none, cut-short, cut-long}
use Rattle.elf_read.proofs.symbols.name_of.Goals as goal

pub returns-in_err-name : goal.returns-in_err-name
unfolding want.name_of
returns-in_err-name c = rw c.from_residual.ensures (cut-none 4097 (drop c.args.entry.now.name (symbol_strings c.args.table.now)) c.in_err-name.ensures)

pub returns-then-name-gt-LONGEST_NAME : goal.returns-then-name-gt-LONGEST_NAME
unfolding want.name_of
returns-then-name-gt-LONGEST_NAME c =
    cut-long 4097 (drop c.args.entry.now.name (symbol_strings c.args.table.now)) c.in_ok-name.name.now c.in_ok-name.ensures (omega (arith, c.if-name-gt-LONGEST_NAME.true))

pub returns : goal.returns
unfolding want.name_of
returns c =
    cut-short 4097 (drop c.args.entry.now.name (symbol_strings c.args.table.now)) c.in_ok-name.name.now c.in_ok-name.ensures (omega (arith, c.if-name-gt-LONGEST_NAME.false))
