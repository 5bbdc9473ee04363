use Rattle.std.proofs.Common.{true, false, refl, sym, ◌∙◌, arith}
use Rattle.elf_read.specs.Choice.{any_below}
use Rattle.elf_read.specs.Symbols.{reloc_count}
use Rattle.elf_read.proofs.Firsts.{any_below-more, any_below-found}
use Rattle.elf_read.proofs.RelocEntries.{bad_at, bad_is}
use Rattle.elf_read.proofs.relocs.names_no_symbol.Goals as goal

pub loop-k-init : goal.loop-k-init
unfolding any_below
loop-k-init c = refl

pub loop-k-preserved : goal.loop-k-preserved
loop-k-preserved c =
    any_below-more c.loop-k.k (bad_at c.args.table.now c.args.section.now) c.loop-k.invariant
    (bad_is c.args.table.now c.args.section.now c.loop-k.k c.symbol_count-count.result c.reloc.result false c.symbol_count-count.ensures c.reloc.ensures (sym c.is_no_symbol.ensures ∙ c.if-is_no_symbol.false))

pub returns-then-is_no_symbol : goal.returns-then-is_no_symbol
returns-then-is_no_symbol c = sym (
    any_below-found (reloc_count c.args.section.now) c.loop-k.k (bad_at c.args.table.now c.args.section.now)
    (bad_is c.args.table.now c.args.section.now c.loop-k.k c.symbol_count-count.result c.reloc.result true c.symbol_count-count.ensures c.reloc.ensures (sym c.is_no_symbol.ensures ∙ c.if-is_no_symbol.true))
    (omega arith))
