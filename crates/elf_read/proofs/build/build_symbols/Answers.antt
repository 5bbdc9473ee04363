use Rattle.std.proofs.Common.{◌∙◌}
use Rattle.elf_read.proofs.Builds.{symbols-more}
use Rattle.elf_read.proofs.build.build_symbols.Goals as goal

pub loop-j-preserved : goal.loop-j-preserved
loop-j-preserved c =
    c.in_ok-push.ensures.items ∙ symbols-more c.args.table.now c.loop-j.j c.loop-j.items.items c.in_ok-build_symbol.field-0 c.loop-j.invariant c.in_ok-build_symbol.ensures
