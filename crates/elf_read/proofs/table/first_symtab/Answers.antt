use Rattle.std.proofs.Common.{◌≡◌, refl, sym, arith}
use Rattle.std.proofs.lemmas.Bool.{ne_eqb, eq-eqb}
use Rattle.elf_read.specs.Choice.{first_below}
use Rattle.elf_read.specs.Gabi.{sht_symtab}
use Rattle.elf_read.specs.Sections.{symtab_of}
use Rattle.elf_read.proofs.Firsts.{first_below-more, first_below-found}
use Rattle.elf_read.proofs.Tables.{symtab_here, when-false, when-true}
use Rattle.elf_read.proofs.table.first_symtab.Goals as goal

pub loop-i-init : goal.loop-i-init
unfolding first_below
loop-i-init c = refl

pub loop-i-preserved : goal.loop-i-preserved
loop-i-preserved c =
    first_below-more c.loop-i.i (symtab_here c.args.file.now) c.loop-i.invariant
    (rw (← c.section.ensures) (when-false _ c.loop-i.i (ne_eqb c.section.result.kind sht_symtab c.if-section-eq-SHT_SYMTAB.false)))

pub returns-then-section-eq-SHT_SYMTAB : goal.returns-then-section-eq-SHT_SYMTAB
unfolding symtab_of
returns-then-section-eq-SHT_SYMTAB c = sym (
    first_below-found c.args.file.now.count c.loop-i.i (symtab_here c.args.file.now) c.loop-i.i c.loop-i.invariant
    (rw (← c.section.ensures) (when-true _ c.loop-i.i (eq-eqb c.section.result.kind sht_symtab c.if-section-eq-SHT_SYMTAB.true)))
    (omega (arith, c.count-i-end.ensures)))

pub returns : goal.returns
unfolding symtab_of
returns c =
    let whole : c.loop-i.i ≡ c.args.file.now.count = omega (arith, c.count-i-end.ensures) in
    sym (rw whole at c.loop-i.invariant)
