use Rattle.std.proofs.Common.{◌≡◌, ℕ, ◌==◌, ◌&&◌, get_or, Option, None, sym, ap, ◌∙◌, arith}
use Rattle.std.proofs.lemmas.List.FromFn.{fill_by_all}
use Rattle.std.proofs.lemmas.List.{length-replicate, get_or-replicate}
use Rattle.elf_read.specs.declared.fields.SectionHeader.{SectionHeader}
use Rattle.elf_read.specs.Choice.{when, ◌otherwise◌, first_below}
use Rattle.elf_read.specs.Gabi.{sht_rela}
use Rattle.elf_read.specs.Sections.{rela_of}
use Rattle.elf_read.proofs.Firsts.{first_below-next}
use Rattle.elf_read.proofs.Tables.{rela_here}
use Rattle.elf_read.proofs.table.note_relas.Goals as goal

pub loop-i-init : goal.loop-i-init
unfolding first_below
loop-i-init c = rw c.requires (length-replicate c.args.file.now.count None, λ k lt. get_or-replicate c.args.file.now.count k None None lt)

pub loop-i-preserved : goal.loop-i-preserved
loop-i-preserved c = (
  omega (arith, c.loop-i.invariant.0),
  λ k lt.
      c.note_rela.ensures k (omega (arith, c.loop-i.invariant.0))
      ∙ ap (λ (s : SectionHeader). get_or c.loop-i.relas k None otherwise when (s.kind == sht_rela && s.info == k) c.loop-i.i) c.section.ensures
      ∙ ap (λ (o : Option ℕ). o otherwise rela_here c.args.file.now k c.loop-i.i) (c.loop-i.invariant.1 k lt) ∙ sym (first_below-next c.loop-i.i (rela_here c.args.file.now k)),
)

pub returns : goal.returns
unfolding rela_of
returns c =
    let whole : c.loop-i.i ≡ c.args.file.now.count = omega (arith, c.count-i-end.ensures) in
    fill_by_all (rela_of c.args.file.now) c.loop-i.relas c.args.file.now.count None c.loop-i.invariant.0
    (λ k lt. rw whole at (c.loop-i.invariant.1 k lt))
