use Rattle.std.proofs.Common.{◌<◌, refl, arith}
use Rattle.std.proofs.lemmas.Result.{err_from_is_err_and}
use Rattle.elf_read.specs.Choice.{first_below}
use Rattle.elf_read.specs.Sections.{overlap_refusal}
use Rattle.elf_read.proofs.Firsts.{first_below-more, first_below-found}
use Rattle.elf_read.proofs.Ranges.{used-inside}
use Rattle.elf_read.proofs.overlaps.check_each.Goals as goal

pub loop-i-init : goal.loop-i-init
unfolding first_below
loop-i-init c = (refl, c.requires.owned)

pub check_overlap-requires-clause-inside : goal.check_overlap-requires-clause-inside
check_overlap-requires-clause-inside c = λ used. used-inside c.args.table.now c.loop-i.i c.requires.sections (omega arith) used

pub loop-i-preserved : goal.loop-i-preserved
loop-i-preserved c =
    (first_below-more c.loop-i.i (overlap_refusal c.args.table.now) c.loop-i.invariant.0 c.in_ok-check_overlap.ensures.agrees, c.in_ok-check_overlap.ensures.owned)

pub returns-in_err-check_overlap : goal.returns-in_err-check_overlap
returns-in_err-check_overlap c =
    let p = err_from_is_err_and c.from_residual.result c.from_residual.ensures.1 in
    let lt : c.loop-i.i < c.args.table.now.count = omega arith in
    rw (p.1, p.2) (first_below-found c.args.table.now.count c.loop-i.i (overlap_refusal c.args.table.now) c.in_err-check_overlap.field-0.0 c.loop-i.invariant.0 c.in_err-check_overlap.ensures.agrees lt)
