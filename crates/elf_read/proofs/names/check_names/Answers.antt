use Rattle.std.proofs.Common.{◌<◌, refl, arith}
use Rattle.std.proofs.lemmas.Result.{err_from_is_err_and}
use Rattle.elf_read.specs.Choice.{first_below}
use Rattle.elf_read.specs.Sections.{name_refusal}
use Rattle.elf_read.proofs.Firsts.{first_below-more, first_below-found}
use Rattle.elf_read.proofs.names.check_names.Goals as goal

pub loop-i-init : goal.loop-i-init
unfolding first_below
loop-i-init c = refl

pub loop-i-preserved : goal.loop-i-preserved
loop-i-preserved c = first_below-more c.loop-i.i (name_refusal c.args.table.now) c.loop-i.invariant c.in_ok-check_name.ensures

pub returns-in_err-check_name : goal.returns-in_err-check_name
returns-in_err-check_name c =
    let p = err_from_is_err_and c.from_residual.result c.from_residual.ensures.1 in
    let lt : c.loop-i.i < c.args.table.now.count = omega (arith) in
    rw (p.1, p.2) (first_below-found c.args.table.now.count c.loop-i.i (name_refusal c.args.table.now) c.in_err-check_name.field-0.0 c.loop-i.invariant c.in_err-check_name.ensures lt)
