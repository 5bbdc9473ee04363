use Rattle.std.proofs.Common.{◌≡◌, ◌<◌, false, length, get_or, refl, ap, ◌∙◌, arith}
use Rattle.std.proofs.lemmas.List.{length-replicate, get_or-replicate}
use Rattle.elf_read.proofs.Ranges.{is_owned-first}
use Rattle.elf_read.proofs.overlaps.check_parts.Goals as goal

pub check_each-requires-clause-owned : goal.check_each-requires-clause-owned
check_each-requires-clause-owned c = λ k lt.
    let len : length c.args.taken.now ≡ length c.args.table.now.bytes = ap length c.requires.none ∙ length-replicate (length c.args.table.now.bytes) false in
    let mid : k < length c.take.new.taken = omega arith in
    let old : k < length c.args.taken.now = omega arith in
    let bytes : k < length c.args.table.now.bytes = omega (arith, len) in
    is_owned-first c.args.table.now k (get_or c.args.taken.now k false) (get_or c.take.new.taken k false) (get_or c.take-2.new.taken k false)
    (ap (λ xs. get_or xs k false) c.requires.none ∙ get_or-replicate (length c.args.table.now.bytes) k false false bytes)
    (c.take.ensures k old)
    (c.take-2.ensures k mid ∙ rw (c.place-place.ensures.place, c.count.ensures) refl)
