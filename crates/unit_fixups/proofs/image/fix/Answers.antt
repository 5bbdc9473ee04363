use Rattle.std.proofs.Common.{◌≡◌, ℕ, List, length, slice_index, sym, ap, ◌∙◌, arith}
use Rattle.std.proofs.lemmas.List.{take-append-le, take_all}
use Rattle.unit_fixups.specs.Tables.{address_in}
use Rattle.unit_fixups.proofs.Inside.{placed_lies}
use Rattle.unit_fixups.proofs.Whole.{image_is}
use Rattle.unit_fixups.proofs.image.fix.Goals as goal

pub targets_of-requires-clause-lies : goal.targets_of-requires-clause-lies
targets_of-requires-clause-lies c = placed_lies c.args.g.now c.args.l.now c.args.base c.requires.placed

pub uppers-requires-clause-lies : goal.uppers-requires-clause-lies
uppers-requires-clause-lies c = placed_lies c.args.g.now c.args.l.now c.args.base c.requires.placed

pub raw_image-requires : goal.raw_image-requires
raw_image-requires c = placed_lies c.args.g.now c.args.l.now c.args.base c.requires.placed

pub write_all-requires-clause-lies : goal.write_all-requires-clause-lies
write_all-requires-clause-lies c = placed_lies c.args.g.now c.args.l.now c.args.base c.requires.placed

pub returns-clause-done : goal.returns-clause-done
returns-clause-done c =
    let count : c.in_ok-image.image.len ≡ length c.write_all.new.image = sym c.as_mut_slice.ensures.len ∙ sym c.write_all.auto.image in
    c.from_vec.ensures
    ∙ take-append-le c.in_ok-image.image.len c.write_all.new.image _ (omega (arith, count))
    ∙ take_all c.in_ok-image.image.len c.write_all.new.image (omega (arith, count))
    ∙ image_is c.args.g.now c.args.l.now c.args.base c.args.bound.now (address_in c.in_ok-targets.targets) c.write_all.new.image c.as_mut_slice.result.now c.in_ok-targets.ensures.told
    (c.write_all.auto.image ∙ ap (λ (xs : List ℕ). length xs) c.as_mut_slice.ensures.value ∙ c.in_ok-image.ensures.whole)
    (ap (λ (xs : List ℕ). slice_index xs) c.as_mut_slice.ensures.value ∙ c.in_ok-image.ensures.raw)
    c.in_ok-write_all.ensures.done
