use Rattle.std.proofs.Common.{◌<◌, ◌||◌, length, sym, ap, ◌∙◌, arith}
use Rattle.elf_read.specs.declared.fields.SectionHeader.{SectionHeader}
use Rattle.elf_read.specs.Index.{within, is_owned}
use Rattle.elf_read.proofs.Ranges.{is_owned-skip, is_owned-take, takes-inside, overlap-true, overlap-none, overlap-empty}
use Rattle.elf_read.proofs.overlaps.check_overlap.Goals as goal

pub returns-then-not-takes-clause-agrees : goal.returns-then-not-takes-clause-agrees
returns-then-not-takes-clause-agrees c = overlap-empty c.args.table.now c.args.i (sym c.takes.ensures ∙ c.if-not-takes.true)

pub returns-then-not-takes-clause-owned : goal.returns-then-not-takes-clause-owned
returns-then-not-takes-clause-owned c = λ k lt. c.requires.owned k lt ∙ sym (is_owned-skip c.args.table.now c.args.i k (sym c.takes.ensures ∙ c.if-not-takes.true))

pub is_free-requires : goal.is_free-requires
is_free-requires c = rw (c.section-section.ensures, c.requires.len) (takes-inside c.args.table.now c.args.i c.requires.inside (sym c.takes.ensures ∙ c.if-not-takes.false))

pub take-requires : goal.take-requires
take-requires c = rw (c.section-section.ensures, c.requires.len) (takes-inside c.args.table.now c.args.i c.requires.inside (sym c.takes.ensures ∙ c.if-not-takes.false))

pub returns-then-not-is_free-clause-agrees : goal.returns-then-not-is_free-clause-agrees
returns-then-not-is_free-clause-agrees c =
    let taking = sym c.takes.ensures ∙ c.if-not-takes.false in
    let file_end = takes-inside c.args.table.now c.args.i c.requires.inside taking in
    let x = rw c.section-section.ensures at c.if-not-is_free.ensures in
    let lt : x.0 < length c.args.taken.now = omega (arith, file_end, c.requires.len, x.2) in
    overlap-true c.args.table.now c.args.i x.0 taking x.1 x.2 (sym (c.requires.owned x.0 lt) ∙ x.3)

pub returns-clause-agrees : goal.returns-clause-agrees
returns-clause-agrees c =
    let taking = sym c.takes.ensures ∙ c.if-not-takes.false in
    let file_end = takes-inside c.args.table.now c.args.i c.requires.inside taking in
    let free = rw c.section-section.ensures at c.if-not-is_free.ensures in
    overlap-none c.args.table.now c.args.i (omega (arith, c.requires.number))
    (λ k low high. (let lt : k < length c.args.taken.now = omega (arith, file_end, c.requires.len, high) in sym (c.requires.owned k lt) ∙ free k low high))
    taking

pub returns-clause-owned : goal.returns-clause-owned
returns-clause-owned c = λ k lt.
    let old : k < length c.args.taken.now = omega arith in
    let taking = sym c.takes.ensures ∙ c.if-not-takes.false in
    c.take.ensures k old
    ∙ ap (λ b. b || within c.section-section.result.offset c.section-section.result.size k) (c.requires.owned k old)
    ∙ ap (λ (s : SectionHeader). is_owned c.args.table.now c.args.i k || within s.offset s.size k) c.section-section.ensures
    ∙ sym (is_owned-take c.args.table.now c.args.i k taking)
