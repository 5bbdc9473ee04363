use Rattle.std.proofs.Common.{◌≡◌, ℕ, List, [], length, take, drop, Option, unwrap_or, IfOk, sym, ap, ◌∙◌, subst}
use Rattle.elf_read.specs.declared.fields.SectionHeader.{SectionHeader}
use Rattle.elf_read.specs.File.{section}
use Rattle.elf_read.specs.Index.{section_strings}
use Rattle.elf_read.specs.Sections as want
use Rattle.elf_read.proofs.Texts.{lies-inside, text-range}
use Rattle.elf_read.proofs.build.section_name.Goals as goal

pub range-requires : goal.range-requires
unfolding want.section_name
range-requires c =
    let at : ℕ = (section c.args.table.now c.args.i).name in
    let strings : List ℕ = section_strings c.args.table.now in
    rw (c.section.ensures, c.requires) (lies-inside strings at (length c.in-Some.text.now) (text-range (drop at strings) c.in-Some.text.now c.in-Some.ensures).0)

pub returns-in-Some : goal.returns-in-Some
unfolding want.section_name
returns-in-Some c =
    let at : ℕ = (section c.args.table.now c.args.i).name in
    let strings : List ℕ = section_strings c.args.table.now in
    let len : ℕ = length c.in-Some.text.now in
    subst (λ (text : List ℕ). IfOk c.range.result (λ name. name ≡ text))
    (ap (λ (s : SectionHeader). take len (drop s.name c.args.names.now)) c.section.ensures
    ∙ ap (λ (names : List ℕ). take len (drop at names)) c.requires
    ∙ (text-range (drop at strings) c.in-Some.text.now c.in-Some.ensures).1
    ∙ sym (ap (λ (name : Option (List ℕ)). unwrap_or name []) c.in-Some.ensures))
    c.range.ensures
