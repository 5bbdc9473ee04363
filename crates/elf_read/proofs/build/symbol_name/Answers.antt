use Rattle.std.proofs.Common.{◌≡◌, ℕ, List, [], length, take, drop, Option, unwrap_or, IfOk, sym, ap, ◌∙◌, subst}
use Rattle.elf_read.specs.Index.{symbol_strings}
use Rattle.elf_read.specs.Symbols as want
use Rattle.elf_read.proofs.Texts.{lies-inside, cut-range}
use Rattle.elf_read.proofs.build.symbol_name.Goals as goal

pub range-requires : goal.range-requires
unfolding want.name_of
range-requires c =
    let at : ℕ = c.args.entry.now.name in
    let strings : List ℕ = symbol_strings c.args.table.now in
    rw c.requires (lies-inside strings at (length c.in-Some.text.now) (cut-range 4097 (drop at strings) c.in-Some.text.now c.in-Some.ensures).0)

pub returns-in-Some : goal.returns-in-Some
unfolding want.name_of
returns-in-Some c =
    let at : ℕ = c.args.entry.now.name in
    let strings : List ℕ = symbol_strings c.args.table.now in
    let len : ℕ = length c.in-Some.text.now in
    subst (λ (text : List ℕ). IfOk c.range.result (λ name. name ≡ text))
    (ap (λ (names : List ℕ). take len (drop at names)) c.requires
    ∙ (cut-range 4097 (drop at strings) c.in-Some.text.now c.in-Some.ensures).1
    ∙ sym (ap (λ (name : Option (List ℕ)). unwrap_or name []) c.in-Some.ensures))
    c.range.ensures
