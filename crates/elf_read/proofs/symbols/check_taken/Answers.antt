use Rattle.std.proofs.Common.{◌≡◌, ℕ, Bool, true, ◌||◌, List, sym, ap, ◌∙◌}
use Rattle.std.proofs.lemmas.Bool.{and_left, and_from, OnTrue_at, not-false}
use Rattle.std.specs.List.{list_any}
use Rattle.std.specs.Str.{bytes_eq}
use Rattle.elf_read.specs.declared.error.ElfError.TheVariants.{BadSymbol}
use Rattle.elf_read.specs.Symbols as want
use Rattle.elf_read.proofs.Tables.{when-false, when-true}
use Rattle.elf_read.proofs.Taken.{is_taken-local, is_taken-global}
use Rattle.elf_read.proofs.symbols.check_taken.Goals as goal

pub returns-then-not-is_global-clause-agrees : goal.returns-then-not-is_global-clause-agrees
returns-then-not-is_global-clause-agrees c = when-false _ (BadSymbol c.args.j) (and_left _ _ (sym c.is_global.ensures ∙ c.if-not-is_global.true))

pub returns-then-not-is_global-clause-names : goal.returns-then-not-is_global-clause-names
returns-then-not-is_global-clause-names c = λ q. c.requires.names q ∙ sym (is_taken-local c.args.table.now c.args.j q (sym c.is_global.ensures ∙ c.if-not-is_global.true))

pub returns-then-branch-clause-names : goal.returns-then-branch-clause-names
returns-then-branch-clause-names c = λ q.
    OnTrue_at c.if-branch.true c.in_ok-insert.ensures.grows q
    ∙ ap (λ (text : List ℕ). bytes_eq q text || list_any (bytes_eq q) c.args.names.now) c.symbol_name.ensures
    ∙ ap (λ (b : Bool). bytes_eq q (want.symbol_name c.args.table.now c.args.j) || b) (c.requires.names q)
    ∙ sym (is_taken-global c.args.table.now c.args.j q (sym c.is_global.ensures ∙ c.if-not-is_global.false))

pub returns-else-branch-clause-agrees : goal.returns-else-branch-clause-agrees
returns-else-branch-clause-agrees c =
    let taken : list_any (bytes_eq c.symbol_name.result.now) c.args.names.now ≡ true = not-false _ (sym c.in_ok-insert.ensures.is_new ∙ c.if-branch.false) in
    when-true _ (BadSymbol c.args.j) (and_from _ _ (sym c.is_global.ensures ∙ c.if-not-is_global.false)
    (ap (want.is_taken c.args.table.now c.args.j) (sym c.symbol_name.ensures) ∙ sym (c.requires.names c.symbol_name.result.now) ∙ taken))
