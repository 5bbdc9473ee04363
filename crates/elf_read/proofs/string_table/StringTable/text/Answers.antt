use Rattle.std.proofs.Common.{ℕ, ◌-◌, List, take, drop, Some, sym, ap, ◌∙◌}
use Rattle.elf_read.proofs.Texts.{text-ends, text-none}
use Rattle.elf_read.proofs.string_table.StringTable.text.Goals as goal

pub returns-in_err-end : goal.returns-in_err-end
returns-in_err-end c = rw c.from_residual.ensures (text-none c.args.self.now c.args.at c.in_err-end.ensures)

pub returns : goal.returns
returns c =
    text-ends c.args.self.now c.args.at c.in_ok-end.end c.in_ok-end.ensures
    ∙ ap (λ (bytes : List ℕ). Some (take (c.in_ok-end.end - c.args.at) (drop c.args.at bytes))) (sym c.self.view_is)
