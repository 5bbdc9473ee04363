use Rattle.std.proofs.Common.{ℕ, ◌-◌, ◌+◌, ◌%◌, List, take, sym, ap, ◌∙◌, subst, MatchOption}
use Rattle.std.specs.List.{position}
use Rattle.elf_read.specs.Index.{IsEnd, HasNoEnd}
use Rattle.elf_read.proofs.Ends.{end-near, no_end-near, end-next}
use Rattle.elf_read.proofs.Texts.{is_zero}
use Rattle.elf_read.proofs.string_table.StringTable.end.Goals as goal

pub returns-in-Some : goal.returns-in-Some
returns-in-Some c =
    subst (λ (bytes : List ℕ). IsEnd bytes c.args.at (c.args.at + c.in-Some.n)) c.self.view_is
    (end-near c.self.inside.bytes.now c.args.at (64 - c.args.at % 64) c.in-Some.n
    (sym c.in-Some.is ∙ c.first_zero.ensures.exact ∙ ap (λ (xs : List ℕ). position is_zero xs) (c.first_bytes.ensures ∙ ap (take (64 - c.args.at % 64)) c.bytes_from.ensures)))

pub returns-in-None : goal.returns-in-None
returns-in-None c =
    subst (λ (bytes : List ℕ). MatchOption c.copied.result (HasNoEnd bytes c.args.at) (λ end. IsEnd bytes c.args.at end)) c.self.view_is
    (rw c.copied.ensures
    (end-next c.self.inside.bytes.now c.self.inside.ends.items c.args.at c.get.result c.self.invariant
    (no_end-near c.self.inside.bytes.now c.args.at (64 - c.args.at % 64)
    (sym c.in-None.is ∙ c.first_zero.ensures.exact ∙ ap (λ (xs : List ℕ). position is_zero xs) (c.first_bytes.ensures ∙ ap (take (64 - c.args.at % 64)) c.bytes_from.ensures)))
    (rw c.deref.ensures.value at c.get.ensures.lookup)))
