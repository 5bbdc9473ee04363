use Rattle.std.proofs.Common.{rules, sym, subst}
use Rattle.std.specs.List.Sorted.{IsNonDecreasingBy}
use Rattle.std.proofs.lemmas.List.Sorted.{IsNonDecreasingBy-from_sort_by_key}
use Rattle.elf_read.specs.declared.spans.Span.{Span}
use Rattle.elf_read.proofs.Apart.{apart-sorted}
use Rattle.elf_read.proofs.spans.lie_apart.Goals as goal

pub follow_one_another-requires : goal.follow_one_another-requires
follow_one_another-requires c =
    subst (IsNonDecreasingBy (λ (s : Span). s.start)) (sym c.as_slice.ensures.value)
    (IsNonDecreasingBy-from_sort_by_key (λ (s : Span). s.start) c.sort_unstable_by_key.new.self.items c.sort_unstable_by_key.ensures.sorted (λ a r q k. search rules))

pub returns : goal.returns
returns c = apart-sorted c.follow_one_another.result c.args.spans.items c.as_slice.result.now (rw c.as_slice.ensures.value c.sort_unstable_by_key.ensures.permutation) c.follow_one_another.ensures
