use Rattle.std.proofs.Common.{ap, ◌∙◌}
use Rattle.std.proofs.lemmas.List.Sorted.{IsNonDecreasingBy-from_sort}
use Rattle.query_book.specs.Counts.{count}
use Rattle.query_book.proofs.Marking.{marked_sorted, count_sorted, counted_once}
use Rattle.query_book.proofs.marks.Marks.sort.Goals as goal

pub invariant_of-self : goal.invariant_of-self
invariant_of-self c = rw c.sort_unstable.ensures.capacity (marked_sorted c.self.inside.marks.items c.self.inside.met.items c.sort_unstable.new.self.items _ c.self.invariant c.sort_unstable.ensures.permutation)

pub returns-clause-met : goal.returns-clause-met
returns-clause-met c = λ k. count_sorted k c.self.inside.met.items c.sort_unstable.new.self.items c.sort_unstable.ensures.permutation ∙ ap (λ m. count k m.met) c.self.view_is

pub returns-clause-once : goal.returns-clause-once
returns-clause-once c = λ k. counted_once c.self.inside.marks.items c.sort_unstable.new.self.items _ k (marked_sorted c.self.inside.marks.items c.self.inside.met.items c.sort_unstable.new.self.items _ c.self.invariant c.sort_unstable.ensures.permutation)

pub returns-clause-sorted : goal.returns-clause-sorted
returns-clause-sorted c = IsNonDecreasingBy-from_sort (λ x. x) c.sort_unstable.new.self.items c.sort_unstable.ensures.sorted
