use Rattle.std.proofs.Common.{sym, ◌∙◌}
use Rattle.link_graph.proofs.NameNumbers.{adds_own}
use Rattle.link_graph.proofs.symbols.number_of.Goals as goal

pub returns-in_err-name-clause-only : goal.returns-in_err-name-clause-only
returns-in_err-name-clause-only c =
    adds_own c.args.names.now c.intern_name.new.names c.args.s.now (sym c.seen_by_others.ensures ∙ c.if-not-seen_by_others.false) (rw c.as_slice.ensures at c.intern_name.ensures.only)

pub returns-clause-only : goal.returns-clause-only
returns-clause-only c =
    adds_own c.args.names.now c.intern_name.new.names c.args.s.now (sym c.seen_by_others.ensures ∙ c.if-not-seen_by_others.false) (rw c.as_slice.ensures at c.intern_name.ensures.only)
