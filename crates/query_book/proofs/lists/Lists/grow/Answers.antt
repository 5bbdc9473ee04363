use Rattle.std.proofs.Common.{◌≡◌, ap, refl, sym, subst, ◌∙◌, ◌+◌, ◌≤◌, length, arith}
use Rattle.query_book.specs.Counts.{list_at, total}
use Rattle.query_book.specs.Lists.{walks, IsChained}
use Rattle.query_book.proofs.Walks.{grown_at, grown_total, walks_length}
use Rattle.query_book.proofs.Growing.{chained_more}
use Rattle.query_book.proofs.lists.Lists.grow.Goals as goal

pub returns-in_ok-resize-clause-lists : goal.returns-in_ok-resize-clause-lists
returns-in_ok-resize-clause-lists c = λ i.
    let past : length c.self.inside.firsts.items ≤ c.args.at + 1 = omega (arith, c.if-at-len.true, c.len.ensures, c.self.inside.firsts.ok.0) in
    grown_at c.self.inside.nodes.items c.self.inside.firsts.items c.resize.new.self.items c.args.self.now.lists (c.args.at + 1) _ i (ap (λ r. r.lists) c.self.view_is) c.in_ok-resize.ensures.items past

pub returns-in_ok-resize-clause-totals : goal.returns-in_ok-resize-clause-totals
returns-in_ok-resize-clause-totals c = λ k.
    let past : length c.self.inside.firsts.items ≤ c.args.at + 1 = omega (arith, c.if-at-len.true, c.len.ensures, c.self.inside.firsts.ok.0) in
    grown_total c.self.inside.nodes.items c.self.inside.firsts.items c.resize.new.self.items c.args.self.now.lists (c.args.at + 1) _ k (ap (λ r. r.lists) c.self.view_is) c.in_ok-resize.ensures.items past

pub returns-in_ok-resize-clause-there : goal.returns-in_ok-resize-clause-there
returns-in_ok-resize-clause-there c = omega (arith, walks_length c.self.inside.nodes.items c.resize.new.self.items, c.in_ok-resize.ensures.len, c.resize.new.self.ok.0)

pub returns-in_ok-resize-clause-more : goal.returns-in_ok-resize-clause-more
returns-in_ok-resize-clause-more c =
    let old : length c.args.self.now.lists ≡ length c.self.inside.firsts.items = ap (λ r. length r.lists) (sym c.self.view_is) ∙ walks_length c.self.inside.nodes.items c.self.inside.firsts.items in
    omega (arith, old, walks_length c.self.inside.nodes.items c.resize.new.self.items, c.in_ok-resize.ensures.len, c.resize.new.self.ok.0, c.if-at-len.true, c.len.ensures, c.self.inside.firsts.ok.0)

pub invariant_of-self : goal.invariant_of-self
invariant_of-self c =
    let past : length c.self.inside.firsts.items ≤ c.args.at + 1 = omega (arith, c.if-at-len.true, c.len.ensures, c.self.inside.firsts.ok.0) in
    chained_more c.self.inside.nodes.items c.self.inside.firsts.items c.resize.new.self.items (c.args.at + 1) _ c.self.invariant c.in_ok-resize.ensures.items past

pub invariant_of-self-in_err-resize : goal.invariant_of-self-in_err-resize
invariant_of-self-in_err-resize c = subst (λ l. IsChained c.self.inside.nodes.items l) (sym c.in_err-resize.ensures.items) c.self.invariant

pub returns-in_ok-resize-clause-spare : goal.returns-in_ok-resize-clause-spare
returns-in_ok-resize-clause-spare c = ap (λ r. r.spare) c.self.view_is

pub returns-in_err-resize-clause-spare : goal.returns-in_err-resize-clause-spare
returns-in_err-resize-clause-spare c = ap (λ r. r.spare) c.self.view_is

pub returns-in_err-resize-clause-more : goal.returns-in_err-resize-clause-more
returns-in_err-resize-clause-more c =
    let same : length (walks c.self.inside.nodes.items c.resize.new.self.items) ≡ length c.args.self.now.lists = ap (λ l. length (walks c.self.inside.nodes.items l)) c.in_err-resize.ensures.items ∙ ap (λ r. length r.lists) c.self.view_is in
    omega (arith, same)

pub returns-in_err-resize-clause-lists : goal.returns-in_err-resize-clause-lists
returns-in_err-resize-clause-lists c = λ i. ap (λ l. list_at (walks c.self.inside.nodes.items l) i) c.in_err-resize.ensures.items ∙ ap (λ r. list_at r.lists i) c.self.view_is

pub returns-in_err-resize-clause-totals : goal.returns-in_err-resize-clause-totals
returns-in_err-resize-clause-totals c = λ k. ap (λ l. total k (walks c.self.inside.nodes.items l)) c.in_err-resize.ensures.items ∙ ap (λ r. total k r.lists) c.self.view_is

pub returns-else-at-len-clause-there : goal.returns-else-at-len-clause-there
returns-else-at-len-clause-there c =
    let old : length c.args.self.now.lists ≡ length c.self.inside.firsts.items = ap (λ r. length r.lists) (sym c.self.view_is) ∙ walks_length c.self.inside.nodes.items c.self.inside.firsts.items in
    omega (arith, old, c.if-at-len.false, c.len.ensures, c.self.inside.firsts.ok.0)

pub returns-else-at-len-clause-more : goal.returns-else-at-len-clause-more
returns-else-at-len-clause-more c = omega arith

pub returns-else-at-len-clause-lists : goal.returns-else-at-len-clause-lists
returns-else-at-len-clause-lists c = λ i. refl

pub returns-else-at-len-clause-totals : goal.returns-else-at-len-clause-totals
returns-else-at-len-clause-totals c = λ k. refl

pub returns-else-at-len-clause-spare : goal.returns-else-at-len-clause-spare
returns-else-at-len-clause-spare c = refl
