use Rattle.std.proofs.Common.{◌≡◌, ◌<◌, Some, ap, sym, ◌∙◌, length, refl, set, arith}
use Rattle.std.specs.Prelude.{slice_get, option_and_then}
use Rattle.std.proofs.lemmas.Option.{slice_get_read, slice_get_within}
use Rattle.query_book.specs.Counts.{list_at}
use Rattle.query_book.specs.Lists.{walks}
use Rattle.query_book.proofs.Walks.{begins_at, walks_pop, walks_rest, walks_none, chained_pop, if_none}
use Rattle.query_book.proofs.lists.Lists.pop.Goals as goal

pub returns-in_err-node-clause-empty : goal.returns-in_err-node-clause-empty
returns-in_err-node-clause-empty c =
    if_none c.from_residual.result (ap (λ r. list_at r.lists c.args.at) (sym c.self.view_is)
    ∙ walks_none c.self.inside.nodes.items c.self.inside.firsts.items c.args.at (ap (λ fs. option_and_then (λ f. f) (slice_get fs c.args.at)) (sym c.deref.ensures.value) ∙ sym c.first_at.ensures ∙ c.in_err-node.was))

pub index_mut-requires : goal.index_mut-requires
index_mut-requires c =
    let first : slice_get c.self.inside.firsts.items c.args.at ≡ Some (Some c.in_ok-node.node) = begins_at c.self.inside.firsts.items c.args.at c.in_ok-node.node (ap (λ fs. option_and_then (λ f. f) (slice_get fs c.args.at)) (sym c.deref.ensures.value) ∙ sym c.first_at.ensures ∙ c.in_ok-node.was) in
    let less : c.args.at < length c.self.inside.firsts.items = slice_get_within c.self.inside.firsts.items c.args.at (Some c.in_ok-node.node) first in
    omega (arith, less, c.self.inside.firsts.ok.0)

pub invariant_of-self : goal.invariant_of-self
invariant_of-self c =
    let first : slice_get c.self.inside.firsts.items c.args.at ≡ Some (Some c.in_ok-node.node) = begins_at c.self.inside.firsts.items c.args.at c.in_ok-node.node (ap (λ fs. option_and_then (λ f. f) (slice_get fs c.args.at)) (sym c.deref.ensures.value) ∙ sym c.first_at.ensures ∙ c.in_ok-node.was) in
    let node : slice_get c.self.inside.nodes.items c.in_ok-node.node ≡ Some c.index.result.now = slice_get_read c.self.inside.nodes.items (length c.self.inside.nodes.items) c.in_ok-node.node c.index.result.now refl (c.self.invariant.begins c.args.at c.in_ok-node.node first) c.index.ensures in
    chained_pop c.self.inside.nodes.items c.self.inside.firsts.items c.args.at c.in_ok-node.node c.index.result.now c.self.invariant node

pub returns-clause-first : goal.returns-clause-first
returns-clause-first c =
    let first : slice_get c.self.inside.firsts.items c.args.at ≡ Some (Some c.in_ok-node.node) = begins_at c.self.inside.firsts.items c.args.at c.in_ok-node.node (ap (λ fs. option_and_then (λ f. f) (slice_get fs c.args.at)) (sym c.deref.ensures.value) ∙ sym c.first_at.ensures ∙ c.in_ok-node.was) in
    let node : slice_get c.self.inside.nodes.items c.in_ok-node.node ≡ Some c.index.result.now = slice_get_read c.self.inside.nodes.items (length c.self.inside.nodes.items) c.in_ok-node.node c.index.result.now refl (c.self.invariant.begins c.args.at c.in_ok-node.node first) c.index.ensures in
    ap (λ r. list_at r.lists c.args.at) (sym c.self.view_is) ∙ walks_pop c.self.inside.nodes.items c.self.inside.firsts.items c.args.at c.in_ok-node.node c.index.result.now c.self.invariant first node

pub returns-clause-others : goal.returns-clause-others
returns-clause-others c =
    let first : slice_get c.self.inside.firsts.items c.args.at ≡ Some (Some c.in_ok-node.node) = begins_at c.self.inside.firsts.items c.args.at c.in_ok-node.node (ap (λ fs. option_and_then (λ f. f) (slice_get fs c.args.at)) (sym c.deref.ensures.value) ∙ sym c.first_at.ensures ∙ c.in_ok-node.was) in
    walks_rest c.self.inside.nodes.items c.self.inside.firsts.items c.args.at c.index.result.now.next (slice_get_within c.self.inside.firsts.items c.args.at (Some c.in_ok-node.node) first)
    ∙ ap (λ ls. set ls c.args.at (list_at (walks c.self.inside.nodes.items (set c.self.inside.firsts.items c.args.at c.index.result.now.next)) c.args.at)) (ap (λ r. r.lists) c.self.view_is)
