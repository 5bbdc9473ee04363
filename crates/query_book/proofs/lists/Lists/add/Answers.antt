use Rattle.std.proofs.Common.{◌≡◌, ◌<◌, ◌∙◌, length, refl, ap, sym, arith}
use Rattle.std.proofs.lemmas.Option.{slice_get_read}
use Rattle.query_book.specs.Lists.{walks}
use Rattle.query_book.proofs.Walks.{walks_added, walks_length}
use Rattle.query_book.proofs.Growing.{chained_add}
use Rattle.query_book.proofs.lists.Lists.add.Goals as goal

pub returns-clause-added : goal.returns-clause-added
returns-clause-added c =
    let v : walks c.self.inside.nodes.items c.self.inside.firsts.items ≡ c.args.self.now.lists = ap (λ r. r.lists) c.self.view_is in
    let n : length c.args.self.now.lists ≡ length c.self.inside.firsts.items = ap length (sym v) ∙ walks_length c.self.inside.nodes.items c.self.inside.firsts.items in
    let less : c.args.at < length c.self.inside.firsts.items = omega (arith, c.requires.there, n) in
    walks_added c.self.inside.nodes.items c.push_reserved.new.self.items c.self.inside.firsts.items c.args.self.now.lists c.args.at c.args.query c.len-node.result c.index-next.result.now c.self.invariant v
    (slice_get_read c.self.inside.firsts.items (length c.self.inside.firsts.items) c.args.at c.index-next.result.now refl less c.index-next.ensures)
    c.push_reserved.ensures.items
    (let e : c.len-node.result ≡ length c.self.inside.nodes.items = omega (arith, c.len-node.ensures, c.self.inside.nodes.ok.0) in e)

pub index-next-requires : goal.index-next-requires
index-next-requires c =
    let n : length c.args.self.now.lists ≡ length c.self.inside.firsts.items = ap (λ r. length r.lists) (sym c.self.view_is) ∙ walks_length c.self.inside.nodes.items c.self.inside.firsts.items in
    omega (arith, c.requires.there, n, c.self.inside.firsts.ok.0)

pub push_reserved-requires : goal.push_reserved-requires
push_reserved-requires c = omega (arith, c.requires.room, ap (λ r. r.spare) c.self.view_is)

pub index_mut-requires : goal.index_mut-requires
index_mut-requires c =
    let n : length c.args.self.now.lists ≡ length c.self.inside.firsts.items = ap (λ r. length r.lists) (sym c.self.view_is) ∙ walks_length c.self.inside.nodes.items c.self.inside.firsts.items in
    omega (arith, c.requires.there, n, c.self.inside.firsts.ok.0)

pub invariant_of-self : goal.invariant_of-self
invariant_of-self c =
    let n : length c.args.self.now.lists ≡ length c.self.inside.firsts.items = ap (λ r. length r.lists) (sym c.self.view_is) ∙ walks_length c.self.inside.nodes.items c.self.inside.firsts.items in
    let less : c.args.at < length c.self.inside.firsts.items = omega (arith, c.requires.there, n) in
    chained_add c.self.inside.nodes.items c.push_reserved.new.self.items c.self.inside.firsts.items c.args.at c.args.query c.len-node.result c.index-next.result.now c.self.invariant
    (slice_get_read c.self.inside.firsts.items (length c.self.inside.firsts.items) c.args.at c.index-next.result.now refl less c.index-next.ensures)
    c.push_reserved.ensures.items
    (let e : c.len-node.result ≡ length c.self.inside.nodes.items = omega (arith, c.len-node.ensures, c.self.inside.nodes.ok.0) in e)

pub returns-clause-spare : goal.returns-clause-spare
returns-clause-spare c = omega (arith, c.requires.room, ap (λ r. r.spare) c.self.view_is, c.push_reserved.ensures.len, c.push_reserved.ensures.capacity)
