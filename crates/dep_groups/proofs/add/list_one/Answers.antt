use Rattle.std.proofs.Common.{◌≡◌, ◌∙◌, ◌==◌, ℕ, Some, List, length, ap, sym, subst, cond, arith}
use Rattle.dep_groups.specs.declared.graph.Edge.{Edge}
use Rattle.dep_groups.specs.Places.{place}
use Rattle.dep_groups.specs.Wake.{IsListed}
use Rattle.dep_groups.proofs.Adds.{listed_first, listed_more, listed_only}
use Rattle.dep_groups.proofs.add.list_one.Goals as goal

pub returns-clause-listed : goal.returns-clause-listed
returns-clause-listed c =
    let e : Edge = record { group = c.args.group; next = c.slot_at-next.result } in
    let old = c.args.edges.now.items in
    let count : c.len.result ≡ length old = omega (arith, c.len.ensures, c.args.edges.now.ok.0) in
    subst (λ (es : List Edge). IsListed es (place c.put.new.places c.args.instance) c.args.group) (sym c.push_reserved.ensures.items)
    (listed_first c.args.firsts.now c.put.new.places old e c.args.instance (λ n. c.put.ensures n ∙ ap (λ (m : ℕ). cond (c.args.instance == n) (Some m) (place c.args.firsts.now n)) count))

pub returns-clause-kept : goal.returns-clause-kept
returns-clause-kept c = λ d g was.
    let e : Edge = record { group = c.args.group; next = c.slot_at-next.result } in
    let old = c.args.edges.now.items in
    let count : c.len.result ≡ length old = omega (arith, c.len.ensures, c.args.edges.now.ok.0) in
    subst (λ (es : List Edge). IsListed es (place c.put.new.places d) g) (sym c.push_reserved.ensures.items)
    (listed_more c.args.firsts.now c.put.new.places old e c.args.instance c.slot_at-next.ensures (λ n. c.put.ensures n ∙ ap (λ (m : ℕ). cond (c.args.instance == n) (Some m) (place c.args.firsts.now n)) count) d g was)

pub returns-clause-only : goal.returns-clause-only
returns-clause-only c = λ d g is.
    let e : Edge = record { group = c.args.group; next = c.slot_at-next.result } in
    let old = c.args.edges.now.items in
    let count : c.len.result ≡ length old = omega (arith, c.len.ensures, c.args.edges.now.ok.0) in
    let f = c.requires.falls in
    listed_only old e f.falls c.args.firsts.now c.put.new.places c.args.instance c.slot_at-next.ensures (λ k n at. f.firsts_there n k at)
    (λ n. c.put.ensures n ∙ ap (λ (m : ℕ). cond (c.args.instance == n) (Some m) (place c.args.firsts.now n)) count) d g
    (subst (λ (es : List Edge). IsListed es (place c.put.new.places d) g) c.push_reserved.ensures.items is)
