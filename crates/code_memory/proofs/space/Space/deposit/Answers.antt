-- The base of a unit that is placed is known, and its placement stands there.
use Rattle.std.proofs.Common.{◌≡◌, ◌∙◌, Some, length, ap}
use Rattle.std.specs.Ordering.{nat_cmp}
use Rattle.std.specs.BTreeMap as tree
use Rattle.std.specs.Map.{set_value}
use Rattle.std.specs.VecDeque.{deque_capacity}
use Rattle.code_memory.proofs.LastShown.{last_filled}
use Rattle.code_memory.proofs.Tied.{ready, tied_fill, shown_fill}
use Rattle.code_memory.proofs.space.Space.deposit.Goals as goal

pub invariant_of-self : goal.invariant_of-self
invariant_of-self c =
    let s = c.self.inside in
    let r = ready c.args.u s.placed.entries s.bases s.gaps.items (deque_capacity s.gaps) s.last c.args.self.now (λ p. length c.args.bytes ≡ p.shape.need) c.self.invariant.tied c.self.view_is c.requires in
    let base : Some c.in-Some.base.now ≡ Some r.p.base = c.in-Some.ensures.value ∙ r.is.known in
    let same : c.in-Some.base.now ≡ r.p.base = cc in
    let there : tree.get nat_cmp s.placed c.in-Some.base.now ≡ Some r.p = ap (tree.get nat_cmp s.placed) same ∙ r.is.there in
    let written = c.fill.ensures r.p there ∙ ap (λ b. set_value (tree.is_at (nat_cmp b)) s.placed.entries (record r.p { bytes = Some c.args.bytes })) same in
    record {
      tied = tied_fill c.args.u c.args.bytes s.placed.entries c.fill.new.placed.entries s.bases s.gaps.items (deque_capacity s.gaps) s.last r.p c.self.invariant.tied r.is r.fact written;
      shown = last_filled c.args.u c.args.bytes s.placed.entries c.fill.new.placed.entries s.bases s.gaps.items (deque_capacity s.gaps) s.last r.p c.in-Some.base.now s.shown c.touch.new.self c.self.invariant.tied r.is written same c.touch.ensures c.self.invariant.shown;
    }

pub returns-in-Some : goal.returns-in-Some
returns-in-Some c =
    let s = c.self.inside in
    let r = ready c.args.u s.placed.entries s.bases s.gaps.items (deque_capacity s.gaps) s.last c.args.self.now (λ p. length c.args.bytes ≡ p.shape.need) c.self.invariant.tied c.self.view_is c.requires in
    let base : Some c.in-Some.base.now ≡ Some r.p.base = c.in-Some.ensures.value ∙ r.is.known in
    let same : c.in-Some.base.now ≡ r.p.base = cc in
    let there : tree.get nat_cmp s.placed c.in-Some.base.now ≡ Some r.p = ap (tree.get nat_cmp s.placed) same ∙ r.is.there in
    let written = c.fill.ensures r.p there ∙ ap (λ b. set_value (tree.is_at (nat_cmp b)) s.placed.entries (record r.p { bytes = Some c.args.bytes })) same in
    shown_fill c.args.u c.args.bytes s.placed.entries c.fill.new.placed.entries s.bases s.gaps.items (deque_capacity s.gaps) s.last r.p c.args.self.now c.self.invariant.tied c.self.view_is r.is written
