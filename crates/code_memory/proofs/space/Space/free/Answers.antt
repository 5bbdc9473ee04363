-- The base of a unit that is placed is known, and its placement goes from there.
use Rattle.std.proofs.Common.{◌≡◌, ◌∙◌, ◌+◌, Some, refl, sym, ap, subst, arith}
use Rattle.std.specs.VecDeque.{deque_capacity}
use Rattle.std.specs.Ordering.{nat_cmp}
use Rattle.std.specs.BTreeMap as tree
use Rattle.std.specs.Map.{remove_entry, values_of}
use Rattle.std.specs.List.Sorted.{IsNonDecreasingBy}
use Rattle.orc_ids.specs.declared.limits.TheConstants.{CODE_START, CODE_END}
use Rattle.code_memory.specs.Gaps.{end_of}
use Rattle.code_memory.proofs.Between.{around_fits}
use Rattle.code_memory.proofs.Counted.{rising}
use Rattle.code_memory.proofs.LastShown.{last_left}
use Rattle.code_memory.proofs.Tied.{ready_some, cut_is, gaps_are, gaps_few, tied_free, shown_free, some_placed}
use Rattle.code_memory.proofs.space.Space.free.Goals as goal

pub overflow_add-base : goal.overflow_add-base
overflow_add-base c =
    let s = c.self.inside in
    let r = ready_some c.args.u s.placed.entries s.bases s.gaps.items (deque_capacity s.gaps) s.last c.args.self.now c.self.invariant.tied c.self.view_is c.requires in
    let base : Some c.in-Some.base ≡ Some r.p.base = c.in-Some.ensures.value ∙ r.is.known in
    let same : c.in-Some.base ≡ r.p.base = cc in
    let there : tree.get nat_cmp s.placed c.in-Some.base ≡ Some r.p = ap (tree.get nat_cmp s.placed) same ∙ r.is.there in
    let fits = around_fits CODE_START r.is.owned.front r.p r.is.owned.back CODE_END (cut_is c.args.u s.placed.entries s.bases s.gaps.items (deque_capacity s.gaps) s.last r.p c.in-Some.base (end_of r.p) c.self.invariant.tied r.is same refl).apart in
    omega (arith, same, fits, c.take_at-need.ensures.need r.p there)

pub give_back-self-inside-requires-clause-room : goal.give_back-self-inside-requires-clause-room
give_back-self-inside-requires-clause-room c =
    let s = c.self.inside in
    let r = ready_some c.args.u s.placed.entries s.bases s.gaps.items (deque_capacity s.gaps) s.last c.args.self.now c.self.invariant.tied c.self.view_is c.requires in
    let some = some_placed c.args.u s.placed.entries s.bases r.p r.is in
    omega (arith, gaps_few s.placed.entries s.bases s.gaps.items (deque_capacity s.gaps) s.last c.self.invariant.tied, c.self.invariant.tied.spare some, s.gaps.ok.0)

pub give_back-self-inside-requires-clause-rising : goal.give_back-self-inside-requires-clause-rising
give_back-self-inside-requires-clause-rising c =
    subst (IsNonDecreasingBy (λ g. g.end)) (sym c.self.invariant.tied.filled.below) (rising CODE_START (values_of c.self.inside.placed.entries) CODE_END c.self.invariant.tied.laid_out.apart)

pub invariant_of-self : goal.invariant_of-self
invariant_of-self c =
    let s = c.self.inside in
    let r = ready_some c.args.u s.placed.entries s.bases s.gaps.items (deque_capacity s.gaps) s.last c.args.self.now c.self.invariant.tied c.self.view_is c.requires in
    let base : Some c.in-Some.base ≡ Some r.p.base = c.in-Some.ensures.value ∙ r.is.known in
    let same : c.in-Some.base ≡ r.p.base = cc in
    let there : tree.get nat_cmp s.placed c.in-Some.base ≡ Some r.p = ap (tree.get nat_cmp s.placed) same ∙ r.is.there in
    let stop : c.in-Some.base + c.take_at-need.result ≡ end_of r.p = omega (arith, same, c.take_at-need.ensures.need r.p there) in
    let cut = cut_is c.args.u s.placed.entries s.bases s.gaps.items (deque_capacity s.gaps) s.last r.p c.in-Some.base (c.in-Some.base + c.take_at-need.result) c.self.invariant.tied r.is same stop in
    let left = c.give_back-self-inside.ensures.gaps r.is.owned.front r.p r.is.owned.back cut (gaps_are c.args.u s.placed.entries s.bases s.gaps.items (deque_capacity s.gaps) s.last r.p c.self.invariant.tied r.is) in
    let written = c.take_at-need.ensures.entries ∙ ap (λ b. remove_entry (tree.is_at (nat_cmp b)) s.placed.entries) same in
    record {
      tied = tied_free c.args.u s.placed.entries c.take_at-need.new.placed.entries s.bases c.remove.new.self s.gaps.items c.give_back-self-inside.new.gaps.items (deque_capacity s.gaps) (deque_capacity c.give_back-self-inside.new.gaps) s.last c.give_back-self-inside.result
          r.p c.self.invariant.tied r.is written c.in-Some.ensures.updates.0 left c.give_back-self-inside.ensures.capacity;
      shown = last_left c.args.u s.placed.entries c.take_at-need.new.placed.entries s.bases s.gaps.items (deque_capacity s.gaps) s.last r.p c.in-Some.base s.shown c.leave.new.self c.self.invariant.tied r.is written same c.leave.ensures c.self.invariant.shown;
    }

pub returns-in-Some : goal.returns-in-Some
returns-in-Some c =
    let s = c.self.inside in
    let r = ready_some c.args.u s.placed.entries s.bases s.gaps.items (deque_capacity s.gaps) s.last c.args.self.now c.self.invariant.tied c.self.view_is c.requires in
    let base : Some c.in-Some.base ≡ Some r.p.base = c.in-Some.ensures.value ∙ r.is.known in
    let same : c.in-Some.base ≡ r.p.base = cc in
    let written = c.take_at-need.ensures.entries ∙ ap (λ b. remove_entry (tree.is_at (nat_cmp b)) s.placed.entries) same in
    shown_free c.args.u s.placed.entries c.take_at-need.new.placed.entries s.bases s.gaps.items (deque_capacity s.gaps) s.last r.p c.args.self.now c.self.invariant.tied c.self.view_is r.is written
