-- The first gap that the shape fits into gives the lowest free base, and the range comes out of it.
use Rattle.std.proofs.Common.{◌≡◌, ◌∙◌, ◌+◌, ◌<◌, ℕ, List, Some, None, refl, sym, subst, arith}
use Rattle.std.specs.VecDeque.{deque_capacity}
use Rattle.std.specs.Int.{IsPowerOfTwo}
use Rattle.std.specs.Map.{values_of}
use Rattle.orc_ids.specs.declared.limits.TheConstants.{CODE_START}
use Rattle.orc_ids.specs.declared.place.Shape.{Shape}
use Rattle.code_memory.specs.declared.gaps.Gap.{Gap}
use Rattle.code_memory.specs.declared.placement.Placement.{Placement}
use Rattle.code_memory.specs.Gaps.{first_fit, with_rest}
use Rattle.code_memory.specs.Kept.{AreGaps}
use Rattle.code_memory.specs.Places.{placement_of, AreLaidOut, IsFull, IsLowestFree}
use Rattle.code_memory.proofs.Fits.{IsFit, lowest_free}
use Rattle.code_memory.proofs.LastShown.{last_placed}
use Rattle.code_memory.proofs.Tied.{found, missed, new, fit_cut, shown_place, tied_place, gaps_few, power_some, fit_within, if_not_err}
use Rattle.code_memory.proofs.space.Space.place.Goals as goal

-- what the search for a gap told
fit : (gaps : List Gap) (last : ℕ) (ps : List Placement) (shape : Shape) (at base : ℕ) → AreLaidOut ps → AreGaps gaps last ps → 0 < shape.need → IsPowerOfTwo shape.align → Some (at, base) ≡ first_fit shape 0 (with_rest gaps last) → IsFit CODE_START ps shape 0 at base
fit gaps last ps shape at base laid filled some align is =
    found gaps last ps shape at base laid filled some (power_some shape.align align) (sym is)

pub returns-in_default-clause-refused : goal.returns-in_default-clause-refused
returns-in_default-clause-refused c =
    let s = c.self.inside in
    let none : first_fit c.args.shape 0 (with_rest s.gaps.items s.last) ≡ None = sym c.in_default.ensures in
    (refl, subst (λ m. IsFull m c.args.shape) c.self.view_is (missed s.gaps.items s.last (values_of s.placed.entries) c.args.shape c.self.invariant.tied.laid_out c.self.invariant.tied.filled c.requires.need (power_some c.args.shape.align c.requires.align) none))

pub returns-then-is_err-clause-refused : goal.returns-then-is_err-clause-refused
returns-then-is_err-clause-refused c =
    let s = c.self.inside in
    let f = fit s.gaps.items s.last (values_of s.placed.entries) c.args.shape c.in-Some.at c.in-Some.base c.self.invariant.tied.laid_out c.self.invariant.tied.filled c.requires.need c.requires.align c.in-Some.ensures in
    (c.in-Some.base, (subst (λ m. IsLowestFree m c.args.shape c.in-Some.base) c.self.view_is (lowest_free (values_of s.placed.entries) c.args.shape c.in-Some.at c.in-Some.base c.self.invariant.tied.laid_out.apart f)).free)

pub returns-then-is_err-2-clause-refused : goal.returns-then-is_err-2-clause-refused
returns-then-is_err-2-clause-refused c =
    let s = c.self.inside in
    let f = fit s.gaps.items s.last (values_of s.placed.entries) c.args.shape c.in-Some.at c.in-Some.base c.self.invariant.tied.laid_out c.self.invariant.tied.filled c.requires.need c.requires.align c.in-Some.ensures in
    (c.in-Some.base, (subst (λ m. IsLowestFree m c.args.shape c.in-Some.base) c.self.view_is (lowest_free (values_of s.placed.entries) c.args.shape c.in-Some.at c.in-Some.base c.self.invariant.tied.laid_out.apart f)).free)

pub overflow_add-base : goal.overflow_add-base
overflow_add-base c =
    let s = c.self.inside in
    let f = fit s.gaps.items s.last (values_of s.placed.entries) c.args.shape c.in-Some.at c.in-Some.base c.self.invariant.tied.laid_out c.self.invariant.tied.filled c.requires.need c.requires.align c.in-Some.ensures in
    let w = fit_within (values_of s.placed.entries) c.args.shape s.gaps.items s.last c.in-Some.at c.in-Some.base c.self.invariant.tied.laid_out c.self.invariant.tied.filled f in
    omega (arith, w.0)

pub take_out-self-inside-requires-clause-at : goal.take_out-self-inside-requires-clause-at
take_out-self-inside-requires-clause-at c =
    let s = c.self.inside in
    let f = fit s.gaps.items s.last (values_of s.placed.entries) c.args.shape c.in-Some.at c.in-Some.base c.self.invariant.tied.laid_out c.self.invariant.tied.filled c.requires.need c.requires.align c.in-Some.ensures in
    let w = fit_within (values_of s.placed.entries) c.args.shape s.gaps.items s.last c.in-Some.at c.in-Some.base c.self.invariant.tied.laid_out c.self.invariant.tied.filled f in
    omega (arith, w.2, s.gaps.ok.0, c.make_room.ensures.len)

pub take_out-self-inside-requires-clause-room : goal.take_out-self-inside-requires-clause-room
take_out-self-inside-requires-clause-room c =
    let s = c.self.inside in
    let room = if_not_err c.make_room.result _ c.make_room.ensures.room (sym c.is_err.ensures.value ∙ c.if-is_err.false) in
    omega (arith, room, c.make_room.ensures.len, c.len.ensures.len, gaps_few s.placed.entries s.bases s.gaps.items (deque_capacity s.gaps) s.last c.self.invariant.tied, s.gaps.ok.0)

pub returns-clause-lowest : goal.returns-clause-lowest
returns-clause-lowest c =
    let s = c.self.inside in
    let f = fit s.gaps.items s.last (values_of s.placed.entries) c.args.shape c.in-Some.at c.in-Some.base c.self.invariant.tied.laid_out c.self.invariant.tied.filled c.requires.need c.requires.align c.in-Some.ensures in
    subst (λ m. IsLowestFree m c.args.shape c.in-Some.base) c.self.view_is (lowest_free (values_of s.placed.entries) c.args.shape c.in-Some.at c.in-Some.base c.self.invariant.tied.laid_out.apart f)

pub returns-clause-ok : goal.returns-clause-ok
returns-clause-ok c =
    let s = c.self.inside in
    let f = fit s.gaps.items s.last (values_of s.placed.entries) c.args.shape c.in-Some.at c.in-Some.base c.self.invariant.tied.laid_out c.self.invariant.tied.filled c.requires.need c.requires.align c.in-Some.ensures in
    let went = sym c.is_err-2.ensures.value ∙ c.if-is_err-2.false in
    let stored = if_not_err c.record.result _ c.record.ensures.placed went in
    let known = if_not_err c.record.result _ c.record.ensures.bases went in
    let cut = fit_cut (values_of s.placed.entries) c.args.u c.args.shape c.in-Some.at c.in-Some.base (c.in-Some.base + c.args.shape.need) c.self.invariant.tied.laid_out c.requires.need refl f in
    let shown = shown_place c.args.u c.args.shape s.placed.entries c.record.new.placed.entries s.bases s.gaps.items (deque_capacity s.gaps) s.last c.in-Some.at c.in-Some.base (c.in-Some.base + c.args.shape.need) c.args.self.now c.self.invariant.tied c.self.view_is f cut stored in
    shown.1

pub invariant_of-self-2 : goal.invariant_of-self-2
invariant_of-self-2 c =
    let s = c.self.inside in
    let f = fit s.gaps.items s.last (values_of s.placed.entries) c.args.shape c.in-Some.at c.in-Some.base c.self.invariant.tied.laid_out c.self.invariant.tied.filled c.requires.need c.requires.align c.in-Some.ensures in
    let w = fit_within (values_of s.placed.entries) c.args.shape s.gaps.items s.last c.in-Some.at c.in-Some.base c.self.invariant.tied.laid_out c.self.invariant.tied.filled f in
    let went = sym c.is_err-2.ensures.value ∙ c.if-is_err-2.false in
    let stored = if_not_err c.record.result _ c.record.ensures.placed went in
    let known = if_not_err c.record.result _ c.record.ensures.bases went in
    let cut = fit_cut (values_of s.placed.entries) c.args.u c.args.shape c.in-Some.at c.in-Some.base (c.in-Some.base + c.args.shape.need) c.self.invariant.tied.laid_out c.requires.need refl f in
    let shown = shown_place c.args.u c.args.shape s.placed.entries c.record.new.placed.entries s.bases s.gaps.items (deque_capacity s.gaps) s.last c.in-Some.at c.in-Some.base (c.in-Some.base + c.args.shape.need) c.args.self.now c.self.invariant.tied c.self.view_is f cut stored in
    let absent = subst (λ m. placement_of m c.args.u ≡ None) (sym c.self.view_is) c.requires.absent in
    let gaps = subst (λ gs. AreGaps gs s.last (values_of s.placed.entries)) (sym c.make_room.ensures.items) c.self.invariant.tied.filled in
    let left = c.take_out-self-inside.ensures.gaps f.front (new c.args.u c.args.shape c.in-Some.base) f.back cut (subst (AreGaps c.make_room.new.gaps.items s.last) f.split gaps) w.1 in
    let room = if_not_err c.make_room.result _ c.make_room.ensures.room (sym c.is_err.ensures.value ∙ c.if-is_err.false) in
    record {
      tied = tied_place c.args.u c.args.shape s.placed.entries c.record.new.placed.entries s.bases c.record.new.bases s.gaps.items c.take_out-self-inside.new.gaps.items (deque_capacity s.gaps) (deque_capacity c.take_out-self-inside.new.gaps) s.last c.take_out-self-inside.result
          c.in-Some.at c.in-Some.base (c.in-Some.base + c.args.shape.need) c.self.invariant.tied absent f cut shown.0 known left
          (omega (arith, room, c.take_out-self-inside.ensures.capacity, c.make_room.ensures.len, c.len.ensures.len, gaps_few s.placed.entries s.bases s.gaps.items (deque_capacity s.gaps) s.last c.self.invariant.tied, s.gaps.ok.0));
      shown = last_placed c.args.u c.args.shape s.placed.entries c.record.new.placed.entries c.in-Some.at c.in-Some.base s.shown f shown.0 c.self.invariant.shown;
    }

pub returns-clause-laid_out : goal.returns-clause-laid_out
returns-clause-laid_out c = (invariant_of-self-2 c).tied.laid_out
