use Rattle.std.proofs.Common.{◌≡◌, ◌&&◌, ◌||◌, ◌==◌, ℕ, Bool, true, false, not, List, ◌∷◌, [], ◌++◌, slice_get, slice_set, vec_capacity, sym, ap, subst, ◌∙◌, arith}
use Rattle.std.specs.Prelude.{nat_lt}
use Rattle.std.specs.Option.{option_map_or}
use Rattle.orc_ids.specs.declared.ids.InstId.{InstId}
use Rattle.instances.specs.Table.{is_among}
use Rattle.instances.specs.Sets.{Members, AreFlagged}
use Rattle.instances.proofs.Sets.{open_within, shut, added, passed, flagged_push, fits_one}
use Rattle.instances.proofs.inst_set.InstSet.add.Goals as goal

-- what was looked at is the flag
flag : (flags seen : List Bool) (i : ℕ) (answer known : Bool) → seen ≡ flags → answer ≡ option_map_or not (slice_get seen i) false → answer ≡ known → option_map_or not (slice_get flags i) false ≡ known
flag flags seen i answer known e a k = ap (λ (xs : List Bool). option_map_or not (slice_get xs i) false) (sym e) ∙ sym a ∙ k

pub push_reserved-requires : goal.push_reserved-requires
push_reserved-requires c =
    let open_yet = flag c.self.inside.flags.items c.deref.result.now c.args.i.0 c.is_open.result true c.deref.ensures.value c.is_open.ensures c.if-is_open.true in
    omega (arith, fits_one c.self.inside.list.items c.self.inside.flags.items c.args.i.0 (vec_capacity c.self.inside.list) c.self.invariant open_yet)

pub invariant_of-self : goal.invariant_of-self
invariant_of-self c =
    let open_yet = flag c.self.inside.flags.items c.deref.result.now c.args.i.0 c.is_open.result true c.deref.ensures.value c.is_open.ensures c.if-is_open.true in
    let flags : List Bool = slice_set c.self.inside.flags.items c.args.i.0 true in
    subst (λ (xs : List InstId). AreFlagged xs flags (vec_capacity c.push_reserved.new.self)) (sym c.push_reserved.ensures.items)
    (subst (λ n. AreFlagged (c.self.inside.list.items ++ c.args.i ∷ []) flags n) (sym c.push_reserved.ensures.capacity)
    (flagged_push c.self.inside.list.items c.self.inside.flags.items c.args.i (vec_capacity c.self.inside.list) c.self.invariant open_yet))

pub returns-then-is_open-clause-added : goal.returns-then-is_open-clause-added
returns-then-is_open-clause-added c = λ k.
    let open_yet = flag c.self.inside.flags.items c.deref.result.now c.args.i.0 c.is_open.result true c.deref.ensures.value c.is_open.ensures c.if-is_open.true in
    ap (λ (xs : List InstId). is_among xs k) c.push_reserved.ensures.items
    ∙ added c.self.inside.list.items c.self.inside.flags.items c.args.i k (open_within c.self.inside.flags.items c.args.i.0 open_yet)
    ∙ ap (λ (m : Members). is_among m.items k || (c.args.i.0 == k && nat_lt k m.places)) c.self.view_is

pub returns-else-is_open-clause-added : goal.returns-else-is_open-clause-added
returns-else-is_open-clause-added c = λ k.
    let closed = flag c.self.inside.flags.items c.deref.result.now c.args.i.0 c.is_open.result false c.deref.ensures.value c.is_open.ensures c.if-is_open.false in
    subst (λ (m : Members). is_among m.items k ≡ (is_among m.items k || (c.args.i.0 == k && nat_lt k m.places))) c.self.view_is
    (passed c.self.inside.list.items c.self.inside.flags.items c.args.i k c.self.invariant.flagged (shut c.self.inside.flags.items c.args.i.0 closed))
