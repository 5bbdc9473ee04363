-- One flag more is taken back.
use Rattle.std.proofs.Common.{◌≡◌, ◌<◌, ◌∙◌, ℕ, true, get_or, subst, sym, arith}
use Rattle.std.proofs.lemmas.Option.{get_or_from_slice_get, slice_get_within, slice_get-get_or}
use Rattle.dep_groups.specs.Places.{is_set}
use Rattle.dep_groups.proofs.Lists.{at_contains, contains_at, each_more}
use Rattle.dep_groups.proofs.Seeks.{lowered_cases}
use Rattle.dep_groups.proofs.pending.lower_each.Goals as goal

pub lower-requires : goal.lower-requires
lower-requires c =
    let ids = c.args.instances.now in
    let k = c.loop-instance.instance-index in
    subst (λ n. get_or ids k 0 < n) (sym c.loop-instance.invariant.places) (c.requires.within (get_or ids k 0) (at_contains ids k (get_or ids k 0) (slice_get-get_or ids k 0 c.loop-instance-test.true)))

pub loop-instance-preserved : goal.loop-instance-preserved
loop-instance-preserved c =
    let ids = c.args.instances.now in
    let at = c.loop-instance.instance-index in
    let i = c.loop-instance.invariant in
    let was = lowered_cases (is_set c.loop-instance.flags) (is_set c.lower.new.flags) (get_or ids at 0) c.lower.ensures in
    record {
      places = c.lower.auto.flags ∙ i.places;
      left = λ n is. i.left n (was n is).0;
      low = λ k n below here is. each_more ids at (λ (m : ℕ). is_set c.lower.new.flags m ≡ true → ⊥)
          (λ k m less there high. i.low k m less there (was m high).0)
          (λ m there high. (was m high).1 (get_or_from_slice_get ids at m 0 there)) k n below here is;
    }

pub returns : goal.returns
returns c = λ n is. (
  c.loop-instance.invariant.left n is,
  λ named.
      let k = contains_at c.args.instances.now n named in
      c.loop-instance.invariant.low k.0 n (omega (arith, slice_get_within c.args.instances.now k.0 n k.1, c.loop-instance-test.false)) k.1 is,
)
