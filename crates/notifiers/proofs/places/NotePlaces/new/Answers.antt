use Rattle.std.proofs.Common.{arith, ap, sym, subst, ◌∙◌, ◌≡◌, None, IfSome, replicate}
use Rattle.std.proofs.lemmas.List.{replicate_more}
use Rattle.std.proofs.lemmas.List.Elements.{All-replicate}
use Rattle.notifiers.specs.Heard.{ArePlaced, HasHeard}
use Rattle.notifiers.proofs.Back.{none_placed}
use Rattle.notifiers.proofs.places.NotePlaces.new.Goals as goal

-- src/places.rt:36:9
pub loop-place-init : goal.loop-place-init
loop-place-init g c = c.in_ok-reserve.ensures.items ∙ c.new-places.ensures.items

-- src/places.rt:36:9
pub loop-place-preserved : goal.loop-place-preserved
loop-place-preserved g c = rw (c.in_ok-push.ensures.items, c.loop-place.invariant) (replicate_more c.loop-place._place None)

-- src/places.rt:39:9
pub invariant_of-result : goal.invariant_of-result
invariant_of-result g c =
    let empty = c.loop-place.invariant in (
      rw empty (All-replicate (λ o. IfSome o (HasHeard g.N.Notify.heard)) c.loop-place._place None tt),
      subst (ArePlaced g.N.Notify.number) (sym empty) (none_placed g.N.Notify.number c.loop-place._place),
    )

-- src/places.rt:31:5
pub returns : goal.returns
returns g c =
    let all : c.loop-place._place ≡ c.args.count = omega (arith, c.loop-place.auto._place-end, c.loop-place-test.false) in
    c.loop-place.invariant ∙ ap (λ n. replicate n None) all
