use Rattle.std.proofs.Common.{IfSome, Some, sym, subst}
use Rattle.std.proofs.lemmas.List.Elements.{All-set}
use Rattle.notifiers.specs.Heard.{ArePlaced, HasHeard}
use Rattle.notifiers.proofs.Back.{put_placed}
use Rattle.notifiers.proofs.places.NotePlaces.put.Goals as goal

pub invariant_of-self : goal.invariant_of-self
invariant_of-self g c =
    let places = c.self.inside.places.items in (
      rw c.fill.ensures (All-set (λ o. IfSome o (HasHeard g.N.Notify.heard)) places c.args.number (Some c.args.noted) c.requires.heard c.self.invariant.0),
      subst (ArePlaced g.N.Notify.number) (sym c.fill.ensures) (put_placed g.N.Notify.number places c.args.number c.args.noted c.requires.number c.self.invariant.1),
    )
