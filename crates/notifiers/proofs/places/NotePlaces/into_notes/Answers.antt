use Rattle.std.proofs.Common.{◌≡◌, ◌∙◌, ap, length, rules}
use Rattle.notifiers.specs.Heard.{HasHeard}
use Rattle.notifiers.proofs.Back.{all_back, back_in_order}
use Rattle.notifiers.proofs.places.NotePlaces.into_notes.Goals as goal

pub returns-clause-heard : goal.returns-clause-heard
returns-clause-heard g c =
    rw (c.from_vec.ensures, c.in_ok-those_back.ensures) (all_back (HasHeard g.N.Notify.heard) c.self.inside.places.items c.self.invariant.0)

pub returns-clause-in_order : goal.returns-clause-in_order
returns-clause-in_order g c all =
    let seen : c.args.self ≡ c.self.inside.places.items = search rules in
    back_in_order g.N.Notify.number c.self.inside.places.items c.from_vec.result c.self.invariant.1 (c.from_vec.ensures ∙ c.in_ok-those_back.ensures) (all ∙ ap length seen)
