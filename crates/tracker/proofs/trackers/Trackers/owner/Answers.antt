-- The root above its home is that of its tracker.
use Rattle.std.proofs.Common.{◌≡◌, ◌∙◌, Some, ap, sym, subst, rules}
use Rattle.std.proofs.lemmas.Option.{none-some, same_Some}
use Rattle.tracker.specs.Holders.{AreHeld}
use Rattle.tracker.proofs.Holding.{nobody_found, owner_found, whatever}
use Rattle.tracker.proofs.trackers.Trackers.owner.Goals as goal

pub returns-in_err-t-clause-owner : goal.returns-in_err-t-clause-owner
returns-in_err-t-clause-owner c = λ t owns.
    let seen : c.args.self.now.tracks ≡ c.self.inside.tracks.items = search rules in
    absurd (none-some t.0 (sym c.in_err-t.was ∙ (c.find.ensures ∙ owner_found c.args.self.now _ _ _ t c.args.g (subst (λ ts. AreHeld ts c.self.inside.holders.nodes.items c.self.inside.holders.roots.items c.self.inside.holders.homes.items) (sym seen) c.self.invariant.1) owns)))

pub returns-in_err-t-clause-nobody : goal.returns-in_err-t-clause-nobody
returns-in_err-t-clause-nobody c =
    let seen : c.args.self.now.tracks ≡ c.self.inside.tracks.items = search rules in
    whatever c.from_residual.result (nobody_found c.args.self.now _ _ _ c.args.g (subst (λ ts. AreHeld ts c.self.inside.holders.nodes.items c.self.inside.holders.roots.items c.self.inside.holders.homes.items) (sym seen) c.self.invariant.1) (sym c.find.ensures ∙ c.in_err-t.was))

pub returns-clause-owner : goal.returns-clause-owner
returns-clause-owner c = λ t owns.
    let seen : c.args.self.now.tracks ≡ c.self.inside.tracks.items = search rules in
    ap (λ n. Some (record { 0 = n })) (same_Some c.in_ok-t.t t.0 (sym c.in_ok-t.was ∙ (c.find.ensures ∙ owner_found c.args.self.now _ _ _ t c.args.g (subst (λ ts. AreHeld ts c.self.inside.holders.nodes.items c.self.inside.holders.roots.items c.self.inside.holders.homes.items) (sym seen) c.self.invariant.1) owns)))
