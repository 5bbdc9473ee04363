use Rattle.std.proofs.lemmas.List.Elements.{All-map}
use Rattle.notifiers.specs.Heard.{HasHeard}
use Rattle.notifiers.specs.declared.notes.Noted.TheVariants.{Unfired}
use Rattle.orc_cli.proofs.asking.untold.Goals as goal

pub returns-clause-heard : goal.returns-clause-heard
returns-clause-heard g c = rw c.unfired.ensures (All-map (HasHeard g.N.Notify.heard) Unfired c.args.notes.items c.requires)
