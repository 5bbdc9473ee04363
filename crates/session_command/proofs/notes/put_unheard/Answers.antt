use Rattle.std.proofs.Common.{Some, IfSome}
use Rattle.std.proofs.lemmas.List.Elements.{All-set}
use Rattle.notifiers.specs.declared.notes.Noted.TheVariants.{Unfired}
use Rattle.session_command.specs.Places.{HasHeardNothing}
use Rattle.session_command.proofs.notes.put_unheard.Goals as goal

pub returns-clause-places : goal.returns-clause-places
returns-clause-places g c =
    let heard = g.N.Notify.heard in
    rw c.put.ensures (All-set (λ o. IfSome o (HasHeardNothing heard)) c.args.places.now c.args.number (Some (Unfired c.args.what)) c.requires.unheard c.requires.places)
