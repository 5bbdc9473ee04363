use Rattle.std.proofs.Common.{◌∙◌, ap, map}
use Rattle.session_model.specs.State.{plain_history}
use Rattle.session_units.specs.Units.{meaning_of}
use Rattle.gen_command.specs.Ends.{first_ends}
use Rattle.gen_command.proofs.Runs.{concluded, concluded_stop}
use Rattle.gen_command.proofs.session.conclude.Goals as goal

pub returns-clause-whole : goal.returns-clause-whole
returns-clause-whole g c =
    concluded g.row.JMAX c.args.n c.args.ran.end.set_up _ _ _ _ c.requires
    (c.first_client-ends.ensures ∙ ap (λ cs. first_ends (map (λ x. x.items) cs)) c.as_slice.ensures.value) (ap (plain_history meaning_of) c.journal.ensures.entries)
    c.told-text.result c.told-text.ensures.told

pub returns-clause-never_full : goal.returns-clause-never_full
returns-clause-never_full g c room =
    concluded_stop g.row.JMAX c.args.n c.args.ran.end.set_up _ _ _ _ c.requires
    (c.first_client-ends.ensures ∙ ap (λ cs. first_ends (map (λ x. x.items) cs)) c.as_slice.ensures.value) (ap (plain_history meaning_of) c.journal.ensures.entries)
    c.told-text.result c.told-text.ensures.stopped room
