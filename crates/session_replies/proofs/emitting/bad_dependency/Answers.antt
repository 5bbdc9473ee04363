use Rattle.std.proofs.Common.{ap, sym, ◌∙◌}
use Rattle.session_model.proofs.Choices.{first_flat}
use Rattle.orc_ids.specs.declared.groups.Group.{Group}
use Rattle.session_model.specs.Lists.{first_some}
use Rattle.session_replies.specs.Reasons.{bad_dep_of, bad_in}
use Rattle.session_replies.proofs.emitting.bad_dependency.Goals as goal

pub returns : goal.returns
returns g c = c.first_bad.ensures ∙ ap (λ rows. first_some (bad_in rows) c.args.groups.now) (c.rows.ensures ∙ c.requires.1.1.kept.rows)
    ∙ sym (first_flat (bad_dep_of g.m.rows) (λ (group : Group). group.deps) c.args.groups.now)
