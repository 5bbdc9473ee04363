use Rattle.std.proofs.Common.{◌∙◌, sym}
use Rattle.session_model.proofs.Choices.{first_flat}
use Rattle.orc_ids.specs.declared.groups.Group.{Group}
use Rattle.session_plain.specs.Calls.{bad_dep_of}
use Rattle.session_plain.proofs.calls.bad_dependency.Goals as goal

pub returns : goal.returns
returns c = c.first_bad.ensures ∙ sym (first_flat (bad_dep_of c.args.rows.now) (λ (g : Group). g.deps) c.args.groups.now)
