use Rattle.std.proofs.Common.{◌+◌, subst}
use Rattle.std.specs.Prelude.{◌==◌, OnOk}
use Rattle.std.specs.List.{list_any}
use Rattle.orc_ids.specs.declared.ids.InstId.{InstId}
use Rattle.session_model.specs.Lists.{only_if}
use Rattle.instances.specs.Groups.{IsFilled}
use Rattle.instances.proofs.groups.put_group.Goals as goal

pub returns : goal.returns
returns c =
    let first = c.args.first in
    subst (λ ms. OnOk c.put_members.result (IsFilled (λ j. only_if (list_any (λ (m : InstId). m.0 == first + j) ms) c.args.group.now.deps) c.args.table.now.items c.put_members.new.table.items)) c.as_slice.ensures
    (subst (λ ds. OnOk c.put_members.result (IsFilled (λ j. only_if (list_any (λ (m : InstId). m.0 == first + j) c.as_slice.result.now) ds) c.args.table.now.items c.put_members.new.table.items)) c.in_ok-deps.ensures c.put_members.ensures)
