use Rattle.std.proofs.Common.{◌+◌}
use Rattle.std.specs.Prelude.{◌==◌}
use Rattle.std.specs.List.{list_any}
use Rattle.orc_ids.specs.declared.ids.InstId.{InstId}
use Rattle.session_model.specs.Lists.{only_if, first_some}
use Rattle.instances.proofs.Filled.{filled_same, filled_all, members_give}
use Rattle.instances.proofs.groups.put_members.Goals as goal

pub returns : goal.returns
returns c =
    let members = c.args.members.now in
    let deps = c.args.deps.now in
    let first = c.args.first in
    filled_same (λ j. first_some (λ (m : InstId). only_if (m.0 == first + j) deps) members) (λ j. only_if (list_any (λ (m : InstId). m.0 == first + j) members) deps) c.args.table.now.items c.loop-member.table.items
    (λ j. members_give (first + j) deps members)
    (filled_all (λ (m : InstId) j. only_if (m.0 == first + j) deps) members c.loop-member.member-index c.args.table.now.items c.loop-member.table.items c.loop-member-test.false c.loop-member.invariant)
