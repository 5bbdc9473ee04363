use Rattle.std.proofs.Common.{◌≡◌, ◌∙◌, ◌+◌, ◌++◌, List, length, ap, arith, length-append}
use Rattle.std.proofs.lemmas.List.{length-map}
use Rattle.orc_ids.specs.declared.ids.InstId.{InstId}
use Rattle.dep_groups.specs.declared.nodes.End.{End}
use Rattle.dep_groups.specs.Frontier.{numbers}
use Rattle.dep_groups.specs.Nodes.{origin}
use Rattle.dep_groups.proofs.Cuts.{count, flat_push, items_push}
use Rattle.dep_groups.proofs.nodes.push_to.Goals as goal

pub returns-clause-flat : goal.returns-clause-flat
returns-clause-flat c =
    let members = c.args.members.now in
    let deps = c.args.deps.now in
    let new = c.push_members.new.table in
    let next = c.push_deps.new.table in
    let group = c.args.group.now in
    let end : End = record { members = c.len.result; deps = c.len-2.result } in
    let more : new.items ≡ members.items ++ group.members = c.push_members.ensures.items ∙ ap (λ (ms : List InstId). members.items ++ ms) c.as_slice.ensures in
    let further : next.items ≡ deps.items ++ numbers group.deps = c.push_deps.ensures.items ∙ ap (λ (ds : List InstId). deps.items ++ numbers ds) c.as_slice-2.ensures in
    let m : c.len.result ≡ length new.items = omega (arith, c.len.ensures, new.ok.0) in
    let d : c.len-2.result ≡ length next.items = omega (arith, c.len-2.ensures, next.ok.0) in
    let r = c.requires.room in
    let few = c.requires.flat.members_few in
    let fewer = c.requires.flat.deps_few in
    flat_push members.items new.items group.members deps.items next.items (numbers group.deps) c.args.ends.now.items _ end c.requires.flat more further c.push_reserved.ensures.items m d
    (omega (arith, few, members.ok.0, ap length more, length-append members.items group.members, r.members_fit))
    (omega (arith, fewer, deps.ok.0, ap length further, length-append deps.items (numbers group.deps), length-map group.deps (λ (i : InstId). i.0), r.deps_fit))

pub returns-clause-number : goal.returns-clause-number
returns-clause-number c = omega (arith, c.len-number.ensures, c.args.ends.now.ok.0, count c.args.members.now.items c.args.deps.now.items origin c.args.ends.now.items)

pub returns-clause-items : goal.returns-clause-items
returns-clause-items c =
    let members = c.args.members.now in
    let deps = c.args.deps.now in
    let new = c.push_members.new.table in
    let next = c.push_deps.new.table in
    let group = c.args.group.now in
    let end : End = record { members = c.len.result; deps = c.len-2.result } in
    let more : new.items ≡ members.items ++ group.members = c.push_members.ensures.items ∙ ap (λ (ms : List InstId). members.items ++ ms) c.as_slice.ensures in
    let further : next.items ≡ deps.items ++ numbers group.deps = c.push_deps.ensures.items ∙ ap (λ (ds : List InstId). deps.items ++ numbers ds) c.as_slice-2.ensures in
    items_push members.items new.items group.members deps.items next.items (numbers group.deps) c.args.ends.now.items _ end c.requires.flat more further c.push_reserved.ensures.items
    (omega (arith, c.len.ensures, new.ok.0)) (omega (arith, c.len-2.ensures, next.ok.0))

pub returns-clause-room : goal.returns-clause-room
returns-clause-room c = λ g m d r. record {
  groups_fit = omega (arith, r.groups_fit, c.push_reserved.ensures.len, c.push_reserved.ensures.capacity);
  members_fit = omega (arith, r.members_fit, c.push_members.ensures.len, c.push_members.ensures.capacity, ap length c.as_slice.ensures);
  deps_fit = omega (arith, r.deps_fit, c.push_deps.ensures.len, c.push_deps.ensures.capacity, ap length c.as_slice-2.ensures);
}
