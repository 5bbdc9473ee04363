use Rattle.std.proofs.Common.{ℕ, List, [], ◌++◌, ap, ◌∙◌}
use Rattle.std.specs.Prelude.{flat_map}
use Rattle.std.specs.List.{range_with_len}
use Rattle.std.proofs.lemmas.Result.{IfOk-weaker}
use Rattle.link_model.specs.Graph.{own_symbols}
use Rattle.block_groups.specs.Groups.{group_of}
use Rattle.link_model.specs.declared.graph.GSym.{GSym}
use Rattle.block_groups.specs.Lists.{row}
use Rattle.block_groups.proofs.Groupings.{groups_are}
use Rattle.block_groups.proofs.groups.groups_of.Goals as goal

pub returns : goal.returns
returns c =
    let members = c.in_ok-members.members in
    let deps = c.in_ok-deps.deps in
    let owners = c.deref.ensures.value ∙ c.in_ok-owners.ensures.exact ∙ ap (λ (ss : List GSym). own_symbols ss c.as_slice-2.result.now) c.as_slice.ensures ∙ ap (own_symbols c.args.g.now.symbols) c.as_slice-2.ensures in
    IfOk-weaker c.collect.result _ _
    (λ made e. groups_are c.args.g.now c.args.l.now.live c.deref.result.now c.args.l.now.externals c.args.own.now c.args.bound.now members deps made owners c.requires.externals c.in_ok-members.ensures c.in_ok-deps.ensures
    (e ∙ ap (λ (n : ℕ). flat_map (λ b. group_of (row members b) (row deps b)) (range_with_len 0 n) ++ group_of (row members n) []) c.len.ensures))
    c.collect.ensures
