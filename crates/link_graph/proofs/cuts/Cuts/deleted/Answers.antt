use Rattle.std.proofs.Common.{◌∙◌, ap}
use Rattle.link_graph.specs.Padding.{deleted}
use Rattle.link_graph.proofs.cuts.Cuts.deleted.Goals as goal

pub deleted_before-requires : goal.deleted_before-requires
deleted_before-requires c = rw c.as_slice.ensures.value c.self.invariant

pub returns-clause-exact : goal.returns-clause-exact
returns-clause-exact c = c.deleted_before.ensures.exact ∙ ap (λ cuts. deleted cuts c.args.at) (c.as_slice.ensures.value ∙ c.self.view_is)
