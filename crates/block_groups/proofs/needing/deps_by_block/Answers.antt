use Rattle.std.proofs.Common.{ℕ, length, sym, subst, ◌<◌, ◌∙◌}
use Rattle.std.specs.List.{All}
use Rattle.block_groups.proofs.Keyed.{externals_below}
use Rattle.block_groups.proofs.needing.deps_by_block.Goals as goal

pub note_needed-requires-clause-there : goal.note_needed-requires-clause-there
note_needed-requires-clause-there c =
    subst (All (λ (s : ℕ). s < length c.args.g.now.symbols)) (sym (c.as_slice-externals.ensures ∙ c.requires.externals)) (externals_below c.args.g.now c.args.l.now.live)
