use Rattle.std.proofs.Common.{List, ℕ, length, ap, ◌∙◌, rules}
use Rattle.got_stubs.specs.declared.parts.Part.TheVariants.{Cell, Stub}
use Rattle.got_stubs.proofs.Walking.{planned, shape_is}
use Rattle.got_stubs.proofs.plan.Plan.shape.Goals as goal

pub returns : goal.returns
returns c =
    shape_is c.args.g.now c.args.self.now c.args.live.now c.need_behind.result c.count_with-cells.result c.count_with-stubs.result c.requires c.need_behind.ensures
    (c.count_with-cells.ensures.exact ∙ ap (λ (xs : List ℕ). length xs) (planned Cell c.args.g.now c.args.self.now c.args.live.now c.deref.result.now c.as_slice-symbols.result.now c.requires (search rules) (search rules)))
    (c.count_with-stubs.ensures.exact ∙ ap (λ (xs : List ℕ). length xs) (planned Stub c.args.g.now c.args.self.now c.args.live.now c.deref-2.result.now c.as_slice-symbols.result.now c.requires (search rules) (search rules)))
