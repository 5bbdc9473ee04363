-- The base that is seen is the image's.
use Rattle.std.proofs.Common.{◌∙◌, Some, ap, arith}
use Rattle.std.specs.Prelude.{option_map}
use Rattle.code_memory.specs.declared.image.Segment.{Segment}
use Rattle.exec_run.proofs.Places.{seen_few, seen_within, seen_get}
use Rattle.exec_run.proofs.ranges.Ranges.base.Goals as goal

pub offset_bounds-segments-k : goal.offset_bounds-segments-k
offset_bounds-segments-k c = omega (arith, c.requires, seen_few _ _ _ c.args.self.now c.self.invariant.copied c.self.view_is)

pub bounds-segments-k : goal.bounds-segments-k
bounds-segments-k c = seen_within _ _ _ c.args.self.now c.args.k c.self.view_is c.requires

pub bounds-segments-k-2 : goal.bounds-segments-k-2
bounds-segments-k-2 c = seen_within _ _ _ c.args.self.now c.args.k c.self.view_is c.requires

pub returns : goal.returns
returns c =
    ap (option_map (λ (s : Segment). s.base)) (seen_get _ _ _ c.args.self.now c.args.k c.index-segments-k.result c.self.view_is c.requires c.index-segments-k.is)
    ∙ ap (λ (s : Segment). Some s.base) c.index-segments-k.is
