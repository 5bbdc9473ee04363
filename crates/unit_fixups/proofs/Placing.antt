-- A unit that is sound and laid out, at a base with room, is placed.
use Rattle.std.proofs.Common.{◌≡◌, ℕ, ◌+◌, ◌^◌, ◌<◌, Bool, List, sym, ap, ◌∙◌}
use Rattle.link_model.specs.Layout.{layout_of}
use Rattle.link_model.specs.Sound.{Sound}
use Rattle.link_model.specs.declared.graph.Layout.{Layout}
use Rattle.link_model.specs.declared.graph.LinkGraph.{LinkGraph}
use Rattle.unit_fixups.specs.Sound.{Placed}

pub placed_from : (g : LinkGraph) (l : Layout) (live : List Bool) (base : ℕ) → Sound g → l ≡ layout_of g live → l.shape.need < 2 ^ 27 → base + l.shape.need < 2 ^ 63 → Placed g l base
placed_from g l live base sound laid small room =
    let same : live ≡ l.live = sym (ap (λ (x : Layout). x.live) laid) in
    record { sound = sound; laid = laid ∙ ap (layout_of g) same; small = small; room = room }
